-- `phrase::heads::put_listing` meets its contract.
-- Assumes nothing.
use Rattle.std.proofs.Common.{rules}
use Rattle.numeral.specs.Ascii.{ascii}
use Rattle.wording.specs.Wording.{listing_head}
use Rattle.wording.proofs.Each.{put_first}
use Rattle.phrase.proofs.heads.put_listing.Goals as goal

pub returns : goal.returns
unfolding ascii listing_head
returns c = put_first c.put_text-a.ensures c.put_count.ensures
