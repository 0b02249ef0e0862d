-- `phrase::heads::put_name` meets its contract.
-- Assumes nothing.
use Rattle.std.proofs.Common.{rules}
use Rattle.numeral.specs.Ascii.{ascii}
use Rattle.wording.specs.Wording.{item_name}
use Rattle.wording.proofs.Each.{put_one, put_first}
use Rattle.phrase.proofs.heads.put_name.Goals as goal

pub returns : goal.returns
unfolding ascii item_name
returns c = put_first c.put_text-a.ensures (put_first c.put_text-b.ensures (put_one c.put_text.ensures))
