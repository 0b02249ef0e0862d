-- `phrase::kept::put_quietest` meets its contract.
-- Assumes nothing.
use Rattle.std.proofs.Common.{rules}
use Rattle.numeral.specs.Ascii.{ascii}
use Rattle.wording.specs.Wording.{quietest}
use Rattle.wording.proofs.Each.{put_first, put_then}
use Rattle.phrase.proofs.kept.put_quietest.Goals as goal

pub returns : goal.returns
unfolding ascii quietest
returns c = put_first c.put_text-a.ensures (put_then c.put_count-b.ensures c.put_count.ensures)
