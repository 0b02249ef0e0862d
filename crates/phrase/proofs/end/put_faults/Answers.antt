-- `phrase::end::put_faults` meets its contract.
-- Assumes nothing.
use Rattle.std.proofs.Common.{rules}
use Rattle.numeral.specs.Ascii.{ascii}
use Rattle.wording.specs.Wording.{faults}
use Rattle.wording.proofs.Each.{put_then}
use Rattle.phrase.proofs.end.put_faults.Goals as goal

pub returns : goal.returns
unfolding ascii faults
returns c = put_then c.put_count-a.ensures (put_then c.put_count-b.ensures c.put_count.ensures)
