-- `phrase::fault::put_fault` meets its contract.
-- Assumes nothing.
use Rattle.std.proofs.Common.{rules}
use Rattle.numeral.specs.Ascii.{ascii}
use Rattle.wording.specs.Wording.{fault}
use Rattle.wording.proofs.Each.{put_one, put_first}
use Rattle.phrase.proofs.fault.put_fault.Goals as goal

pub returns : goal.returns
unfolding ascii fault
returns c = put_first c.put_text-a.ensures (put_first c.put_decimal-b.ensures (put_one c.put_why.ensures))
