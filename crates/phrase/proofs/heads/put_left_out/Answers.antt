-- `phrase::heads::put_left_out` meets its contract.
-- Assumes nothing.
use Rattle.std.proofs.Common.{rules}
use Rattle.numeral.specs.Ascii.{ascii}
use Rattle.wording.specs.Wording.{left_out}
use Rattle.wording.proofs.Each.{put_one}
use Rattle.phrase.proofs.heads.put_left_out.Goals as goal

pub returns : goal.returns
unfolding left_out ascii
returns c = put_one c.put_text.ensures
