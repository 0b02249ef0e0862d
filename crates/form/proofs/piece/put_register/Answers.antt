-- `form::piece::put_register` meets its contract.
-- Assumes nothing.
use Rattle.form.specs.Form.{register_texts}
use Rattle.numeral.specs.Ascii.{ascii}
use Rattle.wording.proofs.Each.{put_one, put_first}
use Rattle.form.proofs.piece.put_register.Goals as goal

pub returns : goal.returns
unfolding ascii register_texts
returns c = put_first c.put_hex-a.ensures (put_one c.put_text.ensures)
