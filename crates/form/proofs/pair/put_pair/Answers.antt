-- `form::pair::put_pair` meets its contract.
-- Assumes nothing.
use Rattle.form.specs.Form.{pair_texts}
use Rattle.numeral.specs.Ascii.{ascii}
use Rattle.wording.proofs.Each.{put_one, put_first}
use Rattle.form.proofs.pair.put_pair.Goals as goal

pub returns : goal.returns
unfolding ascii pair_texts
returns c = put_first c.put_hex-a.ensures (put_first c.put_text-b.ensures (put_first c.put_hex-c.ensures (put_one c.put_text.ensures)))
