-- `item_keep_code::judge::put_judged` meets its contract.
-- Assumes nothing.
use mathlib.Core.Path.{refl}
use Rattle.text.specs.Text.{text_where}
use Rattle.text.proofs.Putting.{puts}
use Rattle.item_line.specs.OwnRead.{as_expected}
use Rattle.item_answer.specs.Step.{agrees, disagrees, expected_text, expects}
use Rattle.item_keep_code.proofs.judge.put_judged.Goals as goal

pub returns-in-None : goal.returns-in-None
unfolding text_where disagrees expected_text agrees expects as_expected
returns-in-None c = rw c.in-None.is (record { text = puts c.put_text.ensures; agrees = refl; differs = refl; expects = refl })

pub returns-in-Some : goal.returns-in-Some
unfolding as_expected
returns-in-Some c = rw (c.in-Some.is, ← c.part_of.ensures) c.put_marked.ensures
