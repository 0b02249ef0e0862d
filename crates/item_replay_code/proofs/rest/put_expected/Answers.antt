-- `item_replay_code::rest::put_expected` meets its contract.
-- Assumes nothing.
use Rattle.numeral.specs.Ascii.{ascii}
use Rattle.text.proofs.Putting.{puts_none, puts_first}
use Rattle.item_line.specs.OwnRead.{as_expected}
use Rattle.item_answer.specs.Step.{expected_text}
use Rattle.item_replay_code.proofs.rest.put_expected.Goals as goal

pub returns-in-None : goal.returns-in-None
unfolding ascii as_expected expected_text
returns-in-None c = rw c.in-None.is (puts_none _ _)

pub returns-in-Some : goal.returns-in-Some
unfolding ascii as_expected expected_text
returns-in-Some c = rw c.in-Some.is (puts_first c.put_text-a.ensures (rw c.part_of.ensures at c.put_spaced.ensures))
