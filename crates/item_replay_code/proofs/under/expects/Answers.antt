-- `item_replay_code::under::expects` meets its contract.
-- Assumes nothing.
use Rattle.item_line.specs.OwnRead.{as_expected}
use Rattle.item_answer.specs.Step.{expects}
use Rattle.item_replay_code.proofs.under.expects.Goals as goal

pub returns-in-None : goal.returns-in-None
unfolding as_expected expects
returns-in-None c = rw c.in-None.is

pub returns-in-Some : goal.returns-in-Some
unfolding as_expected expects
returns-in-Some c = rw (c.in-Some.is, c.count_words.ensures, c.part_of.ensures)
