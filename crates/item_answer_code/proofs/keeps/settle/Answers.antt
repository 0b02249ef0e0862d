-- `item_answer_code::keeps::settle` meets its contract. Assumes nothing.
use Rattle.item_line.specs.OwnRead.{as_fault}
use Rattle.item_answer_code.proofs.Firsts.{no_both}
use Rattle.item_answer_code.proofs.keeps.settle.Goals as goal

pub returns-then-fits : goal.returns-then-fits
returns-then-fits c = record { fitting = λ h. c.close.ensures; full = λ h. no_both _ c.if-fits.true h }

pub returns : goal.returns
unfolding as_fault
returns c = record { fitting = λ h. no_both _ h c.if-fits.false; full = λ h. c.bad.ensures }
