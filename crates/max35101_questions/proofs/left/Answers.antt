-- `max35101_questions::left` meets its contract.
use Rattle.max35101_questions.proofs.left.Goals as goal

pub returns-in-Ok : goal.returns-in-Ok
returns-in-Ok c = record { coded = rw c.in-Ok.is; worded = rw c.in-Ok.is c.put.ensures }

pub returns-in-Err : goal.returns-in-Err
returns-in-Err c = record { coded = rw c.in-Err.is c.number.ensures.0; worded = rw c.in-Err.is }
