-- `finding::told` meets its contract.
use Rattle.finding.proofs.told.Goals as goal

pub returns-in-Ok : goal.returns-in-Ok
returns-in-Ok g c = record { coded = rw c.in-Ok.is; worded = rw c.in-Ok.is c.put.ensures }

pub returns-in-Err : goal.returns-in-Err
returns-in-Err g c = record { coded = rw c.in-Err.is c.number.ensures.0; worded = rw c.in-Err.is }
