-- `session::input::end_line` meets its contract.
-- Assumes nothing.
use native.Mathlib.Omega.{arith}
use lib.ListN.{length-set}
use Rattle.session.proofs.InputLaws.{ended-none, ended_some}
use Rattle.session.proofs.input.end_line.Goals as goal

pub returns-then-held-eq0 : goal.returns-then-held-eq0
returns-then-held-eq0 c = (ended-none _ _ c.if-held-eq0.true, omega arith)

pub returns : goal.returns
returns c = (ended_some _ _ c.requires c.if-held-eq0.false, rw length-set (omega (arith, c.requires)))
