-- `evaluation::limit::late_from` meets its contract.
use mathlib.Core.Path.{ap}
use Prim.Native.Nat.{ℕ}
use native.Mathlib.Omega.{arith}
use Rattle.unit.specs.declared.Quanta.{Quanta}
use Rattle.hit.proofs.Rows.{late-row}
use Rattle.evaluation.proofs.limit.late_from.Goals as goal

abbrev quanta : ℕ → Quanta
quanta n = record { 0 = n }

pub returns-then-bound-gt-NO_HIT : goal.returns-then-bound-gt-NO_HIT
returns-then-bound-gt-NO_HIT c = ap quanta (omega (arith, late-row c.args.timeout))

pub returns : goal.returns
returns c = ap quanta (omega (arith, late-row c.args.timeout))
