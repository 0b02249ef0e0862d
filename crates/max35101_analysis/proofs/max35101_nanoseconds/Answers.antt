-- `max35101_analysis::max35101_nanoseconds` meets its contract.
use mathlib.Core.Path.{subst}
use lib.IntN.{ℤ}
use mir.Syntax.{w32}
use mir.ValLaws.{to_z-of_z}
use Rattle.nanosecond.specs.Nanosecond.{Nanoseconds}
use borrow.Author.Rules.{rules}
use Rattle.max35101_analysis.proofs.max35101_nanoseconds.Goals as goal

pub returns : goal.returns
returns c =
    subst (λ (z : ℤ). Nanoseconds z c.nanoseconds.result) (to_z-of_z w32 c.args.quanta c.ranges.quanta) c.nanoseconds.ensures
