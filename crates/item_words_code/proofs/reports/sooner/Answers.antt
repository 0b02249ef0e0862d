-- `item_words_code::reports::sooner` meets its contract.
-- Assumes nothing.
use Prim.Native.Nat.{ℕ, ◌≤◌}
use mathlib.Core.Path.{◌≡◌}
use Rattle.std.specs.Prelude.{Option, None, Some}
use borrow.Author.Tests.{le-leb, lt-leb}
use Rattle.item_words_code.specs.OwnReports.{sooner}
use Rattle.item_words_code.proofs.reports.sooner.Goals as goal

kept : (named passed : ℕ) (best : Option ℕ) → named ≤ passed → best ≡ sooner named passed best
unfolding sooner
kept named passed None h = rw (le-leb named passed h)
kept named passed (Some other) h = rw (le-leb named passed h)

pub returns-then-tick-passed : goal.returns-then-tick-passed
returns-then-tick-passed c = kept _ _ _ (rw (← c.from-tick.ensures) c.if-tick-passed.true)

pub returns-in-Some : goal.returns-in-Some
unfolding sooner
returns-in-Some c = rw (c.in-Some.is, ← c.from-tick.ensures, lt-leb _ _ c.if-tick-passed.false, c.min.ensures)

pub returns-in-None : goal.returns-in-None
unfolding sooner
returns-in-None c = rw (c.in-None.is, ← c.from-tick.ensures, lt-leb _ _ c.if-tick-passed.false)
