-- `checker::fault::is_past_or_full` meets its contract.
-- Assumes nothing.
use types.Run.{OneOf, miss}
use denote.Enum.Declared.{tag_of}
use Rattle.line.specs.contracts.Content.{the_type}
use Rattle.line.specs.declared.Content.{Content}
use mathlib.Core.Path.{◌≡◌, refl}
use Prim.Native.Nat.{ℕ}
use mathlib.Core.List.{List, [], ◌∷◌}
use mathlib.Core.Bool.{false}
use Rattle.item_checks.specs.Fault.{is_past_or_full}
use borrow.Enum.Refused.{opened}
use Rattle.checker.proofs.fault.is_past_or_full.Goals as goal

others : (content : Content) (counts : List ℕ) → OneOf (0 ∷ 1 ∷ 2 ∷ 3 ∷ 4 ∷ 5 ∷ 6 ∷ 7 ∷ 8 ∷ 9 ∷ 10 ∷ 11 ∷ 12 ∷ 13 ∷ 14 ∷ 15 ∷ 16 ∷ 18 ∷ 19 ∷ 21 ∷ 23 ∷ 24 ∷ []) (tag_of the_type content) → false ≡ is_past_or_full content counts
unfolding is_past_or_full
others Content.Nothing counts h = refl
others Content.TooLong counts h = refl
others Content.UnknownWord counts h = refl
others Content.BadNumber counts h = refl
others Content.WrongCount counts h = refl
others Content.Item counts h = refl
others (Content.Bus n) counts h = refl
others (Content.BusOut size n) counts h = refl
others (Content.Tick n) counts h = refl
others (Content.Flight up down) counts h = refl
others (Content.Temperature n) counts h = refl
others Content.Int counts h = refl
others Content.Awaited counts h = refl
others Content.Regs counts h = refl
others (Content.Expect a n) counts h = refl
others Content.Show counts h = refl
others (Content.Set a n) counts h = refl
others (Content.At t) counts h = absurd (miss (0 ∷ 1 ∷ 2 ∷ 3 ∷ 4 ∷ 5 ∷ 6 ∷ 7 ∷ 8 ∷ 9 ∷ 10 ∷ 11 ∷ 12 ∷ 13 ∷ 14 ∷ 15 ∷ 16 ∷ 18 ∷ 19 ∷ 21 ∷ 23 ∷ 24 ∷ []) 17 tt h)
others (Content.Stretch n) counts h = refl
others Content.Frames counts h = refl
others (Content.Probe n) counts h = absurd (miss (0 ∷ 1 ∷ 2 ∷ 3 ∷ 4 ∷ 5 ∷ 6 ∷ 7 ∷ 8 ∷ 9 ∷ 10 ∷ 11 ∷ 12 ∷ 13 ∷ 14 ∷ 15 ∷ 16 ∷ 18 ∷ 19 ∷ 21 ∷ 23 ∷ 24 ∷ []) 20 tt h)
others Content.Degrees counts h = refl
others (Content.Record n) counts h = absurd (miss (0 ∷ 1 ∷ 2 ∷ 3 ∷ 4 ∷ 5 ∷ 6 ∷ 7 ∷ 8 ∷ 9 ∷ 10 ∷ 11 ∷ 12 ∷ 13 ∷ 14 ∷ 15 ∷ 16 ∷ 18 ∷ 19 ∷ 21 ∷ 23 ∷ 24 ∷ []) 22 tt h)
others (Content.Listing old first) counts h = refl
others (Content.Quietest n) counts h = refl

pub returns-in-At : goal.returns-in-At
unfolding is_past_or_full
returns-in-At c = rw c.in-At.is

pub returns-in-Probe : goal.returns-in-Probe
unfolding is_past_or_full
returns-in-Probe c = rw (c.in-Probe.is, ← c.more.ensures)

pub returns-in-Record : goal.returns-in-Record
unfolding is_past_or_full
returns-in-Record c = rw (c.in-Record.is, ← c.at_least_one.ensures, ← c.more-in-Record.ensures)

pub returns-in_default : goal.returns-in_default
returns-in_default c = others _ _ (opened c.in_default.in_default-own.keys4)
