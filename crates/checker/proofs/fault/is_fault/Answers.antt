-- `checker::fault::is_fault` meets its contract.
-- Assumes nothing.
use types.Run.{OneOf, miss}
use denote.Enum.Declared.{tag_of}
use Rattle.line.specs.contracts.Content.{the_type}
use Rattle.line.specs.declared.Content.{Content}
use mathlib.Core.Path.{◌≡◌}
use Prim.Native.Nat.{ℕ}
use mathlib.Core.List.{List, [], ◌∷◌}
use mathlib.Core.Bool.{Bool}
use Rattle.item_checks.specs.Fault.{is_past_or_full, is_fault}
use borrow.Enum.Refused.{opened}
use Rattle.checker.proofs.fault.is_fault.Goals as goal

others : (content : Content) (counts : List ℕ) {b : Bool} → OneOf (0 ∷ 5 ∷ 6 ∷ 7 ∷ 8 ∷ 9 ∷ 10 ∷ 11 ∷ 12 ∷ 13 ∷ 14 ∷ 15 ∷ 16 ∷ 17 ∷ 18 ∷ 19 ∷ 20 ∷ 21 ∷ 22 ∷ 23 ∷ 24 ∷ []) (tag_of the_type content) → b ≡ is_past_or_full content counts → b ≡ is_fault content counts
unfolding is_fault
others Content.Nothing counts h e = e
others Content.TooLong counts h e = absurd (miss (0 ∷ 5 ∷ 6 ∷ 7 ∷ 8 ∷ 9 ∷ 10 ∷ 11 ∷ 12 ∷ 13 ∷ 14 ∷ 15 ∷ 16 ∷ 17 ∷ 18 ∷ 19 ∷ 20 ∷ 21 ∷ 22 ∷ 23 ∷ 24 ∷ []) 1 tt h)
others Content.UnknownWord counts h e = absurd (miss (0 ∷ 5 ∷ 6 ∷ 7 ∷ 8 ∷ 9 ∷ 10 ∷ 11 ∷ 12 ∷ 13 ∷ 14 ∷ 15 ∷ 16 ∷ 17 ∷ 18 ∷ 19 ∷ 20 ∷ 21 ∷ 22 ∷ 23 ∷ 24 ∷ []) 2 tt h)
others Content.BadNumber counts h e = absurd (miss (0 ∷ 5 ∷ 6 ∷ 7 ∷ 8 ∷ 9 ∷ 10 ∷ 11 ∷ 12 ∷ 13 ∷ 14 ∷ 15 ∷ 16 ∷ 17 ∷ 18 ∷ 19 ∷ 20 ∷ 21 ∷ 22 ∷ 23 ∷ 24 ∷ []) 3 tt h)
others Content.WrongCount counts h e = absurd (miss (0 ∷ 5 ∷ 6 ∷ 7 ∷ 8 ∷ 9 ∷ 10 ∷ 11 ∷ 12 ∷ 13 ∷ 14 ∷ 15 ∷ 16 ∷ 17 ∷ 18 ∷ 19 ∷ 20 ∷ 21 ∷ 22 ∷ 23 ∷ 24 ∷ []) 4 tt h)
others Content.Item counts h e = e
others (Content.Bus n) counts h e = e
others (Content.BusOut size n) counts h e = e
others (Content.Tick n) counts h e = e
others (Content.Flight up down) counts h e = e
others (Content.Temperature n) counts h e = e
others Content.Int counts h e = e
others Content.Awaited counts h e = e
others Content.Regs counts h e = e
others (Content.Expect a n) counts h e = e
others Content.Show counts h e = e
others (Content.Set a n) counts h e = e
others (Content.At t) counts h e = e
others (Content.Stretch n) counts h e = e
others Content.Frames counts h e = e
others (Content.Probe n) counts h e = e
others Content.Degrees counts h e = e
others (Content.Record n) counts h e = e
others (Content.Listing old first) counts h e = e
others (Content.Quietest n) counts h e = e

pub returns-in-TooLong : goal.returns-in-TooLong
unfolding is_fault
returns-in-TooLong c = rw c.in-TooLong.is

pub returns-in-UnknownWord : goal.returns-in-UnknownWord
unfolding is_fault
returns-in-UnknownWord c = rw c.in-UnknownWord.is

pub returns-in-BadNumber : goal.returns-in-BadNumber
unfolding is_fault
returns-in-BadNumber c = rw c.in-BadNumber.is

pub returns-in-WrongCount : goal.returns-in-WrongCount
unfolding is_fault
returns-in-WrongCount c = rw c.in-WrongCount.is

pub returns-in_default : goal.returns-in_default
returns-in_default c = others _ _ (opened c.in_default.in_default-own.keys5) c.is_past_or_full.ensures
