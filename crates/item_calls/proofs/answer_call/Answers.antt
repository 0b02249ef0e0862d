-- `item_calls::answer_call` meets its contract.
-- Assumes nothing.
use types.Run.{OneOf, miss}
use denote.Enum.Declared.{tag_of}
use Rattle.line.specs.contracts.Content.{the_type}
use Rattle.line.specs.declared.Content.{Content}
use mathlib.Core.Path.{◌≡◌, refl, ap}
use Prim.Native.Nat.{ℕ}
use mathlib.Core.List.{List, [], ◌∷◌}
use Rattle.item_calls.specs.Lines.{WithFlash, beside, item_line, timed_line, call_line}
use borrow.Enum.Refused.{opened}
use Rattle.item_calls.proofs.answer_call.Goals as goal

others : (content : Content) (numbers : List ℕ) (s : WithFlash) → OneOf (0 ∷ 1 ∷ 2 ∷ 3 ∷ 4 ∷ 9 ∷ 10 ∷ 11 ∷ 12 ∷ 13 ∷ 14 ∷ 15 ∷ 17 ∷ 18 ∷ 19 ∷ 20 ∷ 21 ∷ 22 ∷ 23 ∷ 24 ∷ []) (tag_of the_type content)
    → beside s.flash (timed_line content numbers s.model s.log) ≡ call_line content numbers s
unfolding call_line
others Content.Nothing numbers s h = refl
others Content.TooLong numbers s h = refl
others Content.UnknownWord numbers s h = refl
others Content.BadNumber numbers s h = refl
others Content.WrongCount numbers s h = refl
others Content.Item numbers s h = absurd (miss (0 ∷ 1 ∷ 2 ∷ 3 ∷ 4 ∷ 9 ∷ 10 ∷ 11 ∷ 12 ∷ 13 ∷ 14 ∷ 15 ∷ 17 ∷ 18 ∷ 19 ∷ 20 ∷ 21 ∷ 22 ∷ 23 ∷ 24 ∷ []) 5 tt h)
others (Content.Bus n) numbers s h = absurd (miss (0 ∷ 1 ∷ 2 ∷ 3 ∷ 4 ∷ 9 ∷ 10 ∷ 11 ∷ 12 ∷ 13 ∷ 14 ∷ 15 ∷ 17 ∷ 18 ∷ 19 ∷ 20 ∷ 21 ∷ 22 ∷ 23 ∷ 24 ∷ []) 6 tt h)
others (Content.BusOut size n) numbers s h = absurd (miss (0 ∷ 1 ∷ 2 ∷ 3 ∷ 4 ∷ 9 ∷ 10 ∷ 11 ∷ 12 ∷ 13 ∷ 14 ∷ 15 ∷ 17 ∷ 18 ∷ 19 ∷ 20 ∷ 21 ∷ 22 ∷ 23 ∷ 24 ∷ []) 7 tt h)
others (Content.Tick n) numbers s h = absurd (miss (0 ∷ 1 ∷ 2 ∷ 3 ∷ 4 ∷ 9 ∷ 10 ∷ 11 ∷ 12 ∷ 13 ∷ 14 ∷ 15 ∷ 17 ∷ 18 ∷ 19 ∷ 20 ∷ 21 ∷ 22 ∷ 23 ∷ 24 ∷ []) 8 tt h)
others (Content.Flight up down) numbers s h = refl
others (Content.Temperature n) numbers s h = refl
others Content.Int numbers s h = refl
others Content.Awaited numbers s h = refl
others Content.Regs numbers s h = refl
others (Content.Expect a n) numbers s h = refl
others Content.Show numbers s h = refl
others (Content.Set a n) numbers s h = absurd (miss (0 ∷ 1 ∷ 2 ∷ 3 ∷ 4 ∷ 9 ∷ 10 ∷ 11 ∷ 12 ∷ 13 ∷ 14 ∷ 15 ∷ 17 ∷ 18 ∷ 19 ∷ 20 ∷ 21 ∷ 22 ∷ 23 ∷ 24 ∷ []) 16 tt h)
others (Content.At t) numbers s h = refl
others (Content.Stretch n) numbers s h = refl
others Content.Frames numbers s h = refl
others (Content.Probe n) numbers s h = refl
others Content.Degrees numbers s h = refl
others (Content.Record n) numbers s h = refl
others (Content.Listing old first) numbers s h = refl
others (Content.Quietest n) numbers s h = refl

pub bus-requires : goal.bus-requires
bus-requires c = let bound = rw c.in-Bus.is at c.requires in bound

pub bus_out-requires : goal.bus_out-requires
bus_out-requires c = let bound = rw c.in-BusOut.is at c.requires in (bound.1, bound.0)

pub set-requires : goal.set-requires
set-requires c = let bound = rw c.in-Set.is at c.requires in bound.3

pub returns-in-Tick : goal.returns-in-Tick
unfolding call_line beside
returns-in-Tick c = rw c.in-Tick.is (ap (beside _) c.tick.ensures)

pub returns-in-Bus : goal.returns-in-Bus
unfolding call_line
returns-in-Bus c = rw c.in-Bus.is (c.bus.ensures)

pub returns-in-BusOut : goal.returns-in-BusOut
unfolding call_line
returns-in-BusOut c = rw c.in-BusOut.is (c.bus_out.ensures)

pub returns-in-Set : goal.returns-in-Set
unfolding call_line
returns-in-Set c = rw c.in-Set.is (c.set.ensures)

pub returns-in-Item : goal.returns-in-Item
unfolding call_line item_line
returns-in-Item c = rw c.in-Item.is ((rw (c.start.ensures.0, c.start.ensures.1, c.start.ensures.2)))

pub returns-in_default : goal.returns-in_default
unfolding beside
returns-in_default c = rw (← others _ _ _ (opened c.in_default.in_default-own.keys6)) (ap (beside _) c.answer_time.ensures)
