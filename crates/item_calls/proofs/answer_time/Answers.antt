-- `item_calls::answer_time` meets its contract.
-- Assumes nothing.
use types.Run.{OneOf, miss}
use denote.Enum.Declared.{tag_of}
use Rattle.line.specs.contracts.Content.{the_type}
use Rattle.line.specs.declared.Content.{Content}
use mathlib.Core.Path.{◌≡◌, refl}
use Prim.Native.Nat.{ℕ}
use mathlib.Core.List.{List, [], ◌∷◌}
use Rattle.device.specs.declared.Model.{Model}
use Rattle.item_state.specs.Log.{Log}
use Rattle.item_calls.specs.Lines.{timed_line}
use borrow.Enum.Refused.{opened}
use Rattle.item_calls.proofs.answer_time.Goals as goal

others : (content : Content) (numbers : List ℕ) (m : Model) (l : Log) → OneOf (0 ∷ 1 ∷ 2 ∷ 3 ∷ 4 ∷ 5 ∷ 6 ∷ 7 ∷ 8 ∷ 11 ∷ 12 ∷ 13 ∷ 14 ∷ 15 ∷ 16 ∷ 19 ∷ 20 ∷ 21 ∷ 22 ∷ 23 ∷ 24 ∷ []) (tag_of the_type content)
    → record { model = m; log = l } ≡ timed_line content numbers m l
unfolding timed_line
others Content.Nothing numbers m l h = refl
others Content.TooLong numbers m l h = refl
others Content.UnknownWord numbers m l h = refl
others Content.BadNumber numbers m l h = refl
others Content.WrongCount numbers m l h = refl
others Content.Item numbers m l h = refl
others (Content.Bus n) numbers m l h = refl
others (Content.BusOut size n) numbers m l h = refl
others (Content.Tick n) numbers m l h = refl
others (Content.Flight up down) numbers m l h = absurd (miss (0 ∷ 1 ∷ 2 ∷ 3 ∷ 4 ∷ 5 ∷ 6 ∷ 7 ∷ 8 ∷ 11 ∷ 12 ∷ 13 ∷ 14 ∷ 15 ∷ 16 ∷ 19 ∷ 20 ∷ 21 ∷ 22 ∷ 23 ∷ 24 ∷ []) 9 tt h)
others (Content.Temperature n) numbers m l h = absurd (miss (0 ∷ 1 ∷ 2 ∷ 3 ∷ 4 ∷ 5 ∷ 6 ∷ 7 ∷ 8 ∷ 11 ∷ 12 ∷ 13 ∷ 14 ∷ 15 ∷ 16 ∷ 19 ∷ 20 ∷ 21 ∷ 22 ∷ 23 ∷ 24 ∷ []) 10 tt h)
others Content.Int numbers m l h = refl
others Content.Awaited numbers m l h = refl
others Content.Regs numbers m l h = refl
others (Content.Expect a n) numbers m l h = refl
others Content.Show numbers m l h = refl
others (Content.Set a n) numbers m l h = refl
others (Content.At t) numbers m l h = absurd (miss (0 ∷ 1 ∷ 2 ∷ 3 ∷ 4 ∷ 5 ∷ 6 ∷ 7 ∷ 8 ∷ 11 ∷ 12 ∷ 13 ∷ 14 ∷ 15 ∷ 16 ∷ 19 ∷ 20 ∷ 21 ∷ 22 ∷ 23 ∷ 24 ∷ []) 17 tt h)
others (Content.Stretch n) numbers m l h = absurd (miss (0 ∷ 1 ∷ 2 ∷ 3 ∷ 4 ∷ 5 ∷ 6 ∷ 7 ∷ 8 ∷ 11 ∷ 12 ∷ 13 ∷ 14 ∷ 15 ∷ 16 ∷ 19 ∷ 20 ∷ 21 ∷ 22 ∷ 23 ∷ 24 ∷ []) 18 tt h)
others Content.Frames numbers m l h = refl
others (Content.Probe n) numbers m l h = refl
others Content.Degrees numbers m l h = refl
others (Content.Record n) numbers m l h = refl
others (Content.Listing old first) numbers m l h = refl
others (Content.Quietest n) numbers m l h = refl

pub returns-in-At : goal.returns-in-At
unfolding timed_line
returns-in-At c = rw c.in-At.is c.at.ensures

pub returns-in-Stretch : goal.returns-in-Stretch
unfolding timed_line
returns-in-Stretch c = rw c.in-Stretch.is (c.stretch.ensures)

pub returns-in-Flight : goal.returns-in-Flight
unfolding timed_line
returns-in-Flight c = rw c.in-Flight.is (c.flight.ensures)

pub returns-in-Temperature : goal.returns-in-Temperature
unfolding timed_line
returns-in-Temperature c = rw c.in-Temperature.is (c.temperature.ensures)

pub returns-in_default : goal.returns-in_default
returns-in_default c = (others _ _ _ _ (opened c.in_default.in_default-own.keys5))
