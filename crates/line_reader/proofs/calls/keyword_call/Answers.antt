-- `line_reader::calls::keyword_call` meets its contract.
-- Assumes nothing.
use Prim.Native.Nat.{ℕ}
use mathlib.Core.List.{List, [], ◌∷◌}
use mathlib.Core.Path.{◌≡◌, refl, ◌∙◌}
use types.Run.{OneOf, miss}
use denote.Enum.Declared.{tag_of}
use Rattle.line.specs.declared.Keyword.{Keyword}
use Rattle.line.specs.contracts.Keyword.{the_type}
use Rattle.line.specs.Line.{later_reading, keyword_reading}
use Rattle.line_reader.proofs.calls.keyword_call.Goals as goal

others : (k : Keyword) (l : List ℕ) (ws : List (List ℕ)) → OneOf (10 ∷ 11 ∷ 12 ∷ 13 ∷ 14 ∷ 15 ∷ 16 ∷ 17 ∷ 18 ∷ 19 ∷ []) (tag_of the_type k) → later_reading k l ws ≡ keyword_reading k l ws
unfolding keyword_reading
others Keyword.Item l ws h = absurd (miss (10 ∷ 11 ∷ 12 ∷ 13 ∷ 14 ∷ 15 ∷ 16 ∷ 17 ∷ 18 ∷ 19 ∷ []) 0 tt h)
others Keyword.Bus l ws h = absurd (miss (10 ∷ 11 ∷ 12 ∷ 13 ∷ 14 ∷ 15 ∷ 16 ∷ 17 ∷ 18 ∷ 19 ∷ []) 1 tt h)
others Keyword.Tick l ws h = absurd (miss (10 ∷ 11 ∷ 12 ∷ 13 ∷ 14 ∷ 15 ∷ 16 ∷ 17 ∷ 18 ∷ 19 ∷ []) 2 tt h)
others Keyword.Flight l ws h = absurd (miss (10 ∷ 11 ∷ 12 ∷ 13 ∷ 14 ∷ 15 ∷ 16 ∷ 17 ∷ 18 ∷ 19 ∷ []) 3 tt h)
others Keyword.Temperature l ws h = absurd (miss (10 ∷ 11 ∷ 12 ∷ 13 ∷ 14 ∷ 15 ∷ 16 ∷ 17 ∷ 18 ∷ 19 ∷ []) 4 tt h)
others Keyword.Int l ws h = absurd (miss (10 ∷ 11 ∷ 12 ∷ 13 ∷ 14 ∷ 15 ∷ 16 ∷ 17 ∷ 18 ∷ 19 ∷ []) 5 tt h)
others Keyword.Awaited l ws h = absurd (miss (10 ∷ 11 ∷ 12 ∷ 13 ∷ 14 ∷ 15 ∷ 16 ∷ 17 ∷ 18 ∷ 19 ∷ []) 6 tt h)
others Keyword.Regs l ws h = absurd (miss (10 ∷ 11 ∷ 12 ∷ 13 ∷ 14 ∷ 15 ∷ 16 ∷ 17 ∷ 18 ∷ 19 ∷ []) 7 tt h)
others Keyword.Expect l ws h = absurd (miss (10 ∷ 11 ∷ 12 ∷ 13 ∷ 14 ∷ 15 ∷ 16 ∷ 17 ∷ 18 ∷ 19 ∷ []) 8 tt h)
others Keyword.Show l ws h = absurd (miss (10 ∷ 11 ∷ 12 ∷ 13 ∷ 14 ∷ 15 ∷ 16 ∷ 17 ∷ 18 ∷ 19 ∷ []) 9 tt h)
others Keyword.Set l ws h = refl
others Keyword.At l ws h = refl
others Keyword.Stretch l ws h = refl
others Keyword.Frames l ws h = refl
others Keyword.Probe l ws h = refl
others Keyword.Degrees l ws h = refl
others Keyword.Record l ws h = refl
others Keyword.Listing l ws h = refl
others Keyword.Quietest l ws h = refl
others Keyword.Unknown l ws h = refl

pub returns-in-Item : goal.returns-in-Item
unfolding keyword_reading
returns-in-Item c = rw (c.in-Item.is, ← c.item_call.ensures)

pub returns-in-Bus : goal.returns-in-Bus
unfolding keyword_reading
returns-in-Bus c = rw c.in-Bus.is c.bus_call.ensures

pub returns-in-Tick : goal.returns-in-Tick
unfolding keyword_reading
returns-in-Tick c = rw (c.in-Tick.is, ← c.decimal_call.ensures)

pub returns-in-Flight : goal.returns-in-Flight
unfolding keyword_reading
returns-in-Flight c = rw c.in-Flight.is c.flight_call.ensures

pub returns-in-Temperature : goal.returns-in-Temperature
unfolding keyword_reading
returns-in-Temperature c = rw c.in-Temperature.is c.temperature_call.ensures

pub returns-in-Int : goal.returns-in-Int
unfolding keyword_reading
returns-in-Int c = rw (c.in-Int.is, ← c.alone.ensures)

pub returns-in-Awaited : goal.returns-in-Awaited
unfolding keyword_reading
returns-in-Awaited c = rw (c.in-Awaited.is, ← c.alone-in-Awaited.ensures)

pub returns-in-Regs : goal.returns-in-Regs
unfolding keyword_reading
returns-in-Regs c = rw (c.in-Regs.is, ← c.alone-in-Regs.ensures)

pub returns-in-Expect : goal.returns-in-Expect
unfolding keyword_reading
returns-in-Expect c = rw c.in-Expect.is c.expect_call.ensures

pub returns-in-Show : goal.returns-in-Show
unfolding keyword_reading
returns-in-Show c = rw (c.in-Show.is, ← c.alone-in-Show.ensures)

pub returns-in_default : goal.returns-in_default
unfolding keyword_reading
returns-in_default c = c.later_call.ensures ∙ others c.args.k _ _ c.in_default.in_default-own.keys11
