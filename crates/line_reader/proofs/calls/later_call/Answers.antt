-- `line_reader::calls::later_call` meets its contract.
-- Assumes nothing.
use Prim.Native.Nat.{ℕ}
use mathlib.Core.List.{List, [], ◌∷◌}
use mathlib.Core.Path.{◌≡◌, refl}
use types.Run.{OneOf, miss}
use denote.Enum.Declared.{tag_of}
use Rattle.line.specs.declared.Keyword.{Keyword}
use Rattle.line.specs.declared.Content.TheVariants.{UnknownWord}
use Rattle.line.specs.contracts.Keyword.{the_type}
use Rattle.line.specs.Line.{reading, later_reading}
use borrow.Enum.Refused.{opened}
use Rattle.line_reader.proofs.calls.later_call.Goals as goal

others : (k : Keyword) (l : List ℕ) (ws : List (List ℕ)) → OneOf (0 ∷ 1 ∷ 2 ∷ 3 ∷ 4 ∷ 5 ∷ 6 ∷ 7 ∷ 8 ∷ 9 ∷ 19 ∷ []) (tag_of the_type k) → reading UnknownWord l ≡ later_reading k l ws
unfolding later_reading
others Keyword.Item l ws h = refl
others Keyword.Bus l ws h = refl
others Keyword.Tick l ws h = refl
others Keyword.Flight l ws h = refl
others Keyword.Temperature l ws h = refl
others Keyword.Int l ws h = refl
others Keyword.Awaited l ws h = refl
others Keyword.Regs l ws h = refl
others Keyword.Expect l ws h = refl
others Keyword.Show l ws h = refl
others Keyword.Set l ws h = absurd (miss (0 ∷ 1 ∷ 2 ∷ 3 ∷ 4 ∷ 5 ∷ 6 ∷ 7 ∷ 8 ∷ 9 ∷ 19 ∷ []) 10 tt h)
others Keyword.At l ws h = absurd (miss (0 ∷ 1 ∷ 2 ∷ 3 ∷ 4 ∷ 5 ∷ 6 ∷ 7 ∷ 8 ∷ 9 ∷ 19 ∷ []) 11 tt h)
others Keyword.Stretch l ws h = absurd (miss (0 ∷ 1 ∷ 2 ∷ 3 ∷ 4 ∷ 5 ∷ 6 ∷ 7 ∷ 8 ∷ 9 ∷ 19 ∷ []) 12 tt h)
others Keyword.Frames l ws h = absurd (miss (0 ∷ 1 ∷ 2 ∷ 3 ∷ 4 ∷ 5 ∷ 6 ∷ 7 ∷ 8 ∷ 9 ∷ 19 ∷ []) 13 tt h)
others Keyword.Probe l ws h = absurd (miss (0 ∷ 1 ∷ 2 ∷ 3 ∷ 4 ∷ 5 ∷ 6 ∷ 7 ∷ 8 ∷ 9 ∷ 19 ∷ []) 14 tt h)
others Keyword.Degrees l ws h = absurd (miss (0 ∷ 1 ∷ 2 ∷ 3 ∷ 4 ∷ 5 ∷ 6 ∷ 7 ∷ 8 ∷ 9 ∷ 19 ∷ []) 15 tt h)
others Keyword.Record l ws h = absurd (miss (0 ∷ 1 ∷ 2 ∷ 3 ∷ 4 ∷ 5 ∷ 6 ∷ 7 ∷ 8 ∷ 9 ∷ 19 ∷ []) 16 tt h)
others Keyword.Listing l ws h = absurd (miss (0 ∷ 1 ∷ 2 ∷ 3 ∷ 4 ∷ 5 ∷ 6 ∷ 7 ∷ 8 ∷ 9 ∷ 19 ∷ []) 17 tt h)
others Keyword.Quietest l ws h = absurd (miss (0 ∷ 1 ∷ 2 ∷ 3 ∷ 4 ∷ 5 ∷ 6 ∷ 7 ∷ 8 ∷ 9 ∷ 19 ∷ []) 18 tt h)
others Keyword.Unknown l ws h = refl

pub returns-in-Set : goal.returns-in-Set
unfolding later_reading
returns-in-Set c = rw c.in-Set.is c.set_call.ensures

pub returns-in-At : goal.returns-in-At
unfolding later_reading
returns-in-At c = rw (c.in-At.is, ← c.decimal_call.ensures)

pub returns-in-Stretch : goal.returns-in-Stretch
unfolding later_reading
returns-in-Stretch c = rw (c.in-Stretch.is, ← c.decimal_call-in-Stretch.ensures)

pub returns-in-Frames : goal.returns-in-Frames
unfolding later_reading
returns-in-Frames c = rw (c.in-Frames.is, ← c.alone.ensures)

pub returns-in-Probe : goal.returns-in-Probe
unfolding later_reading
returns-in-Probe c = rw c.in-Probe.is c.probe_call.ensures

pub returns-in-Degrees : goal.returns-in-Degrees
unfolding later_reading
returns-in-Degrees c = rw c.in-Degrees.is c.degrees_call.ensures

pub returns-in-Record : goal.returns-in-Record
unfolding later_reading
returns-in-Record c = rw c.in-Record.is c.record_call.ensures

pub returns-in-Listing : goal.returns-in-Listing
unfolding later_reading
returns-in-Listing c = rw (c.in-Listing.is, ← c.listing_call.ensures)

pub returns-in-Quietest : goal.returns-in-Quietest
unfolding later_reading
returns-in-Quietest c = rw (c.in-Quietest.is, ← c.decimal_call-in-Quietest.ensures)

pub returns-in_default : goal.returns-in_default
unfolding later_reading
returns-in_default c = others c.args.k _ _ (opened c.in_default.in_default-own.keys10)
