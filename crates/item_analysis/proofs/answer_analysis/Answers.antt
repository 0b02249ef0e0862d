-- `item_analysis::answer_analysis` meets its contract.
-- Assumes nothing.
use types.Run.{OneOf, miss}
use denote.Enum.Declared.{tag_of}
use Rattle.line.specs.contracts.Content.{the_type}
use Rattle.line.specs.declared.Content.{Content}
use mathlib.Core.Path.{◌≡◌, refl}
use Prim.Native.Nat.{ℕ}
use mathlib.Core.List.{List, [], ◌∷◌}
use Rattle.device.specs.declared.Model.{Model}
use Rattle.item_analysis.specs.Lines.{ItemKept, analysis_line}
use borrow.Enum.Refused.{opened}
use Rattle.item_analysis.proofs.answer_analysis.Goals as goal

others : (content : Content) (numbers : List ℕ) (m : Model) (s : ItemKept) → OneOf (0 ∷ 1 ∷ 2 ∷ 3 ∷ 4 ∷ 5 ∷ 6 ∷ 7 ∷ 8 ∷ 9 ∷ 10 ∷ 11 ∷ 12 ∷ 13 ∷ 14 ∷ 15 ∷ 16 ∷ 17 ∷ 18 ∷ 19 ∷ []) (tag_of the_type content) → s ≡ analysis_line content numbers m s
unfolding analysis_line
others Content.Nothing numbers m s h = refl
others Content.TooLong numbers m s h = refl
others Content.UnknownWord numbers m s h = refl
others Content.BadNumber numbers m s h = refl
others Content.WrongCount numbers m s h = refl
others Content.Item numbers m s h = refl
others (Content.Bus n) numbers m s h = refl
others (Content.BusOut size n) numbers m s h = refl
others (Content.Tick n) numbers m s h = refl
others (Content.Flight up down) numbers m s h = refl
others (Content.Temperature n) numbers m s h = refl
others Content.Int numbers m s h = refl
others Content.Awaited numbers m s h = refl
others Content.Regs numbers m s h = refl
others (Content.Expect a n) numbers m s h = refl
others Content.Show numbers m s h = refl
others (Content.Set a n) numbers m s h = refl
others (Content.At t) numbers m s h = refl
others (Content.Stretch n) numbers m s h = refl
others Content.Frames numbers m s h = refl
others (Content.Probe n) numbers m s h = absurd (miss (0 ∷ 1 ∷ 2 ∷ 3 ∷ 4 ∷ 5 ∷ 6 ∷ 7 ∷ 8 ∷ 9 ∷ 10 ∷ 11 ∷ 12 ∷ 13 ∷ 14 ∷ 15 ∷ 16 ∷ 17 ∷ 18 ∷ 19 ∷ []) 20 tt h)
others Content.Degrees numbers m s h = absurd (miss (0 ∷ 1 ∷ 2 ∷ 3 ∷ 4 ∷ 5 ∷ 6 ∷ 7 ∷ 8 ∷ 9 ∷ 10 ∷ 11 ∷ 12 ∷ 13 ∷ 14 ∷ 15 ∷ 16 ∷ 17 ∷ 18 ∷ 19 ∷ []) 21 tt h)
others (Content.Record n) numbers m s h = absurd (miss (0 ∷ 1 ∷ 2 ∷ 3 ∷ 4 ∷ 5 ∷ 6 ∷ 7 ∷ 8 ∷ 9 ∷ 10 ∷ 11 ∷ 12 ∷ 13 ∷ 14 ∷ 15 ∷ 16 ∷ 17 ∷ 18 ∷ 19 ∷ []) 22 tt h)
others (Content.Listing old first) numbers m s h = absurd (miss (0 ∷ 1 ∷ 2 ∷ 3 ∷ 4 ∷ 5 ∷ 6 ∷ 7 ∷ 8 ∷ 9 ∷ 10 ∷ 11 ∷ 12 ∷ 13 ∷ 14 ∷ 15 ∷ 16 ∷ 17 ∷ 18 ∷ 19 ∷ []) 23 tt h)
others (Content.Quietest n) numbers m s h = absurd (miss (0 ∷ 1 ∷ 2 ∷ 3 ∷ 4 ∷ 5 ∷ 6 ∷ 7 ∷ 8 ∷ 9 ∷ 10 ∷ 11 ∷ 12 ∷ 13 ∷ 14 ∷ 15 ∷ 16 ∷ 17 ∷ 18 ∷ 19 ∷ []) 24 tt h)

pub returns-in-Probe : goal.returns-in-Probe
unfolding analysis_line
returns-in-Probe c = rw (c.in-Probe.is, ← c.probe.ensures)

pub returns-in-Degrees : goal.returns-in-Degrees
unfolding analysis_line
returns-in-Degrees c = rw (c.in-Degrees.is, ← c.degrees.ensures)

pub returns-in-Record : goal.returns-in-Record
unfolding analysis_line
returns-in-Record c = rw (c.in-Record.is, ← c.record.ensures)

pub returns-in-Listing : goal.returns-in-Listing
unfolding analysis_line
returns-in-Listing c = rw (c.in-Listing.is, ← c.listing.ensures)

pub returns-in-Quietest : goal.returns-in-Quietest
unfolding analysis_line
returns-in-Quietest c = rw (c.in-Quietest.is, ← c.quietest.ensures)

pub returns-in_default : goal.returns-in_default
returns-in_default c = others _ _ _ _ (opened c.in_default.in_default-own.keys6)
