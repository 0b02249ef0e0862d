-- `line_reader::mark::takes_mark` meets its contract.
-- Assumes nothing.
use mathlib.Core.Bool.{true}
use mathlib.Core.List.{[], ◌∷◌}
use mathlib.Core.Path.{◌≡◌, refl}
use types.Run.{OneOf, miss}
use denote.Enum.Declared.{tag_of}
use Rattle.line.specs.declared.Keyword.{Keyword}
use Rattle.line.specs.contracts.Keyword.{the_type}
use Rattle.line.specs.Mark.{takes_mark}
use borrow.Enum.Refused.{opened}
use Rattle.line_reader.proofs.mark.takes_mark.Goals as goal

others : (k : Keyword) → OneOf (1 ∷ 2 ∷ 3 ∷ 4 ∷ 5 ∷ 6 ∷ 7 ∷ 10 ∷ 11 ∷ 12 ∷ 13 ∷ 14 ∷ 15 ∷ 16 ∷ 17 ∷ 18 ∷ 19 ∷ []) (tag_of the_type k) → true ≡ takes_mark k
unfolding takes_mark
others Keyword.Item h = absurd (miss (1 ∷ 2 ∷ 3 ∷ 4 ∷ 5 ∷ 6 ∷ 7 ∷ 10 ∷ 11 ∷ 12 ∷ 13 ∷ 14 ∷ 15 ∷ 16 ∷ 17 ∷ 18 ∷ 19 ∷ []) 0 tt h)
others Keyword.Bus h = refl
others Keyword.Tick h = refl
others Keyword.Flight h = refl
others Keyword.Temperature h = refl
others Keyword.Int h = refl
others Keyword.Awaited h = refl
others Keyword.Regs h = refl
others Keyword.Expect h = absurd (miss (1 ∷ 2 ∷ 3 ∷ 4 ∷ 5 ∷ 6 ∷ 7 ∷ 10 ∷ 11 ∷ 12 ∷ 13 ∷ 14 ∷ 15 ∷ 16 ∷ 17 ∷ 18 ∷ 19 ∷ []) 8 tt h)
others Keyword.Show h = absurd (miss (1 ∷ 2 ∷ 3 ∷ 4 ∷ 5 ∷ 6 ∷ 7 ∷ 10 ∷ 11 ∷ 12 ∷ 13 ∷ 14 ∷ 15 ∷ 16 ∷ 17 ∷ 18 ∷ 19 ∷ []) 9 tt h)
others Keyword.Set h = refl
others Keyword.At h = refl
others Keyword.Stretch h = refl
others Keyword.Frames h = refl
others Keyword.Probe h = refl
others Keyword.Degrees h = refl
others Keyword.Record h = refl
others Keyword.Listing h = refl
others Keyword.Quietest h = refl
others Keyword.Unknown h = refl

pub returns-in-Item : goal.returns-in-Item
unfolding takes_mark
returns-in-Item c = rw c.in-Item.is

pub returns-in-Expect : goal.returns-in-Expect
unfolding takes_mark
returns-in-Expect c = rw c.in-Expect.is

pub returns-in-Show : goal.returns-in-Show
unfolding takes_mark
returns-in-Show c = rw c.in-Show.is

pub returns-in_default : goal.returns-in_default
returns-in_default c = others c.args.k (opened c.in_default.in_default-own.keys4)
