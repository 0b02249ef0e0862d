-- `item_calls::transaction::start_moment` meets its contract.
-- Assumes nothing.
use types.Run.{OneOf, miss}
use denote.Enum.Declared.{tag_of}
use Rattle.device.specs.contracts.Answer.{the_type}
use mathlib.Core.Path.{◌≡◌, refl}
use Prim.Native.Nat.{ℕ}
use mathlib.Core.List.{List, [], ◌∷◌}
use Rattle.device.specs.declared.Answer.{Answer}
use Rattle.device.specs.declared.Answer.TheVariants.{Refused, Accepted, Ticked, Stretched, Good, Failed}
use Rattle.item_calls.specs.Lines.{start_moment}
use borrow.Enum.Refused.{opened}
use Rattle.item_calls.proofs.transaction.start_moment.Goals as goal

others : (a : Answer) (l : List ℕ) → OneOf (0 ∷ 2 ∷ 3 ∷ 4 ∷ 5 ∷ []) (tag_of the_type a) → l ≡ start_moment a l
unfolding start_moment
others (Refused r) l h = refl
others (Accepted f t) l h = absurd (miss (0 ∷ 2 ∷ 3 ∷ 4 ∷ 5 ∷ []) 1 tt h)
others (Ticked f t) l h = refl
others (Stretched f t) l h = refl
others Good l h = refl
others Failed l h = refl

pub returns-then-flight : goal.returns-then-flight
unfolding start_moment
returns-then-flight c = rw (c.in-Accepted.is, c.if-flight.true)

pub returns-then-temperature : goal.returns-then-temperature
unfolding start_moment
returns-then-temperature c = rw (c.in-Accepted.is, c.if-flight.false, c.if-temperature.true)

pub returns-else-temperature : goal.returns-else-temperature
unfolding start_moment
returns-else-temperature c = rw (c.in-Accepted.is, c.if-flight.false, c.if-temperature.false)

pub returns-in_default : goal.returns-in_default
returns-in_default c = others _ _ (opened c.in_default.in_default-own.keys2)
