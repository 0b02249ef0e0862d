-- `item_chip_code::replies::starts` meets its contract. Assumes nothing.
use mathlib.Core.Bool.{false}
use mathlib.Core.List.{[], ◌∷◌}
use mathlib.Core.Path.{◌≡◌, refl}
use types.Run.{OneOf, miss}
use denote.Enum.Declared.{tag_of}
use Rattle.device.specs.contracts.Answer.{the_type}
use Rattle.device.specs.declared.Answer.{Answer}
use Rattle.device.specs.declared.Answer.TheVariants.{Refused, Accepted, Ticked, Stretched, Good, Failed}
use Rattle.item_answer.specs.Answer.{starts}
use borrow.Enum.Refused.{opened}
use Rattle.item_chip_code.proofs.replies.starts.Goals as goal

others : (a : Answer) → OneOf (0 ∷ 2 ∷ 3 ∷ 4 ∷ 5 ∷ []) (tag_of the_type a) → false ≡ starts a
unfolding starts
others (Refused r) h = refl
others (Accepted f t) h = absurd (miss (0 ∷ 2 ∷ 3 ∷ 4 ∷ 5 ∷ []) 1 tt h)
others (Ticked f t) h = refl
others (Stretched f t) h = refl
others Good h = refl
others Failed h = refl

pub returns-then-flight : goal.returns-then-flight
unfolding starts
returns-then-flight c = rw (c.in-Accepted.is, c.if-flight.true)

pub returns-else-flight : goal.returns-else-flight
unfolding starts
returns-else-flight c = rw (c.in-Accepted.is, c.if-flight.false)

pub returns-in_default : goal.returns-in_default
returns-in_default c = others _ (opened c.in_default.in_default-own.keys2)
