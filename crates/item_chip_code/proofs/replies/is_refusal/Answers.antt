-- `item_chip_code::replies::is_refusal` meets its contract. Assumes nothing.
use mathlib.Core.Bool.{false}
use mathlib.Core.List.{[], ◌∷◌}
use mathlib.Core.Path.{◌≡◌, refl}
use types.Run.{OneOf, miss}
use denote.Enum.Declared.{tag_of}
use Rattle.device.specs.contracts.Answer.{the_type}
use Rattle.device.specs.Reply.{number_in}
use Rattle.device.specs.declared.Answer.{Answer}
use Rattle.device.specs.declared.Answer.TheVariants.{Refused, Accepted, Ticked, Stretched, Good, Failed}
use Rattle.item_answer.specs.Answer.{is_refusal}
use borrow.Enum.Refused.{opened}
use Rattle.item_chip_code.proofs.replies.is_refusal.Goals as goal

others : (a : Answer) → OneOf (1 ∷ 2 ∷ 3 ∷ 4 ∷ 5 ∷ []) (tag_of the_type a) → false ≡ is_refusal a
unfolding is_refusal number_in
others (Refused r) h = absurd (miss (1 ∷ 2 ∷ 3 ∷ 4 ∷ 5 ∷ []) 0 tt h)
others (Accepted f t) h = refl
others (Ticked f t) h = refl
others (Stretched f t) h = refl
others Good h = refl
others Failed h = refl

pub returns-in-Refused : goal.returns-in-Refused
unfolding is_refusal number_in
returns-in-Refused c = rw c.in-Refused.is

pub returns-in_default : goal.returns-in_default
returns-in_default c = others _ (opened c.in_default.in_default-own.keys2)
