-- `outcome::keep_after` meets its contract.
use Rattle.device.specs.contracts.Answer.{the_type}
use Rattle.device.specs.declared.Answer.{Answer}
use Rattle.device.specs.declared.Answer.TheVariants.{Refused, Accepted, Ticked, Stretched, Good, Failed}
use types.Run.{OneOf, miss}
use denote.Enum.Declared.{tag_of}
use Rattle.device.specs.declared.Model.{Model}
use Rattle.layout.specs.Code.{kept, model_after}
use Prim.Native.Nat.{ℕ}
use mathlib.Core.List.{List, [], ◌∷◌}
use mathlib.Core.Path.{◌≡◌, refl, ◌∙◌}
use borrow.Author.Rules.{rules}
use borrow.Enum.Refused.{opened}
use Rattle.outcome.proofs.keep_after.Goals as goal

refusal : (a : Answer) (m : Model) (bs : List ℕ) → OneOf (0 ∷ []) (tag_of the_type a) → bs ≡ model_after a m bs
unfolding model_after
refusal (Refused n) m bs h = refl
refusal (Accepted f t) m bs h = absurd (miss (0 ∷ []) 1 tt h)
refusal (Ticked f t) m bs h = absurd (miss (0 ∷ []) 2 tt h)
refusal (Stretched f t) m bs h = absurd (miss (0 ∷ []) 3 tt h)
refusal Good m bs h = absurd (miss (0 ∷ []) 4 tt h)
refusal Failed m bs h = absurd (miss (0 ∷ []) 5 tt h)

others :
    (a : Answer) (m : Model) (bs : List ℕ) → OneOf (1 ∷ 2 ∷ 3 ∷ 4 ∷ 5 ∷ []) (tag_of the_type a) → kept m bs ≡ model_after a m bs
unfolding model_after
others (Refused n) m bs h = absurd (miss (1 ∷ 2 ∷ 3 ∷ 4 ∷ 5 ∷ []) 0 tt h)
others (Accepted f t) m bs h = refl
others (Ticked f t) m bs h = refl
others (Stretched f t) m bs h = refl
others Good m bs h = refl
others Failed m bs h = refl

pub returns-in-Refused : goal.returns-in-Refused
returns-in-Refused c = refusal _ _ _ c.in-Refused.in-Refused-own.keys1

pub returns-in_default : goal.returns-in_default
returns-in_default c = c.keep.ensures ∙ others _ _ _ (opened c.in_default.in_default-own.keys2)
