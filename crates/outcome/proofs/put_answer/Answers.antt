-- `outcome::put_answer` meets its contract.
use Rattle.device.specs.contracts.Answer.{the_type}
use Rattle.device.specs.declared.Answer.{Answer}
use Rattle.device.specs.declared.Answer.TheVariants.{Refused, Accepted, Ticked, Stretched, Good, Failed}
use types.Run.{OneOf, miss}
use denote.Enum.Declared.{tag_of}
use Rattle.layout.specs.Code.{accepted, failed, filled, code_of, words_of}
use Prim.Native.Nat.{ℕ}
use mathlib.Core.List.{List, [], ◌∷◌}
use mathlib.Core.Path.{◌≡◌, refl}
use borrow.Author.Rules.{rules}
use borrow.Enum.Refused.{opened}
use Rattle.outcome.proofs.put_answer.Goals as goal

good : (a : Answer) (l : List ℕ) → OneOf (4 ∷ []) (tag_of the_type a) → (accepted ≡ code_of a) × (l ≡ filled l (words_of a))
unfolding code_of words_of
good (Refused n) l h = absurd (miss (4 ∷ []) 0 tt h)
good (Accepted f t) l h = absurd (miss (4 ∷ []) 1 tt h)
good (Ticked f t) l h = absurd (miss (4 ∷ []) 2 tt h)
good (Stretched f t) l h = absurd (miss (4 ∷ []) 3 tt h)
good Good l h = (refl, refl)
good Failed l h = absurd (miss (4 ∷ []) 5 tt h)

bad : (a : Answer) (l : List ℕ) → OneOf (5 ∷ []) (tag_of the_type a) → (failed ≡ code_of a) × (l ≡ filled l (words_of a))
unfolding code_of words_of
bad (Refused n) l h = absurd (miss (5 ∷ []) 0 tt h)
bad (Accepted f t) l h = absurd (miss (5 ∷ []) 1 tt h)
bad (Ticked f t) l h = absurd (miss (5 ∷ []) 2 tt h)
bad (Stretched f t) l h = absurd (miss (5 ∷ []) 3 tt h)
bad Good l h = absurd (miss (5 ∷ []) 4 tt h)
bad Failed l h = (refl, refl)

pub returns-in-Refused : goal.returns-in-Refused
unfolding code_of words_of
returns-in-Refused c = (rw c.in-Refused.is c.number.ensures.0, rw c.in-Refused.is)

pub returns-in-Accepted : goal.returns-in-Accepted
unfolding code_of
returns-in-Accepted c = (rw c.in-Accepted.is, rw c.in-Accepted.is c.put_accepted.ensures)

pub returns-in-Ticked : goal.returns-in-Ticked
unfolding code_of
returns-in-Ticked c = (rw c.in-Ticked.is, rw c.in-Ticked.is c.put_ticked.ensures)

pub returns-in-Stretched : goal.returns-in-Stretched
unfolding code_of
returns-in-Stretched c = (rw c.in-Stretched.is, rw c.in-Stretched.is c.put_stretched.ensures)

pub returns-in-Good : goal.returns-in-Good
returns-in-Good c = good _ _ c.in-Good.in-Good-own.keys5

pub returns-in-Failed : goal.returns-in-Failed
returns-in-Failed c = bad _ _ c.in-Failed.in-Failed-own.keys6
