-- `phrase::delivery::put_answer` meets its contract.
-- Assumes nothing.
use Rattle.std.proofs.Common.{ℕ, List, [], ◌∷◌, rules}
use types.Run.{OneOf, miss}
use denote.Enum.Declared.{tag_of}
use Rattle.device.specs.contracts.Answer.{the_type}
use Rattle.device.specs.declared.Answer.{Answer}
use Rattle.device.specs.declared.Answer.TheVariants.{Refused, Accepted, Ticked, Stretched, Good, Failed}
use Rattle.numeral.specs.Ascii.{ascii}
use Rattle.wording.specs.Text.{PutEach}
use Rattle.wording.specs.Wording.{delivery_answer}
use Rattle.wording.proofs.Each.{put-none, put_one}
use Rattle.phrase.proofs.delivery.put_answer.Goals as goal

others : (a : Answer) (l : List ℕ) (at : ℕ) → OneOf (1 ∷ 2 ∷ 3 ∷ []) (tag_of the_type a) → PutEach l at (delivery_answer a) at l
unfolding delivery_answer
others (Refused r) l at h = absurd (miss (1 ∷ 2 ∷ 3 ∷ []) 0 tt h)
others (Accepted f t) l at h = put-none l at
others (Ticked f t) l at h = put-none l at
others (Stretched f t) l at h = put-none l at
others Good l at h = absurd (miss (1 ∷ 2 ∷ 3 ∷ []) 4 tt h)
others Failed l at h = absurd (miss (1 ∷ 2 ∷ 3 ∷ []) 5 tt h)

pub returns-in-Refused : goal.returns-in-Refused
unfolding delivery_answer
returns-in-Refused c = rw c.in-Refused.is c.put_refusal.ensures

pub returns-in-Good : goal.returns-in-Good
unfolding delivery_answer ascii
returns-in-Good c = rw c.in-Good.is (put_one c.put_text.ensures)

pub returns-in-Failed : goal.returns-in-Failed
unfolding delivery_answer ascii
returns-in-Failed c = rw c.in-Failed.is (put_one c.put_text-in-Failed.ensures)

pub returns-in_default : goal.returns-in_default
returns-in_default c = others _ _ _ c.in_default.in_default-own.keys4
