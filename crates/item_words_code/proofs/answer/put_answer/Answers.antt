-- `item_words_code::answer::put_answer` meets its contract.
-- Assumes nothing.
use Prim.Native.Nat.{ℕ}
use mathlib.Core.List.{List, [], ◌∷◌}
use types.Run.{OneOf, miss}
use denote.Enum.Declared.{tag_of}
use Rattle.numeral.specs.Ascii.{ascii}
use Rattle.device.specs.contracts.Answer.{the_type}
use Rattle.device.specs.declared.Answer.{Answer}
use Rattle.device.specs.declared.Answer.TheVariants.{Refused, Accepted, Ticked, Stretched, Good, Failed}
use Rattle.text.specs.OwnPut.{Puts}
use Rattle.text.proofs.Putting.{puts, puts_none}
use Rattle.item_answer.specs.Words.{answer_text}
use Rattle.item_words_code.proofs.answer.put_answer.Goals as goal

others : (a : Answer) (l : List ℕ) (at : ℕ) → OneOf (2 ∷ 3 ∷ []) (tag_of the_type a) → Puts l at (answer_text a) at l
unfolding answer_text
others (Refused r) l at h = absurd (miss (2 ∷ 3 ∷ []) 0 tt h)
others (Accepted f t) l at h = absurd (miss (2 ∷ 3 ∷ []) 1 tt h)
others (Ticked f t) l at h = puts_none l at
others (Stretched f t) l at h = puts_none l at
others Good l at h = absurd (miss (2 ∷ 3 ∷ []) 4 tt h)
others Failed l at h = absurd (miss (2 ∷ 3 ∷ []) 5 tt h)

pub returns-in-Refused : goal.returns-in-Refused
unfolding answer_text
returns-in-Refused c = rw c.in-Refused.is c.put_refusal.ensures

pub returns-in-Accepted : goal.returns-in-Accepted
unfolding answer_text
returns-in-Accepted c = rw c.in-Accepted.is c.put_accepted.ensures

pub returns-in-Good : goal.returns-in-Good
unfolding ascii answer_text
returns-in-Good c = rw c.in-Good.is (puts c.put_text.ensures)

pub returns-in-Failed : goal.returns-in-Failed
unfolding ascii answer_text
returns-in-Failed c = rw c.in-Failed.is (puts c.put_text-in-Failed.ensures)

pub returns-in_default : goal.returns-in_default
returns-in_default c = others _ _ _ c.in_default.in_default-own.keys5
