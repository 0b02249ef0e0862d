-- `phrase::bus::put_answer` meets its contract.
-- Assumes nothing.
use Rattle.std.proofs.Common.{ℕ, List, [], ◌∷◌, rules}
use types.Run.{OneOf, miss}
use denote.Enum.Declared.{tag_of}
use Rattle.device.specs.contracts.Answer.{the_type}
use Rattle.device.specs.declared.Answer.{Answer}
use Rattle.device.specs.declared.Answer.TheVariants.{Refused, Accepted, Ticked, Stretched, Good, Failed}
use Rattle.wording.specs.Text.{PutEach}
use Rattle.wording.specs.Wording.{bus_answer}
use Rattle.wording.proofs.Each.{put-none}
use borrow.Enum.Refused.{opened}
use Rattle.phrase.proofs.bus.put_answer.Goals as goal

others : (a : Answer) (l : List ℕ) (at : ℕ) → OneOf (2 ∷ 3 ∷ 4 ∷ 5 ∷ []) (tag_of the_type a) → PutEach l at (bus_answer a) at l
unfolding bus_answer
others (Refused r) l at h = absurd (miss (2 ∷ 3 ∷ 4 ∷ 5 ∷ []) 0 tt h)
others (Accepted f t) l at h = absurd (miss (2 ∷ 3 ∷ 4 ∷ 5 ∷ []) 1 tt h)
others (Ticked f t) l at h = put-none l at
others (Stretched f t) l at h = put-none l at
others Good l at h = put-none l at
others Failed l at h = put-none l at

pub returns-in-Refused : goal.returns-in-Refused
unfolding bus_answer
returns-in-Refused c = rw c.in-Refused.is c.put_refusal.ensures

pub returns-in-Accepted : goal.returns-in-Accepted
unfolding bus_answer
returns-in-Accepted c = rw c.in-Accepted.is c.put_started.ensures

pub returns-in_default : goal.returns-in_default
returns-in_default c = others _ _ _ (opened c.in_default.in_default-own.keys3)
