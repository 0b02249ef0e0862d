-- `phrase::ticks::put_stretched` meets its contract.
-- Assumes nothing.
use Rattle.std.proofs.Common.{ℕ, List, [], ◌∷◌, rules}
use types.Run.{OneOf, miss}
use denote.Enum.Declared.{tag_of}
use Rattle.device.specs.contracts.Answer.{the_type}
use Rattle.device.specs.declared.Answer.{Answer}
use Rattle.device.specs.declared.Answer.TheVariants.{Refused, Accepted, Ticked, Stretched, Good, Failed}
use Rattle.numeral.specs.Ascii.{ascii}
use Rattle.wording.specs.Text.{PutEach}
use Rattle.wording.specs.Wording.{stretched}
use Rattle.wording.proofs.Each.{put-none, put_first}
use borrow.Enum.Refused.{opened}
use Rattle.phrase.proofs.ticks.put_stretched.Goals as goal

others : (a : Answer) (l : List ℕ) (at : ℕ) (k : ℕ) → OneOf (1 ∷ 2 ∷ 4 ∷ 5 ∷ []) (tag_of the_type a) → PutEach l at (stretched a k) at l
unfolding stretched
others (Refused r) l at k h = absurd (miss (1 ∷ 2 ∷ 4 ∷ 5 ∷ []) 0 tt h)
others (Accepted f t) l at k h = put-none l at
others (Ticked f t) l at k h = put-none l at
others (Stretched f t) l at k h = absurd (miss (1 ∷ 2 ∷ 4 ∷ 5 ∷ []) 3 tt h)
others Good l at k h = put-none l at
others Failed l at k h = put-none l at

pub returns-in-Refused : goal.returns-in-Refused
unfolding stretched
returns-in-Refused c = rw c.in-Refused.is c.put_refusal.ensures

pub returns-in-Stretched : goal.returns-in-Stretched
unfolding ascii stretched
returns-in-Stretched c = rw c.in-Stretched.is (put_first c.put_text-a.ensures (put_first c.put_decimal-b.ensures c.put_named.ensures))

pub returns-in_default : goal.returns-in_default
returns-in_default c = others _ _ _ _ (opened c.in_default.in_default-own.keys3)
