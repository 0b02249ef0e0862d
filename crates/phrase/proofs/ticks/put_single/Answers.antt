-- `phrase::ticks::put_single` meets its contract.
-- Assumes nothing.
use Rattle.std.proofs.Common.{ℕ, List, [], ◌∷◌, rules}
use types.Run.{OneOf, miss}
use denote.Enum.Declared.{tag_of}
use Rattle.device.specs.contracts.Answer.{the_type}
use Rattle.device.specs.declared.Answer.{Answer}
use Rattle.device.specs.declared.Answer.TheVariants.{Refused, Accepted, Ticked, Stretched, Good, Failed}
use Rattle.numeral.specs.Ascii.{ascii}
use Rattle.wording.specs.Text.{PutEach}
use Rattle.wording.specs.Wording.{single}
use Rattle.wording.proofs.Each.{put-none, put_one}
use borrow.Enum.Refused.{opened}
use Rattle.phrase.proofs.ticks.put_single.Goals as goal

others : (a : Answer) (l : List ℕ) (at : ℕ) → OneOf (0 ∷ 1 ∷ 3 ∷ 4 ∷ 5 ∷ []) (tag_of the_type a) → PutEach l at (single a) at l
unfolding single
others (Refused r) l at h = put-none l at
others (Accepted f t) l at h = put-none l at
others (Ticked f t) l at h = absurd (miss (0 ∷ 1 ∷ 3 ∷ 4 ∷ 5 ∷ []) 2 tt h)
others (Stretched f t) l at h = put-none l at
others Good l at h = put-none l at
others Failed l at h = put-none l at

pub returns-then-quiet : goal.returns-then-quiet
unfolding ascii single
returns-then-quiet c = rw (c.in-Ticked.is, ← c.quiet.ensures, c.if-quiet.true) (put_one c.put_text.ensures)

pub returns-else-quiet : goal.returns-else-quiet
unfolding single
returns-else-quiet c = rw (c.in-Ticked.is, ← c.quiet.ensures, c.if-quiet.false) c.put_ticked.ensures

pub returns-in_default : goal.returns-in_default
returns-in_default c = others _ _ _ (opened c.in_default.in_default-own.keys2)
