-- `item_calls::ticks::add_reports` meets its contract.
-- Assumes nothing.
use types.Run.{OneOf, miss}
use denote.Enum.Declared.{tag_of}
use Rattle.device.specs.contracts.Answer.{the_type}
use Prim.Native.Nat.{ℕ}
use mathlib.Core.List.{List, [], ◌∷◌}
use Rattle.device.specs.declared.Answer.{Answer}
use Rattle.device.specs.declared.Answer.TheVariants.{Refused, Accepted, Ticked, Stretched, Good, Failed}
use Rattle.wording.specs.Text.{PutEach}
use Rattle.wording.proofs.Each.{put-none}
use Rattle.item_calls.specs.Lines.{stretch_reports}
use borrow.Enum.Refused.{opened}
use Rattle.item_calls.proofs.ticks.add_reports.Goals as goal

others : (a : Answer) (n : ℕ) (l : List ℕ) (at : ℕ) → OneOf (0 ∷ 1 ∷ 2 ∷ 4 ∷ 5 ∷ []) (tag_of the_type a) → PutEach l at (stretch_reports a n) at l
unfolding stretch_reports
others (Refused r) n l at h = put-none l at
others (Accepted f t) n l at h = put-none l at
others (Ticked f t) n l at h = put-none l at
others (Stretched f t) n l at h = absurd (miss (0 ∷ 1 ∷ 2 ∷ 4 ∷ 5 ∷ []) 3 tt h)
others Good n l at h = put-none l at
others Failed n l at h = put-none l at

pub returns-then-none_named : goal.returns-then-none_named
unfolding stretch_reports
returns-then-none_named c = rw (c.in-Stretched.is, ← c.none_named.ensures, c.if-none_named.true) (put-none _ _)

pub returns-else-none_named : goal.returns-else-none_named
unfolding stretch_reports
returns-else-none_named c = rw (c.in-Stretched.is, ← c.none_named.ensures, c.if-none_named.false) c.put_named.ensures

pub returns-in_default : goal.returns-in_default
returns-in_default c = others _ _ _ _ (opened c.in_default.in_default-own.keys2)
