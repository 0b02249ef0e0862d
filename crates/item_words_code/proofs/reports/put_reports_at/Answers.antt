-- `item_words_code::reports::put_reports_at` meets its contract.
-- Assumes nothing.
use Prim.Native.Nat.{ℕ}
use mathlib.Core.List.{List, [], ◌∷◌}
use types.Run.{OneOf, miss}
use denote.Enum.Declared.{tag_of}
use Rattle.device.specs.contracts.Answer.{the_type}
use Rattle.device.specs.declared.Answer.{Answer}
use Rattle.device.specs.declared.Answer.TheVariants.{Refused, Accepted, Ticked, Stretched, Good, Failed}
use Rattle.text.specs.OwnPut.{Puts}
use Rattle.text.proofs.Putting.{puts_none}
use Rattle.item_answer.specs.Words.{reports_at}
use borrow.Enum.Refused.{opened}
use Rattle.item_words_code.proofs.reports.put_reports_at.Goals as goal

others : (a : Answer) (i : ℕ) (l : List ℕ) (at : ℕ) → OneOf (0 ∷ 1 ∷ 4 ∷ 5 ∷ []) (tag_of the_type a) → Puts l at (reports_at i a) at l
unfolding reports_at
others (Refused r) i l at h = puts_none l at
others (Accepted f t) i l at h = puts_none l at
others (Ticked f t) i l at h = absurd (miss (0 ∷ 1 ∷ 4 ∷ 5 ∷ []) 2 tt h)
others (Stretched f t) i l at h = absurd (miss (0 ∷ 1 ∷ 4 ∷ 5 ∷ []) 3 tt h)
others Good i l at h = puts_none l at
others Failed i l at h = puts_none l at

pub returns-in-Ticked : goal.returns-in-Ticked
unfolding reports_at
returns-in-Ticked c = rw c.in-Ticked.is c.put_reports.ensures

pub returns-in-Stretched : goal.returns-in-Stretched
unfolding reports_at
returns-in-Stretched c = rw (c.in-Stretched.is, ← c.named_in-f.ensures.0, ← c.named_in-f.ensures.1, ← c.named_in-t.ensures.0, ← c.named_in-t.ensures.1) c.put_reports-in-Stretched.ensures

pub returns-in_default : goal.returns-in_default
returns-in_default c = others _ _ _ _ (opened c.in_default.in_default-own.keys3)
