-- `item_keep_code::analysis::put_listed` meets its contract.
-- Assumes nothing.
use native.Mathlib.Omega.{arith}
use Rattle.item_keep_code.proofs.Listed.{listed-put, further-is}
use Rattle.item_keep_code.proofs.analysis.put_listed.Goals as goal

pub returns-then-places-at : goal.returns-then-places-at
returns-then-places-at c = λ i e. further-is _ _ i e (listed-put _ _ _ _ _ c.list.ensures (λ h. absurd (omega (arith, h, c.if-places-at.true))))

pub returns-then-places-at-2 : goal.returns-then-places-at-2
returns-then-places-at-2 c = λ i e. further-is _ _ i e (listed-put _ _ _ _ _ c.list.ensures (λ h. absurd (omega (arith, h, c.if-places-at.false, c.if-places-at-2.true, c.written-length.ensures))))

pub returns : goal.returns
returns c = λ i e. further-is _ _ i e (listed-put _ _ _ _ _ c.list.ensures (λ h. rw c.written-length.ensures))
