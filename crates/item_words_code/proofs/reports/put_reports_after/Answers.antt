-- `item_words_code::reports::put_reports_after` meets its contract: the ticks named, one after the other.
-- Assumes nothing.
use mathlib.Core.Path.{◌∙◌, sym}
use native.Mathlib.Omega.{arith}
use Rattle.text.proofs.Putting.{puts_none}
use Rattle.item_words_code.specs.OwnReports.{reports_after}
use Rattle.item_words_code.proofs.Named.{later, turn, done_all}
use Rattle.item_words_code.proofs.reports.put_reports_after.Goals as goal

pub loop-next-init : goal.loop-next-init
unfolding reports_after
loop-next-init c = (puts_none _ _, omega arith)

pub returns-then-next-last : goal.returns-then-next-last
returns-then-next-last c =
    rw (← c.wide-last.ensures.0)
    (done_all _ _ _ _ _ c.loop-next.invariant.1 (rw (← c.next_named.ensures, c.in-Some.is) c.if-next-last.true) c.loop-next.invariant.0)

pub loop-next-smaller : goal.loop-next-smaller
loop-next-smaller c =
    let less = later _ _ _ _ (sym c.in-Some.is ∙ c.next_named.ensures) in
    omega (arith, less, c.if-next-last.false)

pub loop-next-preserved : goal.loop-next-preserved
loop-next-preserved c =
    (turn _ _ _ _ _ (sym c.in-Some.is ∙ c.next_named.ensures) _ _ c.named_in-f.ensures c.named_in-t.ensures c.loop-next.invariant.0 c.put_reports-place.ensures, c.if-next-last.false)

pub returns : goal.returns
returns c =
    rw (← c.wide-last.ensures.0)
    (done_all _ _ _ _ _ c.loop-next.invariant.1 (rw (← c.next_named.ensures, c.in_default.is) (omega arith)) c.loop-next.invariant.0)
