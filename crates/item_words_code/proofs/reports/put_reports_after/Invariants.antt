-- `item_words_code::reports::put_reports_after` meets its contract: the ticks named, one after the other.
use Prim.Native.Nat.{◌-◌, ◌≤◌}
use Rattle.text.specs.OwnPut.{Puts}
use Rattle.item_words_code.specs.OwnReports.{reports_after}
use Rattle.item_words_code.proofs.reports.put_reports_after.Given as goal

abbrev pub invariant-loop-next : goal.invariant-loop-next
invariant-loop-next l =
    Puts l.initial.buf l.initial.place (reports_after l.done l.passed l.flight l.temperature) l.place l.buf × (l.passed ≤ l.last)

abbrev pub decreases-loop-next : goal.decreases-loop-next
decreases-loop-next l = l.last - l.passed
