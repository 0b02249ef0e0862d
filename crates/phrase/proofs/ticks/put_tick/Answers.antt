-- `phrase::ticks::put_tick` meets its contract.
-- Assumes nothing.
use Rattle.std.proofs.Common.{rules}
use Rattle.numeral.specs.Ascii.{ascii}
use Rattle.wording.specs.Wording.{tick_reports}
use Rattle.wording.proofs.Each.{put_then}
use Rattle.phrase.proofs.ticks.put_tick.Goals as goal

pub returns : goal.returns
unfolding ascii tick_reports
returns c = rw (← c.same.ensures, ← c.same-2.ensures, ← c.same-3.ensures, ← c.same-4.ensures) (put_then c.put_report-a.ensures (put_then c.put_report-b.ensures (put_then c.put_report-c.ensures c.put_report.ensures)))
