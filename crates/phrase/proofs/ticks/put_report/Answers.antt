-- `phrase::ticks::put_report` meets its contract.
-- Assumes nothing.
use Rattle.std.proofs.Common.{rules}
use Rattle.wording.specs.Wording.{report_at}
use Rattle.wording.proofs.Each.{put-none, put_one, put_first}
use Rattle.phrase.proofs.ticks.put_report.Goals as goal

pub returns-then-holds : goal.returns-then-holds
unfolding report_at
returns-then-holds c = rw c.if-holds.true (put_first c.put_text-a.ensures (put_one c.put_decimal.ensures))

pub returns : goal.returns
unfolding report_at
returns c = rw c.if-holds.false (put-none _ _)
