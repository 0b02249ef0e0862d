-- `item_words_code::reports::put_reports` meets its contract.
-- Assumes nothing.
use Rattle.numeral.specs.Ascii.{ascii}
use Rattle.text.proofs.Putting.{puts_then}
use Rattle.item_answer.specs.Words.{report, reports}
use Rattle.item_words_code.proofs.reports.put_reports.Goals as goal

pub returns : goal.returns
unfolding ascii reports report
returns c = puts_then (puts_then (puts_then c.put_report-a.ensures c.put_report-b.ensures) c.put_report-c.ensures) c.put_report.ensures
