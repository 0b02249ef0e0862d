-- `item_words_code::reports::put_report` meets its contract.
-- Assumes nothing.
use Rattle.text.specs.Text.{text_where}
use Rattle.text.proofs.Putting.{puts, puts_none, puts-last}
use Rattle.item_words_code.proofs.reports.put_report.Goals as goal

pub returns-then-happened : goal.returns-then-happened
unfolding text_where
returns-then-happened c = rw c.if-happened.true (puts-last (puts c.put_text-a.ensures) c.put_decimal.ensures)

pub returns : goal.returns
unfolding text_where
returns c = rw c.if-happened.false (puts_none _ _)
