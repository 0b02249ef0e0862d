-- `item_words_code::reports::next_named` meets its contract.
-- Assumes nothing.
use Rattle.item_words_code.specs.OwnReports.{next_named}
use Rattle.item_words_code.proofs.reports.next_named.Goals as goal

pub returns : goal.returns
unfolding next_named
returns c = rw (c.sooner.ensures, c.sooner-c.ensures, c.sooner-b.ensures, c.sooner-a.ensures)
