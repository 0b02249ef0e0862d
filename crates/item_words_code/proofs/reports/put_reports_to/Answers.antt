-- `item_words_code::reports::put_reports_to` meets its contract.
-- Assumes nothing.
use Rattle.item_words_code.proofs.Named.{after_none}
use Rattle.item_words_code.proofs.reports.put_reports_to.Goals as goal

pub returns : goal.returns
returns c = rw (← after_none _ _ _) c.put_reports_after.ensures
