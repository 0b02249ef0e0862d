-- `item_keep_code::analysis::put_run` meets its contract.
-- Assumes nothing.
use Rattle.numeral.specs.Ascii.{ascii}
use Rattle.text.proofs.Putting.{puts, puts_first, puts-last}
use Rattle.item_keep_code.proofs.analysis.put_run.Goals as goal

pub returns : goal.returns
unfolding ascii
returns c = puts-last (puts-last (puts_first c.put_text-a.ensures (puts c.put_decimal-b.ensures)) c.put_text-c.ensures) c.put_decimal.ensures
