-- `item_words_code::kept::put_last_line` meets its contract.
-- Assumes nothing.
use Rattle.numeral.specs.Ascii.{ascii}
use Rattle.text.proofs.Putting.{puts, puts_then}
use Rattle.item_words_code.proofs.Last.{last_line_lem}
use Rattle.item_words_code.proofs.kept.put_last_line.Goals as goal

pub returns : goal.returns
unfolding ascii
returns c = rw (← last_line_lem _) (puts_then (puts_then (puts_then (puts_then (puts_then (puts_then (puts c.put_text-a.ensures) c.put_count-b.ensures) c.put_count-c.ensures) c.put_count-d.ensures) c.put_count-e.ensures) c.put_count-f.ensures) c.put_count.ensures)
