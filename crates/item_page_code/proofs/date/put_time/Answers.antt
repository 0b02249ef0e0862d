-- `item_page_code::date::put_time` meets its contract. Assumes nothing.
use Rattle.numeral.specs.Ascii.{ascii}
use Rattle.text.proofs.Putting.{puts, puts-last}
use Rattle.item_page.specs.Registers.{time_of_day}
use borrow.Author.Rules.{rules}
use Rattle.item_page_code.proofs.date.put_time.Goals as goal

pub returns : goal.returns
unfolding ascii time_of_day
returns c = rw (← c.hours.ensures) (puts-last (puts-last (puts c.put_hex-a.ensures) c.put_text-b.ensures) c.put_hex.ensures)
