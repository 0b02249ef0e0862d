-- `item_words_code::answer::put_accepted` meets its contract.
-- Assumes nothing.
use Rattle.numeral.specs.Ascii.{ascii}
use Rattle.text.proofs.Putting.{puts}
use Rattle.item_answer.specs.Words.{started}
use Rattle.item_words_code.proofs.answer.put_accepted.Goals as goal

pub returns-then-temperature : goal.returns-then-temperature
unfolding ascii started
returns-then-temperature c = rw (c.if-flight.true, c.if-temperature.true) (puts c.put_text.ensures)

pub returns-then-flight : goal.returns-then-flight
unfolding ascii started
returns-then-flight c = rw (c.if-flight.true, c.if-temperature.false) (puts c.put_text-then-flight.ensures)

pub returns-then-temperature-2 : goal.returns-then-temperature-2
unfolding ascii started
returns-then-temperature-2 c = rw (c.if-flight.false, c.if-temperature-2.true) (puts c.put_text-then-temperature-2.ensures)

pub returns : goal.returns
unfolding ascii started
returns c = rw (c.if-flight.false, c.if-temperature-2.false) (puts c.put_text-2.ensures)
