-- `item_replay_code::rest::put_line_ending` meets its contract.
-- Assumes nothing.
use Rattle.numeral.specs.Ascii.{ascii}
use Rattle.text.specs.Text.{text_where, ended}
use Rattle.text.proofs.Putting.{puts, puts-last}
use Rattle.item_replay_code.specs.OwnRest.{line_ending}
use Rattle.item_replay_code.proofs.rest.put_line_ending.Goals as goal

pub returns-then-differs : goal.returns-then-differs
unfolding ascii text_where ended line_ending
returns-then-differs c = rw c.if-differs.true (puts-last c.put_expected-a.ensures c.put_text.ensures)

pub returns : goal.returns
unfolding ascii text_where ended line_ending
returns c = rw c.if-differs.false (puts c.put_text-2.ensures)
