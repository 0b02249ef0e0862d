-- `item_line_code::numbers::is_slash` meets its contract. Assumes nothing.
use Rattle.numeral.specs.Ascii.{ascii}
use Rattle.item_line_code.proofs.numbers.is_slash.Goals as goal

pub returns-then-slash : goal.returns-then-slash
unfolding ascii
returns-then-slash c = rw c.if-slash.true c.same.ensures
