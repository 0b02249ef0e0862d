-- `line_reader::numbers::is_slash` meets its contract.
-- Assumes nothing.
use Rattle.line.specs.Numbers.{is_slash}
use Rattle.line_reader.proofs.numbers.is_slash.Goals as goal

pub returns-then-slash : goal.returns-then-slash
unfolding is_slash
returns-then-slash c = rw c.if-slash.true c.same.ensures

pub returns-else-slash : goal.returns-else-slash
unfolding is_slash
returns-else-slash c = rw c.if-slash.false
