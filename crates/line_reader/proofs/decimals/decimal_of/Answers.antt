-- `line_reader::decimals::decimal_of` meets its contract.
-- Assumes nothing.
use Rattle.line.specs.Decimals.{decimal_of}
use Rattle.line_reader.proofs.decimals.decimal_of.Goals as goal

pub returns-then-signed : goal.returns-then-signed
unfolding decimal_of
returns-then-signed c = rw c.if-signed.true c.read_signed.ensures

pub returns-else-signed : goal.returns-else-signed
unfolding decimal_of
returns-else-signed c = rw c.if-signed.false c.read_decimal.ensures
