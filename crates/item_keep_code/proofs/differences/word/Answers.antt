-- `item_keep_code::differences::word` meets its contract.
-- Assumes nothing.
use Rattle.item_keep_code.proofs.Peek.{value-told, not-refused}
use Rattle.item_keep_code.proofs.differences.word.Goals as goal

pub returns-in-Ok : goal.returns-in-Ok
returns-in-Ok c = value-told c.args.m c.args.a c.requires.0 c.requires.1 c.requires.2 c.peek.ensures.same c.in-Ok.is

pub returns-in-Err : goal.returns-in-Err
returns-in-Err c = not-refused c.args.m c.args.a c.requires.0 c.requires.1 c.requires.2 c.peek.ensures.same c.in-Err.is
