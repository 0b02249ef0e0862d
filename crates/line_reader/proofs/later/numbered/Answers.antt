-- `line_reader::later::numbered` meets its contract.
-- Assumes nothing.
use Rattle.line.specs.Line.{numbered}
use Rattle.line_reader.proofs.later.numbered.Goals as goal

pub returns-in-Tick : goal.returns-in-Tick
unfolding numbered
returns-in-Tick c = rw c.in-Tick.is

pub returns-in-At : goal.returns-in-At
unfolding numbered
returns-in-At c = rw c.in-At.is

pub returns-in-Stretch : goal.returns-in-Stretch
unfolding numbered
returns-in-Stretch c = rw c.in-Stretch.is

pub returns-in-Quietest : goal.returns-in-Quietest
unfolding numbered
returns-in-Quietest c = rw c.in-Quietest.is
