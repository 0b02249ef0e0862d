-- `show::commands::is_event` meets its contract.
-- Assumes nothing.
use borrow.Author.Tests.{le-leb, lt-leb}
use Rattle.device.specs.Bus.{is_event}
use Rattle.show.proofs.commands.is_event.Goals as goal

pub returns-then-op-lt7 : goal.returns-then-op-lt7
unfolding is_event
returns-then-op-lt7 c = rw (lt-leb _ _ c.if-op-lt7.true)

pub returns : goal.returns
unfolding is_event
returns c = rw (le-leb _ _ c.if-op-lt7.false)
