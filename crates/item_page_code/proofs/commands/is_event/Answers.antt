-- `item_page_code::commands::is_event` meets its contract. Assumes nothing.
use borrow.Author.Tests.{lt-leb, le-leb}
use Rattle.device.specs.Bus.{is_event}
use Rattle.item_page_code.proofs.commands.is_event.Goals as goal

pub returns-then-op-ge7 : goal.returns-then-op-ge7
unfolding is_event
returns-then-op-ge7 c = rw (le-leb _ _ c.if-op-ge7.true)

pub returns-else-op-ge7 : goal.returns-else-op-ge7
unfolding is_event
returns-else-op-ge7 c = rw (lt-leb _ _ c.if-op-ge7.false)
