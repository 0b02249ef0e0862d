-- `item_ticks_code::running::has_room` meets its contract.
-- Assumes nothing.
use mathlib.Core.Path.{◌∙◌}
use borrow.Author.Tests.{lt-leb}
use Rattle.item_ticks_code.proofs.Turns.{no_room, some-room}
use Rattle.item_ticks_code.proofs.running.has_room.Goals as goal

pub returns-else-stop-ge-ROOM_OF_REPORTS : goal.returns-else-stop-ge-ROOM_OF_REPORTS
returns-else-stop-ge-ROOM_OF_REPORTS c = lt-leb _ _ c.if-stop-ge-ROOM_OF_REPORTS.false ∙ no_room _ _ c.if-stop-ge-ROOM_OF_REPORTS.false

pub returns-then-stop-ge-ROOM_OF_REPORTS : goal.returns-then-stop-ge-ROOM_OF_REPORTS
returns-then-stop-ge-ROOM_OF_REPORTS c = some-room _ _ c.if-stop-ge-ROOM_OF_REPORTS.true
