-- `item_replay_code::lines::has_room` meets its contract.
-- Assumes nothing.
use Rattle.item_replay_code.proofs.lines.has_room.Goals as goal

pub returns-then-has_places : goal.returns-then-has_places
returns-then-has_places c = rw (← c.has_places.ensures, c.if-has_places.true) c.has_marks.ensures

pub returns-else-has_places : goal.returns-else-has_places
returns-else-has_places c = rw (← c.has_places.ensures, c.if-has_places.false)
