-- `session::feed::next_end` meets its contract.
-- Assumes nothing.
use borrow.Author.Rules.{rules}
use Rattle.session.proofs.feed.next_end.Goals as goal

pub returns-then-has_room : goal.returns-then-has_room
returns-then-has_room c = (rw (← c.has_room.ensures, c.if-has_room.true) c.line_end.ensures.0, c.line_end.ensures.2)

pub returns : goal.returns
returns c = (rw (← c.has_room.ensures, c.if-has_room.false), search rules)
