-- `session::feed::has_room` meets its contract.
-- Assumes nothing.
use borrow.Author.Tests.{eq-eqb, ne_eqb}
use Rattle.session.specs.Feed.{has_room}
use Rattle.session.proofs.feed.has_room.Goals as goal

pub returns-then-counts-ne0 : goal.returns-then-counts-ne0
unfolding has_room
returns-then-counts-ne0 c = rw (ne_eqb _ 0 c.if-counts-ne0.true)

pub returns : goal.returns
unfolding has_room
returns c = rw (eq-eqb _ 0 c.if-counts-ne0.false)
