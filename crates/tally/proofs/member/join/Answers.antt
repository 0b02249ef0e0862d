-- `tally::member::join` meets its contract.
-- Assumes nothing.
use Rattle.collection.specs.Group.{joined}
use Rattle.tally.proofs.Parts.{joined-unnamed, joined-named}
use Rattle.tally.proofs.member.join.Goals as goal

pub returns-then-not-belongs : goal.returns-then-not-belongs
unfolding joined
returns-then-not-belongs c = rw c.if-not-belongs.true

pub returns-then-end : goal.returns-then-end
returns-then-end c = joined-unnamed c.if-not-belongs.false _ _ _ c.put_name-end.ensures c.if-end.true c.more.ensures

pub returns : goal.returns
returns c = joined-named c.if-not-belongs.false _ _ _ c.put_name-end.ensures c.if-end.false c.more-2.ensures c.more-3.ensures
