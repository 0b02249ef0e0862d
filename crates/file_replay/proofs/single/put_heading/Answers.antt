-- `file_replay::single::put_heading` meets its contract.
-- Assumes nothing.
use Rattle.collection.proofs.Room.{heading-whole}
use Rattle.file_replay.specs.Files.{headed}
use borrow.Author.Rules.{rules}
use Rattle.file_replay.proofs.single.put_heading.Goals as goal

pub returns-then-heading : goal.returns-then-heading
unfolding headed
returns-then-heading c =
    rw c.if-heading.true
    (heading-whole _ c.requires c.put_heading.ensures)

pub returns : goal.returns
unfolding headed
returns c = search rules
