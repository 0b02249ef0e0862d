-- `frame::read_frame` meets its contract.
use borrow.Author.Rules.{rules}
use Rattle.unit.proofs.Tests.{tests}
use Rattle.frame.specs.Decoding.{read_frame}
use Rattle.frame.proofs.read_frame.Goals as goal

pub returns-then-not_whole : goal.returns-then-not_whole
unfolding read_frame
returns-then-not_whole c = search (rules, tests)

pub returns-then-past_end : goal.returns-then-past_end
unfolding read_frame
returns-then-past_end c = search (rules, tests)

pub returns-then-room-words : goal.returns-then-room-words
unfolding read_frame
returns-then-room-words c = search (rules, tests)

pub returns : goal.returns
unfolding read_frame
returns c = search (rules, tests)
