-- `frame::write_frame` meets its contract.
use borrow.Author.Rules.{rules}
use Rattle.unit.proofs.Tests.{tests}
use Rattle.frame.specs.Decoding.{write_frame}
use Rattle.frame.proofs.write_frame.Goals as goal

pub returns-then-not_whole : goal.returns-then-not_whole
unfolding write_frame
returns-then-not_whole c = search (rules, tests)

pub returns-then-past_end : goal.returns-then-past_end
unfolding write_frame
returns-then-past_end c = search (rules, tests)

pub returns : goal.returns
unfolding write_frame
returns c = search (rules, tests)
