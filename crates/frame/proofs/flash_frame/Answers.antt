-- `frame::flash_frame` meets its contract.
use borrow.Author.Rules.{rules}
use Rattle.unit.proofs.Tests.{tests}
use Rattle.frame.specs.Decoding.{flash_frame}
use Rattle.frame.proofs.flash_frame.Goals as goal

pub returns-then-further-wanted : goal.returns-then-further-wanted
unfolding flash_frame
returns-then-further-wanted c = search (rules, tests)

pub returns-then-room-lt2 : goal.returns-then-room-lt2
unfolding flash_frame
returns-then-room-lt2 c = search (rules, tests)

pub returns : goal.returns
unfolding flash_frame
returns c = search (rules, tests)
