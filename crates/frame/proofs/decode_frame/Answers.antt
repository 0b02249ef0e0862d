-- `frame::decode_frame` meets its contract.
use borrow.Author.Rules.{rules}
use Rattle.unit.proofs.Tests.{tests}
use Rattle.frame.specs.Decoding.{decode_frame}
use Rattle.frame.proofs.decode_frame.Goals as goal

pub returns-in_default : goal.returns-in_default
unfolding decode_frame
returns-in_default c = let e = c.in_default.ensures in simp e.cases

pub returns-then-further-eq0 : goal.returns-then-further-eq0
unfolding decode_frame
returns-then-further-eq0 c = search (rules, tests)

pub returns-then-is_command : goal.returns-then-is_command
unfolding decode_frame
returns-then-is_command c = search (rules, tests)

pub returns-then-is_write : goal.returns-then-is_write
unfolding decode_frame
returns-then-is_write c = search (rules, tests)

pub returns-then-is_flash : goal.returns-then-is_flash
unfolding decode_frame
returns-then-is_flash c = search (rules, tests)

pub returns-then-is_read : goal.returns-then-is_read
unfolding decode_frame
returns-then-is_read c = search (rules, tests)

pub returns : goal.returns
unfolding decode_frame
returns c = search (rules, tests)
