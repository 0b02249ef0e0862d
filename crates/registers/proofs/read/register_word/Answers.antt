-- `registers::read::register_word` meets its contract.
use borrow.Author.Rules.{rules}
use Rattle.unit.proofs.Tests.{tests}
use Rattle.device.specs.Registers.{register_word}
use Rattle.registers.proofs.read.register_word.Goals as goal

pub returns-in-176-to-179 : goal.returns-in-176-to-179
unfolding register_word
returns-in-176-to-179 c = search (rules, tests)

pub returns-in-180-to-195 : goal.returns-in-180-to-195
unfolding register_word
returns-in-180-to-195 c = search (rules, tests)

pub returns-in-196-to-230 : goal.returns-in-196-to-230
unfolding register_word
returns-in-196-to-230 c = search (rules, tests)

pub returns-in-231-to-247 : goal.returns-in-231-to-247
unfolding register_word
returns-in-231-to-247 c = search (rules, tests)

pub returns-in-254 : goal.returns-in-254
unfolding register_word
returns-in-254 c = search (rules, tests)

pub returns-in_default : goal.returns-in_default
unfolding register_word
returns-in_default c = search (rules, tests)

pub returns-in_default-2 : goal.returns-in_default-2
unfolding register_word
returns-in_default-2 c = search (rules, tests)
