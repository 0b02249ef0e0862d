-- `registers::write::write_invalid` meets its contract.
use borrow.Author.Rules.{rules}
use Rattle.unit.proofs.Tests.{tests}
use mathlib.Core.Path.{sym, ◌∙◌}
use Rattle.device.proofs.WriteTogether.{judged-by-alarm}
use Rattle.device.specs.Write.{write_invalid}
use Rattle.registers.proofs.write.write_invalid.Goals as goal

pub returns-then-op-gt51 : goal.returns-then-op-gt51
unfolding write_invalid
returns-then-op-gt51 c = c.alarm_invalid.ensures ∙ sym (judged-by-alarm _ _ _ _ c.requires.0 c.if-op-gt51.true)

pub returns-then-not-words_valid : goal.returns-then-not-words_valid
unfolding write_invalid
returns-then-not-words_valid c = search (rules, tests)

pub returns-else-not-words_valid : goal.returns-else-not-words_valid
unfolding write_invalid
returns-else-not-words_valid c = search (rules, tests)
