-- `numeral::print::glyph` meets its contract.
-- Assumes nothing.
use borrow.Author.Tests.{lt-ltb, le-ltb}
use borrow.Author.Rules.{rules}
use Rattle.numeral.specs.Digit.{glyph}
use Rattle.numeral.proofs.print.glyph.Goals as goal

pub returns-then-d-lt10 : goal.returns-then-d-lt10
unfolding glyph
returns-then-d-lt10 c = search (rules, lt-ltb)

pub returns-else-d-lt10 : goal.returns-else-d-lt10
unfolding glyph
returns-else-d-lt10 c = search (rules, le-ltb)
