-- `evaluation::difference::difference_word` meets its contract.
use Rattle.unit.proofs.Tests.{tests}
use Rattle.hit.specs.Difference.{difference_word}
use borrow.Author.Rules.{rules}
use Rattle.evaluation.proofs.difference.difference_word.Goals as goal

pub returns : goal.returns
unfolding difference_word
returns c = search (rules, tests)
