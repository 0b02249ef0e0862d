-- `status::status_word` meets its contract.
use borrow.Author.Rules.{rules}
use Rattle.unit.proofs.Tests.{tests}
use Rattle.device.specs.Status.{status_word}
use Rattle.status.proofs.status_word.Goals as goal

pub returns : goal.returns
unfolding status_word
returns c = search (rules, tests)
