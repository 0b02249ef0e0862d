-- `sound_calls::sound_temperature_delivery` meets its contract.
use borrow.Author.Rules.{rules}
use Rattle.unit.proofs.Tests.{tests}
use Rattle.device.proofs.Replies.{reply-temperature}
use Rattle.sound_calls.proofs.sound_temperature_delivery.Goals as goal

pub returns-then-not-is_awaited : goal.returns-then-not-is_awaited
returns-then-not-is_awaited c = search (rules, tests, reply-temperature c.args.m c.requires c.args.words.now)

pub returns-then-words-ne4 : goal.returns-then-words-ne4
returns-then-words-ne4 c = search (rules, tests, reply-temperature c.args.m c.requires c.args.words.now)

pub returns-else-words-ne4 : goal.returns-else-words-ne4
returns-else-words-ne4 c = search (rules, tests, reply-temperature c.args.m c.requires c.args.words.now)
