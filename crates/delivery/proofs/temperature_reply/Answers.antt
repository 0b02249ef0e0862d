-- `delivery::temperature_reply` meets its contract.
use borrow.Author.Rules.{rules}
use Rattle.unit.proofs.Tests.{tests}
use Rattle.device.proofs.Sound.{sound-temperature}
use Rattle.device.specs.Parts.{temperature_reply}
use Rattle.device.specs.Reply.{accepted_answer, accepted_model, port_fault, any_open}
use Rattle.hit.specs.Limit.{any_fault}
use Rattle.delivery.proofs.temperature_reply.Goals as goal

pub returns-then-opened : goal.returns-then-opened
unfolding temperature_reply accepted_answer accepted_model port_fault any_open any_fault
returns-then-opened c = search (rules, tests)

pub returns : goal.returns
unfolding temperature_reply accepted_answer accepted_model port_fault any_open any_fault
returns c = search (rules, tests)

pub failed_temperature_model-requires : goal.failed_temperature_model-requires
failed_temperature_model-requires c = sound-temperature c.args.m c.requires

pub good_temperature_model-requires : goal.good_temperature_model-requires
good_temperature_model-requires c = sound-temperature c.args.m c.requires
