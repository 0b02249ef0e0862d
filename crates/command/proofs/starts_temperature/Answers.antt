-- `command::starts_temperature` meets its contract.
use borrow.Author.Rules.{rules}
use Rattle.unit.proofs.Tests.{tests}
use Rattle.device.specs.Bus.{starts_temperature}
use Rattle.command.proofs.starts_temperature.Goals as goal

pub returns-then-op-eq-TEMPERATURE : goal.returns-then-op-eq-TEMPERATURE
unfolding starts_temperature
returns-then-op-eq-TEMPERATURE c = search (rules, tests)

pub returns-then-op-eq-EVTMG1 : goal.returns-then-op-eq-EVTMG1
unfolding starts_temperature
returns-then-op-eq-EVTMG1 c = search (rules, tests)

pub returns-then-op-eq-EVTMG3 : goal.returns-then-op-eq-EVTMG3
unfolding starts_temperature
returns-then-op-eq-EVTMG3 c = search (rules, tests)

pub returns-else-op-eq-EVTMG3 : goal.returns-else-op-eq-EVTMG3
unfolding starts_temperature
returns-else-op-eq-EVTMG3 c = search (rules, tests)
