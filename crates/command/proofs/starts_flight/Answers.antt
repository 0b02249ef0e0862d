-- `command::starts_flight` meets its contract.
use borrow.Author.Rules.{rules}
use Rattle.unit.proofs.Tests.{tests}
use Rattle.device.specs.Bus.{starts_flight}
use Rattle.command.proofs.starts_flight.Goals as goal

pub returns-then-op-lt-TEMPERATURE : goal.returns-then-op-lt-TEMPERATURE
unfolding starts_flight
returns-then-op-lt-TEMPERATURE c = search (rules, tests)

pub returns-then-op-eq-EVTMG1 : goal.returns-then-op-eq-EVTMG1
unfolding starts_flight
returns-then-op-eq-EVTMG1 c = search (rules, tests)

pub returns-then-op-eq-EVTMG2 : goal.returns-then-op-eq-EVTMG2
unfolding starts_flight
returns-then-op-eq-EVTMG2 c = search (rules, tests)

pub returns-else-op-eq-EVTMG2 : goal.returns-else-op-eq-EVTMG2
unfolding starts_flight
returns-else-op-eq-EVTMG2 c = search (rules, tests)
