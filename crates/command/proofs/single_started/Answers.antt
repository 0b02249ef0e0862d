-- `command::single_started` meets its contract.
use borrow.Author.Tests.{eq-eqb, ne_eqb}
use Rattle.device.specs.Bus.{single_started}
use borrow.Author.Rules.{rules}
use Rattle.command.proofs.single_started.Goals as goal

pub returns-then-op-eq-TEMPERATURE : goal.returns-then-op-eq-TEMPERATURE
unfolding single_started
returns-then-op-eq-TEMPERATURE c = simp (← c.start_single-k.ensures, eq-eqb _ _ c.if-op-eq-TEMPERATURE.true)

pub returns : goal.returns
unfolding single_started
returns c = simp (← c.flight_started-flight.ensures, ne_eqb _ _ c.if-op-eq-TEMPERATURE.false)
