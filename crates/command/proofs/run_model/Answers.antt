-- `command::run_model` meets its contract.
use Rattle.device.specs.Bus.{run_model}
use Rattle.device.specs.Model.{reset_model}
use borrow.Author.Tests.{eq-eqb, ne_eqb}
use borrow.Author.Rules.{rules}
use Rattle.command.proofs.run_model.Goals as goal

pub returns-then-op-eq-RESET : goal.returns-then-op-eq-RESET
unfolding run_model reset_model
returns-then-op-eq-RESET c = simp (← c.fresh_with.ensures, ← c.no_bits.ensures, eq-eqb _ _ c.if-op-eq-RESET.true)

pub returns-then-op-eq-INITIALIZE : goal.returns-then-op-eq-INITIALIZE
unfolding run_model reset_model
returns-then-op-eq-INITIALIZE c = simp (← c.initialised_model.ensures, eq-eqb _ _ c.if-op-eq-INITIALIZE.true, ne_eqb _ _ c.if-op-eq-RESET.false)

pub returns-then-op-eq-HALT : goal.returns-then-op-eq-HALT
unfolding run_model reset_model
returns-then-op-eq-HALT c = simp (← c.halted_model.ensures, eq-eqb _ _ c.if-op-eq-HALT.true, ne_eqb _ _ c.if-op-eq-INITIALIZE.false, ne_eqb _ _ c.if-op-eq-RESET.false)

pub returns-then-op-eq-LDO_ON : goal.returns-then-op-eq-LDO_ON
unfolding run_model reset_model
returns-then-op-eq-LDO_ON c = simp (← c.supplied.ensures, eq-eqb _ _ c.if-op-eq-LDO_ON.true, ne_eqb _ _ c.if-op-eq-HALT.false, ne_eqb _ _ c.if-op-eq-INITIALIZE.false, ne_eqb _ _ c.if-op-eq-RESET.false)

pub returns-then-op-eq-LDO_OFF : goal.returns-then-op-eq-LDO_OFF
unfolding run_model reset_model
returns-then-op-eq-LDO_OFF c = simp (← c.unsupplied.ensures, eq-eqb _ _ c.if-op-eq-LDO_OFF.true, ne_eqb _ _ c.if-op-eq-LDO_ON.false, ne_eqb _ _ c.if-op-eq-HALT.false, ne_eqb _ _ c.if-op-eq-INITIALIZE.false, ne_eqb _ _ c.if-op-eq-RESET.false)

pub returns-then-is_event : goal.returns-then-is_event
unfolding run_model reset_model
returns-then-is_event c = simp (← c.started_event.ensures, c.if-is_event.true, ← c.is_event.ensures, ne_eqb _ _ c.if-op-eq-LDO_OFF.false, ne_eqb _ _ c.if-op-eq-LDO_ON.false, ne_eqb _ _ c.if-op-eq-HALT.false, ne_eqb _ _ c.if-op-eq-INITIALIZE.false, ne_eqb _ _ c.if-op-eq-RESET.false)

pub returns : goal.returns
unfolding run_model reset_model
returns c = simp (← c.single_started.ensures, c.if-is_event.false, ← c.is_event.ensures, ne_eqb _ _ c.if-op-eq-LDO_OFF.false, ne_eqb _ _ c.if-op-eq-LDO_ON.false, ne_eqb _ _ c.if-op-eq-HALT.false, ne_eqb _ _ c.if-op-eq-INITIALIZE.false, ne_eqb _ _ c.if-op-eq-RESET.false)
