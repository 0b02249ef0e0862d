-- `list_run::entry_fits` meets its contract.
use borrow.Author.Tests.{le-leb, lt-leb, eq-eqb, ne_eqb}
use Rattle.call_list.specs.CallList.{entry_fits}
use Rattle.list_run.proofs.entry_fits.Goals as goal

pub returns-then-first-frames : goal.returns-then-first-frames
unfolding entry_fits
returns-then-first-frames c = simp (eq-eqb _ _ c.if-e-eq-TRANSACTION.true, le-leb _ _ c.if-first-frames.true)

pub returns-then-e-eq-TRANSACTION : goal.returns-then-e-eq-TRANSACTION
unfolding entry_fits
returns-then-e-eq-TRANSACTION c = simp (eq-eqb _ _ c.if-e-eq-TRANSACTION.true, lt-leb _ _ c.if-first-frames.false)

pub returns-then-first-hits : goal.returns-then-first-hits
unfolding entry_fits
returns-then-first-hits c = simp (ne_eqb _ _ c.if-e-eq-TRANSACTION.false, eq-eqb _ _ c.if-e-eq-FLIGHT.true, le-leb _ _ c.if-first-hits.true)

pub returns-then-e-eq-FLIGHT : goal.returns-then-e-eq-FLIGHT
unfolding entry_fits
returns-then-e-eq-FLIGHT c = simp (ne_eqb _ _ c.if-e-eq-TRANSACTION.false, eq-eqb _ _ c.if-e-eq-FLIGHT.true, lt-leb _ _ c.if-first-hits.false)

pub returns-then-e-eq-TEMPERATURE : goal.returns-then-e-eq-TEMPERATURE
unfolding entry_fits
returns-then-e-eq-TEMPERATURE c = simp (ne_eqb _ _ c.if-e-eq-TRANSACTION.false, ne_eqb _ _ c.if-e-eq-FLIGHT.false, eq-eqb _ _ c.if-e-eq-TEMPERATURE.true)

pub returns-then-e-eq-TICK : goal.returns-then-e-eq-TICK
unfolding entry_fits
returns-then-e-eq-TICK c = simp (ne_eqb _ _ c.if-e-eq-TRANSACTION.false, ne_eqb _ _ c.if-e-eq-FLIGHT.false, ne_eqb _ _ c.if-e-eq-TEMPERATURE.false, eq-eqb _ _ c.if-e-eq-TICK.true)

pub returns : goal.returns
unfolding entry_fits
returns c =
    rw (ne_eqb _ _ c.if-e-eq-TRANSACTION.false, ne_eqb _ _ c.if-e-eq-FLIGHT.false, ne_eqb _ _ c.if-e-eq-TEMPERATURE.false, ne_eqb _ _ c.if-e-eq-TICK.false)
