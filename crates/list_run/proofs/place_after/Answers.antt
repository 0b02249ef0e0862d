-- `list_run::place_after` meets its contract.
use borrow.Author.Tests.{eq-eqb, ne_eqb}
use Rattle.call_list.specs.CallList.{place_after}
use borrow.Author.Rules.{rules}
use Rattle.list_run.proofs.place_after.Goals as goal

pub returns-then-e-eq-TRANSACTION : goal.returns-then-e-eq-TRANSACTION
unfolding place_after
returns-then-e-eq-TRANSACTION c = search (rules, eq-eqb, ne_eqb)

pub returns-then-e-eq-FLIGHT : goal.returns-then-e-eq-FLIGHT
unfolding place_after
returns-then-e-eq-FLIGHT c = search (rules, eq-eqb, ne_eqb)

pub returns-then-e-eq-TEMPERATURE : goal.returns-then-e-eq-TEMPERATURE
unfolding place_after
returns-then-e-eq-TEMPERATURE c = search (rules, eq-eqb, ne_eqb)

pub returns : goal.returns
unfolding place_after
returns c = search (rules, eq-eqb, ne_eqb)
