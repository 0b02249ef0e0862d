-- `setup::stop_row` meets its contract.
use native.Mathlib.Omega.{arith}
use mathlib.Core.Path.{refl}
use borrow.Author.Rules.{rules}
use Rattle.unit.proofs.Rows.{past-last, untaken-from}
use Rattle.setup.specs.Table11.{stop_table, stop_row}
use Rattle.setup.proofs.stop_row.Goals as goal

pub returns-in-0 : goal.returns-in-0
unfolding stop_row stop_table
returns-in-0 c = search rules

pub returns-in-1 : goal.returns-in-1
unfolding stop_row stop_table
returns-in-1 c = search rules

pub returns-in-2 : goal.returns-in-2
unfolding stop_row stop_table
returns-in-2 c = search rules

pub returns-in-3 : goal.returns-in-3
unfolding stop_row stop_table
returns-in-3 c = search rules

pub returns-in-4 : goal.returns-in-4
unfolding stop_row stop_table
returns-in-4 c = search rules

pub returns-in-5 : goal.returns-in-5
unfolding stop_row stop_table
returns-in-5 c = search rules

pub returns-in-6 : goal.returns-in-6
unfolding stop_row stop_table
returns-in-6 c = search rules

pub returns-in-7 : goal.returns-in-7
unfolding stop_row stop_table
returns-in-7 c = search rules

pub returns-in_default : goal.returns-in_default
unfolding stop_row stop_table
returns-in_default c =
    let k = c.args.stop in
    past-last stop_table 6 k refl (omega (arith, untaken-from 8 k c.in_default.in_default-own.rest))
