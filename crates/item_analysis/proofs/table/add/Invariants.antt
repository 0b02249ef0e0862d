-- `item_analysis::table::add` meets its contract: a value more in each turn.
use mathlib.Core.Path.{◌≡◌}
use lib.ListN.{drop}
use Rattle.item_analysis.specs.Kept.{kept_each}
use Rattle.item_analysis.proofs.table.add.Given as goal

abbrev pub invariant-loop-entry : goal.invariant-loop-entry
invariant-loop-entry l = kept_each (drop l.entry-index l.entries) record { values = l.probes; used = l.end } ≡ kept_each l.entries record { values = l.initial.probes; used = l.initial.end }
