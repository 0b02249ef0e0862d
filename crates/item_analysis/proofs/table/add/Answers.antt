-- `item_analysis::table::add` meets its contract: a value more in each turn.
-- Assumes nothing.
use Rattle.item_analysis.proofs.Steps.{entries-on, entries-end}
use Rattle.item_analysis.proofs.table.add.Goals as goal

pub loop-entry-preserved : goal.loop-entry-preserved
loop-entry-preserved c = entries-on c.args.entries.now c.loop-entry.entry-index c.loop-entry-test.true record { values = c.loop-entry.probes; used = c.loop-entry.end } c.put-end.ensures c.loop-entry.invariant

pub returns : goal.returns
returns c = entries-end c.args.entries.now c.loop-entry.entry-index c.loop-entry-test.false record { values = c.loop-entry.probes; used = c.loop-entry.end } c.loop-entry.invariant
