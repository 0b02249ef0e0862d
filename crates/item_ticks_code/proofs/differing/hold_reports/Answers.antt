-- `item_ticks_code::differing::hold_reports` meets its contract.
-- Assumes nothing.
use Rattle.numeral.specs.Ascii.{ascii}
use Rattle.item_ticks_code.specs.OwnHeld.{report_words}
use Rattle.item_ticks_code.proofs.Holding.{held_then}
use Rattle.item_ticks_code.proofs.differing.hold_reports.Goals as goal

pub returns : goal.returns
unfolding ascii report_words
returns c = held_then c.hold_where-a.ensures (held_then c.hold_where-b.ensures (held_then c.hold_where-c.ensures c.hold_where.ensures))
