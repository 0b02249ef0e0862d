-- `item_calls::transaction::bus` meets its contract.
-- Assumes nothing.
use Rattle.item_calls.proofs.Steps.{buffer-fits}
use mathlib.Core.Path.{ap, ◌∙◌}
use Rattle.item_calls.specs.Buffer.{buffer_size}
use Rattle.item_calls.proofs.transaction.bus.Goals as goal

pub bus_out-requires : goal.bus_out-requires
bus_out-requires c = (c.requires, rw (c.buffer_size-size.ensures, c.first_words.ensures) (buffer-fits c.args.bytes c.args.numbers.now c.requires))

pub returns : goal.returns
returns c = rw (← (c.buffer_size-size.ensures ∙ ap buffer_size c.first_words.ensures)) c.bus_out.ensures
