-- `item_calls::deliveries::temperature` meets its contract.
-- Assumes nothing.
use Rattle.item_calls.specs.Lines.{temperature_line, told}
use Rattle.item_state.specs.Log.{called}
use Rattle.item_calls.proofs.deliveries.temperature.Goals as goal

pub returns : goal.returns
unfolding temperature_line told called
returns c = rw (← c.first_words.ensures, ← c.temperature_delivery-reply.ensures.reply, ← c.put_temperature-used.ensures.next, ← c.put_temperature-used.ensures.bytes, ← c.count_call.ensures)
