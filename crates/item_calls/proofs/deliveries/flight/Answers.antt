-- `item_calls::deliveries::flight` meets its contract.
-- Assumes nothing.
use Rattle.item_calls.specs.Lines.{flight_line, told}
use Rattle.item_state.specs.Log.{called}
use Rattle.item_calls.proofs.deliveries.flight.Goals as goal

pub returns : goal.returns
unfolding flight_line told called
returns c = rw (← c.words_from.ensures, ← c.first_words-ups.ensures, ← c.first_words-downs.ensures, ← c.flight_delivery-reply.ensures.reply, ← c.put_flight-used.ensures.next, ← c.put_flight-used.ensures.bytes, ← c.count_call.ensures)
