-- `item_chip_code::deliveries::flight` meets its contract. Assumes nothing.
use Rattle.numeral.specs.Ascii.{ascii}
use Rattle.item_chip_code.proofs.Lines.{delivery-answers}
use Rattle.item_chip_code.proofs.deliveries.flight.Goals as goal

pub returns : goal.returns
unfolding ascii
returns c = delivery-answers "flight" _ (rw (← c.words_from.ensures, ← c.first_words-ups.ensures, ← c.first_words-downs.ensures) c.sound_flight_delivery-reply.ensures) c.deliver.ensures
