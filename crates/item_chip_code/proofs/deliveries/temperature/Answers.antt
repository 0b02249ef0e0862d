-- `item_chip_code::deliveries::temperature` meets its contract. Assumes nothing.
use Rattle.numeral.specs.Ascii.{ascii}
use Rattle.item_chip_code.proofs.Lines.{delivery-answers}
use Rattle.item_chip_code.proofs.deliveries.temperature.Goals as goal

pub returns : goal.returns
unfolding ascii
returns c = delivery-answers "temperature" _ (rw (← c.first_words.ensures) c.sound_temperature_delivery-reply.ensures) c.deliver.ensures
