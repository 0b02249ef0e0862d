-- `item_chip_code::transactions::bus` meets its contract. Assumes nothing.
use mathlib.Core.Path.{refl, sym}
use lib.Seq.{length-take-le}
use Rattle.numeral.specs.Ascii.{ascii}
use Rattle.item_line.specs.OwnRead.{as_call}
use Rattle.item_chip_code.proofs.FrameFacts.{bus-set}
use Rattle.item_chip_code.proofs.Lines.{bus-answers}
use Rattle.item_chip_code.proofs.transactions.bus.Goals as goal

pub slice_bounds-buffer-end : goal.slice_bounds-buffer-end
unfolding as_call
slice_bounds-buffer-end c = (bus-set c.requires.1 c.first_words.ensures c.put_low_bytes-k.ensures c.first_bytes-frame.ensures c.size_of-size.ensures).short

pub slice_bounds-out-end : goal.slice_bounds-out-end
unfolding as_call
slice_bounds-out-end c = sym (length-take-le _ _ (bus-set c.requires.1 c.first_words.ensures c.put_low_bytes-k.ensures c.first_bytes-frame.ensures c.size_of-size.ensures).short)

pub returns : goal.returns
unfolding as_call ascii
returns c = let b = bus-set c.requires.1 c.first_words.ensures c.put_low_bytes-k.ensures c.first_bytes-frame.ensures c.size_of-size.ensures in rw c.tell-told.ensures.carried (bus-answers _ _ b.frame_is b.out c.exchange-e.ensures c.tell-told.ensures c.put_output-end.ensures refl refl)
