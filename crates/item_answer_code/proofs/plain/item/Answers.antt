-- `item_answer_code::plain::item` meets its contract. Assumes nothing.
use Rattle.item_answer_code.proofs.Firsts.{fresh-few}
use Rattle.item_answer_code.proofs.plain.item.Goals as goal

pub returns : goal.returns
returns c = λ ds es. record { text = c.put_item-end.ensures; item = c.fresh_item-carried.ensures ds es; adds = λ h. c.no_counts.ensures; few = fresh-few c.fresh_item-carried.new.flash c.fresh_item-carried.ensures }
