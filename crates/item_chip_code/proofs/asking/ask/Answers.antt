-- `item_chip_code::asking::ask` meets its contract. Assumes nothing.
use Rattle.item_chip_code.proofs.Lines.{ask-answers}
use Rattle.item_chip_code.proofs.asking.ask.Goals as goal

pub returns : goal.returns
returns c = ask-answers _ c.put_answer_line-end.ensures
