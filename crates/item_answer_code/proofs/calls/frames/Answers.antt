-- `item_answer_code::calls::frames` meets its contract. Assumes nothing.
use mathlib.Core.Path.{refl}
use Rattle.item_answer.specs.OwnView.{item_of}
use Rattle.item_answer_code.proofs.Firsts.{keep-first}
use Rattle.item_answer_code.proofs.calls.frames.Goals as goal

pub returns : goal.returns
unfolding item_of
returns c = λ ds es fs. keep-first c.requires.1 c.put_frames-first.ensures refl refl
