-- `item_answer_code::asks::ask` meets its contract. Assumes nothing.
use mathlib.Core.Path.{refl, ap}
use Rattle.item_line.specs.OwnRead.{as_ask}
use Rattle.item_answer.specs.Answer.{Item}
use Rattle.item_answer.specs.OwnView.{item_of}
use Rattle.item_answer_code.proofs.Closing.{told-steps}
use Rattle.item_answer_code.proofs.Firsts.{chip-first, ask-item, ask-further}
use Rattle.item_answer_code.proofs.asks.ask.Goals as goal

pub returns : goal.returns
unfolding item_of
returns c = λ fs ds es. told-steps (chip-first (c.ask-first.ensures.any fs) c.requires (λ i. ap (λ (j : Item). j.recorded) (ask-item (as_ask c.args.said) i)) (λ i. ap (λ (j : Item). j.probes) (ask-item (as_ask c.args.said) i)) refl) c.close-s.ensures (rw (ask-further (as_ask c.args.said) (item_of c.args.c fs ds es)) c.put_further-end.ensures)
