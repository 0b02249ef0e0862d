-- `evaluation::words::plus_each` meets its contract.
use Rattle.std.proofs.Common.{get_or}
use Rattle.std.proofs.lemmas.List.FromFn.{fill_by_all}
use Rattle.hit.specs.Words.{no_quanta, plus, plus_each}
use borrow.Author.Rules.{rules}
use Rattle.evaluation.proofs.words.plus_each.Goals as goal

pub returns : goal.returns
unfolding plus_each
returns c =
    fill_by_all (λ i. plus (get_or c.args.sums i no_quanta) (get_or c.args.w i 0)) _ 4 no_quanta c.from_fn.ensures.items.long
    (λ i h. let call = c.from_fn.ensures.items.at i no_quanta h in search rules)
