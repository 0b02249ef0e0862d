-- `evaluation::words::port_pairs` meets its contract.
use Rattle.std.proofs.Common.{get_or}
use Rattle.std.proofs.lemmas.List.FromFn.{fill_by_all}
use Rattle.hit.specs.Words.{port_pair, port_pairs}
use borrow.Author.Rules.{rules}
use Rattle.evaluation.proofs.words.port_pairs.Goals as goal

pub returns : goal.returns
unfolding port_pairs
returns c =
    fill_by_all (λ i. port_pair c.args.limit (get_or c.args.w i 0)) _ 4 0 c.map.ensures.items.long
    (λ i h. let call = c.map.ensures.items.at i 0 0 h in search rules)
