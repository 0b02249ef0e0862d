-- `evaluation::words::four_words` meets its contract.
use Rattle.std.proofs.lemmas.List.FromFn.{fill_by_all}
use Rattle.hit.specs.Words.{word_or_zero, four_words}
use borrow.Author.Rules.{rules}
use Rattle.evaluation.proofs.words.four_words.Goals as goal

pub returns : goal.returns
unfolding four_words
returns c =
    fill_by_all (word_or_zero c.args.words.now) _ 4 0 c.from_fn.ensures.items.long
    (λ i h. let call = c.from_fn.ensures.items.at i 0 h in search rules)
