-- `evaluation::limit::any_from` meets its contract.
use mathlib.Core.Path.{◌∙◌}
use lib.Dec.{leb}
use borrow.Author.Rules.{rules}
use Rattle.unit.proofs.Tests.{tests}
use Rattle.std.proofs.lemmas.Iterator.{YieldsList-from_slice}
use Rattle.std.proofs.lemmas.Iterator.Search.{any_from_yields_List}
use Rattle.hit.specs.Limit.{any_from}
use Rattle.evaluation.proofs.AnyWord.{any-list}
use Rattle.evaluation.proofs.limit.any_from.Goals as goal

pub returns : goal.returns
unfolding any_from
returns c =
    let words = c.args.words.now in
    any_from_yields_List (λ w. leb c.args.limit.0 w) _ _ _ c.any.ensures.ran (YieldsList-from_slice words cc) (λ x b q k. search (rules, tests))
    ∙ any-list (λ w. leb c.args.limit.0 w) words
