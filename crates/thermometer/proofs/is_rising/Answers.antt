-- `thermometer::is_rising` meets its contract.
use lib.Dec.{ltb}
use borrow.Author.Rules.{rules}
use Rattle.std.proofs.Common.{of_calls}
use Rattle.std.proofs.lemmas.Fn.{always_returns_same}
use Rattle.thermometer.proofs.Rise.{rising-answered}
use Rattle.thermometer.proofs.is_rising.Goals as goal

pub returns : goal.returns
returns c =
    rising-answered c.args.table.now c.is_sorted_by.result
    (c.is_sorted_by.ensures.cases ltb (always_returns_same _ _ _ (λ a r f k. search (rules, of_calls))))
