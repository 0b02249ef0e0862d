use mathlib.Core.Path.{sym, ap, ◌∙◌}
use lib.IntN.{nat_abs}
use borrow.Author.Rules.{rules}
use Rattle.quietest.specs.Quietest.{spread, run_spread}
use Rattle.quietest.specs.Search.{spread_of}
use Rattle.quietest.specs.declared.extremes.Extremes.{Extremes}
use Rattle.quietest.proofs.Meaning.{spread-of-none}
use Rattle.quietest.proofs.run_spread.Goals as goal

pub returns-then-is_empty : goal.returns-then-is_empty
returns-then-is_empty c = sym (spread-of-none _ (search rules))

pub returns : goal.returns
unfolding run_spread spread
returns c = c.distance.ensures ∙ ap (λ (e : Extremes). nat_abs (spread_of e)) c.extremes_of.ensures
