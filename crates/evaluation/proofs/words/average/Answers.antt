-- `evaluation::words::average` meets its contract.
use mathlib.Core.Path.{refl}
use Rattle.hit.specs.Words.{average}
use Rattle.hit.proofs.Limits.{quotient-below}
use Rattle.evaluation.proofs.words.average.Goals as goal

pub returns : goal.returns
unfolding average
returns c = (rw (c.six_total-total.ensures, c.from.ensures) refl, rw (c.six_total-total.ensures, c.from.ensures) (quotient-below _ _ 2147483648 c.requires))
