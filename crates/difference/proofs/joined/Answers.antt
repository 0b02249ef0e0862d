use mathlib.Core.Path.{refl}
use Rattle.difference.specs.Difference.{joined_word}
use Rattle.difference.proofs.joined.Goals as goal

pub returns : goal.returns
unfolding joined_word
returns c = refl
