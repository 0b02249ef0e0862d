-- `text_code::compare::same` meets its contract. Assumes nothing.
use mathlib.Core.Path.{◌∙◌}
use Rattle.text_code.proofs.WordLaws.{same_pointwise}
use Rattle.text_code.proofs.compare.same.Goals as goal

pub returns : goal.returns
returns c = c.eq.ensures ∙ same_pointwise _ _
