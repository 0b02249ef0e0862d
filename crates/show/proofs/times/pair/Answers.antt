-- `show::times::pair` meets its contract.
-- Assumes nothing.
use mathlib.Core.Path.{◌∙◌}
use Rattle.form.specs.Form.{pair_of}
use borrow.Author.Rules.{rules}
use Rattle.show.proofs.times.pair.Goals as goal

pub returns : goal.returns
returns c = c.pair_of.ensures ∙ rw (c.value.ensures, c.value-2.ensures)
