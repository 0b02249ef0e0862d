-- `snapshot::fields::quadruple_of` meets its contract.
use Rattle.layout.proofs.Parts.{quadruple-parts}
use Rattle.layout.specs.Layout.{clock_words, waits}
use borrow.Author.Rules.{rules}
use Rattle.snapshot.proofs.fields.quadruple_of.Goals as goal

pub returns : goal.returns
unfolding clock_words waits
returns c = (
  quadruple-parts _ _ _ (search (rules, c.well_formed.1.0)) (search (rules, c.well_formed.1.0)) (search (rules, c.well_formed.1.1.0)),
  search (rules, c.well_formed.1.0),
  search (rules, c.well_formed.1.0),
  search (rules, c.well_formed.1.1.0),
)
