-- `snapshot::fields::double_of` meets its contract.
use Rattle.layout.proofs.Parts.{double-parts}
use borrow.Author.Rules.{rules}
use Rattle.snapshot.proofs.fields.double_of.Goals as goal

pub returns : goal.returns
returns c = double-parts c.args.m (search rules)
