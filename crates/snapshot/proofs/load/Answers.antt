-- `snapshot::load` meets its contract.
use Rattle.layout.specs.Layout.{loaded}
use Rattle.layout.proofs.Parts.{formed-length}
use mathlib.Core.Path.{sym, ◌∙◌}
use Rattle.snapshot.proofs.load.Goals as goal

pub restore-requires : goal.restore-requires
restore-requires c = formed-length _ (sym c.is_formed.ensures ∙ c.if-is_formed.true)

pub returns-then-is_formed : goal.returns-then-is_formed
unfolding loaded
returns-then-is_formed c =
    rw (sym c.is_formed.ensures ∙ c.if-is_formed.true) c.restore.ensures

pub returns : goal.returns
unfolding loaded
returns c =
    rw (sym c.is_formed.ensures ∙ c.if-is_formed.false) c.no_model.ensures
