-- `flash_access::done` meets its contract.
use mathlib.Core.Path.{ap, sym, ◌∙◌}
use mathlib.Core.Bool.{false}
use Rattle.device.specs.Parts.{accept}
use Rattle.flash_access.proofs.Numbered.{changed-is, kept-is}
use Rattle.flash_access.proofs.done.Goals as goal

pub returns-then-changes : goal.returns-then-changes
returns-then-changes c =
    let k = c.changed.ensures in
    c.accept.ensures ∙ ap (accept false false) (changed-is _ _ _ (sym c.changes.ensures ∙ c.if-changes.true) k.0 k.1)

pub returns : goal.returns
returns c = c.accept-2.ensures ∙ ap (accept false false) (kept-is _ _ (sym c.changes.ensures ∙ c.if-changes.false))
