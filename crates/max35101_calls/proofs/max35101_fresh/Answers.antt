-- `max35101_calls::max35101_fresh` meets its contract.
use mathlib.Core.Path.{refl, ap, ◌∙◌}
use borrow.Author.Tests.{eq-eqb, ne_eqb}
use Rattle.layout.specs.Layout.{stored}
use Rattle.max35101_calls.specs.Fresh.{fresh_code, fresh_bytes}
use borrow.Author.Rules.{rules}
use Rattle.max35101_calls.proofs.max35101_fresh.Goals as goal

pub returns-then-model-eq233 : goal.returns-then-model-eq233
unfolding fresh_code fresh_bytes
returns-then-model-eq233 c =
    rw (eq-eqb _ _ c.if-model-eq233.true) (refl, c.store.ensures.0 ∙ ap stored c.fresh.ensures)

pub returns : goal.returns
unfolding fresh_code fresh_bytes
returns c = rw (ne_eqb _ _ c.if-model-eq233.false) (refl, refl)
