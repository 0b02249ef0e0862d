-- `thermometer::degrees` meets its contract: the test of the table passes at each of its entries.
use Prim.Native.Nat.{ℕ}
use mathlib.Core.Path.{refl, ap, ◌∙◌}
use mathlib.Core.List.{List}
use Rattle.unit.proofs.Says.{says}
use Rattle.thermometer.specs.Degrees.{degrees_over}
use Rattle.thermometer.proofs.Pt1000.{passes, passed-same, passed-usable}
use Rattle.thermometer.proofs.degrees.Goals as goal

pub degrees_over-requires : goal.degrees_over-requires
unfolding passes
degrees_over-requires c = passed-usable _ refl

pub returns : goal.returns
unfolding passes
returns c =
    let at = c.args in
    says (c.degrees_over.ensures ∙ ap (λ (t : List ℕ). degrees_over t at.probe at.reference) (passed-same _ refl))
