-- `listing::write_listing_as` meets its contract.
-- Assumes nothing.
use Prim.Native.Nat.{ℕ}
use mathlib.Core.Path.{ap, ◌∙◌}
use Rattle.unit.proofs.Says.{says}
use Rattle.listing.specs.Listing.{listing}
use Rattle.listing.proofs.write_listing_as.Goals as goal

pub returns : goal.returns
returns c = says (c.write_digits.ensures ∙ ap (λ (d : ℕ). listing d c.args.differences.now c.args.first c.args.out.now) c.capture_digits.ensures.0)
