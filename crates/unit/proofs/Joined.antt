-- What joined tests say of their parts.
use mathlib.Core.Path.{◌≡◌, refl, sym}
use mathlib.Core.Bool.{Bool, true, false}
use Rattle.unit.specs.Choice.{pick, either, both, negate}

pub both_true : (a b : Bool) → both a b ≡ true → (a ≡ true) × (b ≡ true)
both_true true b e = (refl, e)
both_true false b e = (e, cc)

pub neither : (a b : Bool) → either a b ≡ false → (a ≡ false) × (b ≡ false)
neither true b e = (e, cc)
neither false b e = (refl, e)

pub negated : (t : Bool) → negate t ≡ true → t ≡ false
negated true e = sym e
negated false e = refl

-- where a chain of tests let a value pass, none of them held
pub passed : (t : Bool) {r : Bool} → pick t false r ≡ true → (t ≡ false) × (r ≡ true)
passed true e = (sym e, cc)
passed false e = (refl, e)

pub held : (t : Bool) {r : Bool} → pick t r false ≡ true → (t ≡ true) × (r ≡ true)
held true e = (refl, e)
held false e = (e, cc)
