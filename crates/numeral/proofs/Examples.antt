-- Times as they are printed. Assumes nothing.
use mathlib.Core.Path.{◌≡◌, refl}
use mathlib.Core.List.{[], ◌∷◌}
use Rattle.numeral.specs.Digit.{digits, glyph}
use Rattle.numeral.specs.Print.{width_from, decimal_width, decimal, ten_thousandths, four_decimals, nanoseconds, signed_nanoseconds}

-- -480.2780
negative : signed_nanoseconds 0xFFFE1432 ≡ 45 ∷ 52 ∷ 56 ∷ 48 ∷ 46 ∷ 50 ∷ 55 ∷ 56 ∷ 48 ∷ []
unfolding signed_nanoseconds nanoseconds four_decimals ten_thousandths decimal decimal_width width_from digits glyph
negative = refl

-- 7003.9177
positive : signed_nanoseconds 0x001C0403 ≡ 55 ∷ 48 ∷ 48 ∷ 51 ∷ 46 ∷ 57 ∷ 49 ∷ 55 ∷ 55 ∷ []
unfolding signed_nanoseconds nanoseconds four_decimals ten_thousandths decimal decimal_width width_from digits glyph
positive = refl

-- -8192000.0000
least : signed_nanoseconds 0x80000000 ≡ 45 ∷ 56 ∷ 49 ∷ 57 ∷ 50 ∷ 48 ∷ 48 ∷ 48 ∷ 46 ∷ 48 ∷ 48 ∷ 48 ∷ 48 ∷ []
unfolding signed_nanoseconds nanoseconds four_decimals ten_thousandths decimal decimal_width width_from digits glyph
least = refl

-- -0.0038
smallest : signed_nanoseconds 0xFFFFFFFF ≡ 45 ∷ 48 ∷ 46 ∷ 48 ∷ 48 ∷ 51 ∷ 56 ∷ []
unfolding signed_nanoseconds nanoseconds four_decimals ten_thousandths decimal decimal_width width_from digits glyph
smallest = refl
