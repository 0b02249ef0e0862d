-- Worked lines, by computation. Assumes nothing.
use Prim.Native.Nat.{◌+◌, ◌^◌}
use mathlib.Core.Path.{◌≡◌, refl}
use mathlib.Core.List.{[], ◌∷◌}
use lib.IntN.{pos, negsuc}
use Rattle.numeral.specs.Digit.{digits, glyph}
use Rattle.numeral.specs.Print.{width_from, decimal_width, decimal, ten_thousandths, four_decimals, nanoseconds}
use Rattle.listing.specs.declared.Width.TheVariants.{Two}
use Rattle.listing.specs.Listing.{capture_digits, usual, sign, right_justified, line, line_length}

-- `03 -    480.2780`, the request's own example
marked : line (capture_digits Two) 3 (negsuc 125901) ≡ 48 ∷ 51 ∷ 32 ∷ 45 ∷ 32 ∷ 32 ∷ 32 ∷ 32 ∷ 52 ∷ 56 ∷ 48 ∷ 46 ∷ 50 ∷ 55 ∷ 56 ∷ 48 ∷ 10 ∷ []
unfolding line sign right_justified nanoseconds four_decimals ten_thousandths decimal decimal_width width_from digits glyph
marked = refl

-- the request's example in the new form, with eight digits
marked-wide : line (capture_digits usual) 3 (negsuc 125901) ≡ 48 ∷ 48 ∷ 48 ∷ 48 ∷ 48 ∷ 48 ∷ 48 ∷ 51 ∷ 32 ∷ 45 ∷ 32 ∷ 32 ∷ 32 ∷ 32 ∷ 52 ∷ 56 ∷ 48 ∷ 46 ∷ 50 ∷ 55 ∷ 56 ∷ 48 ∷ 10 ∷ []
unfolding line sign right_justified nanoseconds four_decimals ten_thousandths decimal decimal_width width_from digits glyph
marked-wide = refl

-- the largest magnitude fills the 12 places
largest : line 2 255 (negsuc 2147483647) ≡ 70 ∷ 70 ∷ 32 ∷ 45 ∷ 56 ∷ 49 ∷ 57 ∷ 50 ∷ 48 ∷ 48 ∷ 48 ∷ 46 ∷ 48 ∷ 48 ∷ 48 ∷ 48 ∷ 10 ∷ []
unfolding line sign right_justified nanoseconds four_decimals ten_thousandths decimal decimal_width width_from digits glyph
largest = refl

-- 1,024 quanta are 3.90625 ns: a half, away from zero
half-above : line 2 160 (pos 1024) ≡ 65 ∷ 48 ∷ 32 ∷ 32 ∷ 32 ∷ 32 ∷ 32 ∷ 32 ∷ 32 ∷ 32 ∷ 51 ∷ 46 ∷ 57 ∷ 48 ∷ 54 ∷ 51 ∷ 10 ∷ []
unfolding line sign right_justified nanoseconds four_decimals ten_thousandths decimal decimal_width width_from digits glyph
half-above = refl

-- and below zero
half-below : line 2 161 (negsuc 1023) ≡ 65 ∷ 49 ∷ 32 ∷ 45 ∷ 32 ∷ 32 ∷ 32 ∷ 32 ∷ 32 ∷ 32 ∷ 51 ∷ 46 ∷ 57 ∷ 48 ∷ 54 ∷ 51 ∷ 10 ∷ []
unfolding line sign right_justified nanoseconds four_decimals ten_thousandths decimal decimal_width width_from digits glyph
half-below = refl

-- a single 0 before the point
nothing : line 2 0 (pos 0) ≡ 48 ∷ 48 ∷ 32 ∷ 32 ∷ 32 ∷ 32 ∷ 32 ∷ 32 ∷ 32 ∷ 32 ∷ 48 ∷ 46 ∷ 48 ∷ 48 ∷ 48 ∷ 48 ∷ 10 ∷ []
unfolding line sign right_justified nanoseconds four_decimals ten_thousandths decimal decimal_width width_from digits glyph
nothing = refl

-- "a line of 16 characters and a line feed", and captures to FF
two_digits : (line_length (capture_digits Two) ≡ 16 + 1) × (16 ^ capture_digits Two ≡ 0xFF + 1)
unfolding line_length
two_digits = (refl, refl)

-- "a line has 22 characters and a line feed", and captures of 32 bits
eight-digits : (line_length (capture_digits usual) ≡ 22 + 1) × (16 ^ capture_digits usual ≡ 2 ^ 32)
unfolding line_length
eight-digits = (refl, refl)

-- the digits are capitals
capitals : digits 16 16 0x0123456789ABCDEF ≡ 48 ∷ 49 ∷ 50 ∷ 51 ∷ 52 ∷ 53 ∷ 54 ∷ 55 ∷ 56 ∷ 57 ∷ 65 ∷ 66 ∷ 67 ∷ 68 ∷ 69 ∷ 70 ∷ []
unfolding digits glyph
capitals = refl
