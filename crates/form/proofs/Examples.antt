-- Forms that are filled in, in plain words and numbers. Assumes nothing.
use Prim.Native.Nat.{ℕ}
use Prim.Native.String.{String}
use mathlib.Core.List.{List, [], ◌∷◌}
use mathlib.Core.Path.{◌≡◌, refl}
use Rattle.numeral.specs.Ascii.{ascii}
use Rattle.numeral.specs.Digit.{digits, glyph}
use Rattle.numeral.specs.Place.{joined}
use Rattle.numeral.specs.Print.{width_from, decimal_width, decimal}
use Rattle.wording.specs.Wording.{reported_where}
use Rattle.form.specs.Form.{pair_of, pair_texts, register_texts, plural_texts, piece_texts, takes, form_texts}

abbrev filled : String → List ℕ → List ℕ
filled form values = joined (form_texts [] (ascii form) values)

-- Values are taken in their turn, as many as each piece needs; one that is missing is 0.
decimals : (filled "a |#| of |#|" (2 ∷ 16 ∷ []) ≡ ascii "a 2 of 16") × (filled "#|#|" (7 ∷ []) ≡ ascii "70") × (filled "no bar" (7 ∷ []) ≡ [])
unfolding form_texts piece_texts takes decimal decimal_width width_from digits glyph joined ascii
decimals = (refl, refl, refl)

-- `0 hit`, `1 hit`, `2 hits`
counted : (filled "& hit|" (0 ∷ []) ≡ ascii "0 hit") × (filled "& hit|" (1 ∷ []) ≡ ascii "1 hit") × (filled "& hit|" (2 ∷ []) ≡ ascii "2 hits")
unfolding form_texts piece_texts takes plural_texts decimal decimal_width width_from digits glyph joined ascii
counted = (refl, refl, refl)

words : (filled "$|x|" (0x12AB ∷ []) ≡ ascii "12AB      x") × (filled "%|" (0x12AB ∷ []) ≡ ascii "AB") × (filled "<|" (0x12 ∷ 0x34 ∷ []) ≡ ascii "0012 0034  ")
unfolding form_texts piece_texts takes register_texts pair_of pair_texts digits glyph joined ascii
words = (refl, refl, refl)

-- A register's word that the next piece takes too
twice : filled "@|#|" (0x000A ∷ []) ≡ ascii "000A      10"
unfolding form_texts piece_texts takes register_texts decimal decimal_width width_from digits glyph joined ascii
twice = refl

-- A text where the value is the digit
where-so : (filled "?1on|?0off|" (1 ∷ 1 ∷ []) ≡ ascii "on") × (filled "?1on|?0off|" (0 ∷ 0 ∷ []) ≡ ascii "off")
unfolding form_texts piece_texts takes reported_where joined ascii
where-so = (refl, refl)
