-- A listing of differences, as it is printed. What stands in quotation marks is the request's.
use Rattle.std.specs.Prelude.{ℕ, zero, suc, ◌+◌, ◌-◌, ◌*◌, ◌^◌, Bool, false, List, [], ◌∷◌, ◌++◌, ltb, leb, ℤ, pos, nat_abs, length, drop, replicate, Result, Ok, Err}
use Rattle.std.specs.Int.Signed.{lt_z}
use Rattle.unit.specs.Choice.{pick}
use Rattle.numeral.specs.Digit.{digits}
use Rattle.numeral.specs.Print.{nanoseconds}
use Rattle.listing.specs.declared.Width.{Width}
use Rattle.listing.specs.declared.Width.TheVariants.{Two, Eight}
use Rattle.refusal.specs.declared.Refusal.{Refusal}
use Rattle.refusal.specs.Number.{number_told, value_told}

-- "The width of the number is said by one definition that serves the old page and the new": the hexadecimal digits of a capture number
abbrev pub capture_digits : Width → ℕ
capture_digits Two = 2
capture_digits Eight = 8

-- "the new form unless the old is named"
abbrev pub usual : Width
usual = Eight

-- "a minus or a blank"
unfoldable pub sign : ℤ → ℕ
sign difference = pick (lt_z difference (pos 0)) 45 32

-- "right-justified": blanks, then the text
unfoldable pub right_justified : ℕ → List ℕ → List ℕ
right_justified places text = replicate (places - length text) 32 ++ text

-- "a capture number .., a blank, a minus or a blank, then nanoseconds right-justified in 12 places with four decimals", and a line
-- feed; the number has d digits
unfoldable pub line : ℕ → ℕ → ℤ → List ℕ
line d capture difference =
    digits 16 d capture ++ (32 ∷ sign difference ∷ right_justified 12 (nanoseconds (nat_abs difference)) ++ (10 ∷ []))

-- "a line of 16 characters and a line feed" where d is 2, and "22 characters and a line feed" where it is 8
unfoldable pub line_length : ℕ → ℕ
line_length d = d + 15

-- "a list of differences whose captures count up from a given first"
unfoldable pub lines : ℕ → ℕ → List ℤ → List ℕ
lines d first [] = []
lines d first (x ∷ xs) = line d first x ++ lines d (first + 1) xs

-- "when the last capture is above FF", and so above the largest number of d digits; no captures have no last one
unfoldable pub last_above : ℕ → ℕ → ℕ → Bool
last_above d first zero = false
last_above d first (suc n) = leb (16 ^ d) (first + n)

-- what a call answers, and the output when it is done
pub record Outcome : Type 0 where
  pub answer : Result ℕ Refusal
  pub bytes : List ℕ

-- "nothing is written then"
abbrev pub refused : Refusal → List ℕ → Outcome
refused refusal out = record { answer = Err refusal; bytes = out }

-- "Places past the last line keep their values"
abbrev pub written : List ℕ → List ℕ → Outcome
written text out = record { answer = Ok (length text); bytes = text ++ drop (length text) out }

-- "Turned away: number 20 when the last capture is above FF, then number 21 when the output is shorter than 17 bytes a line";
-- "Numbers 20 and 21 follow the chosen width"
unfoldable pub listing : ℕ → List ℤ → ℕ → List ℕ → Outcome
listing d differences first out =
    pick (last_above d first (length differences)) (refused Refusal.LastCapture out)
    (pick (ltb (length out) (length differences * line_length d)) (refused Refusal.ShortListing out)
    (written (lines d first differences) out))

-- What a call's answer says: the number of a refusal; how many bytes were written.
abbrev pub number_out : Outcome → List ℕ
number_out o = number_told o.answer

abbrev pub value_out : Outcome → List ℕ
value_out o = value_told o.answer
