-- A text that is put into a buffer at a place. Assumes nothing.
use Rattle.std.specs.Prelude.{ℕ, ◌+◌, ◌≤◌, List, ◌≡◌, length}
use Rattle.numeral.specs.Place.{overwrite}
use Rattle.text.specs.Text.{Text}

-- To put a text into l from the place `at` on leaves l' and answers the place r: where the text has room it stands there, every other place is as
-- it was, and r is the place after the text.
pub record Puts (l : List ℕ) (at : ℕ) (text : Text) (r : ℕ) (l' : List ℕ) : Type 0 where
  pub next : at + length text ≤ length l → r ≡ at + length text
  pub bytes : at + length text ≤ length l → l' ≡ overwrite l at text
