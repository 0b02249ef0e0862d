-- The turns of loops that put the texts of a list one after the other. Assumes nothing.
use Prim.Native.Nat.{ℕ, suc, ◌+◌, ◌-◌, ◌*◌, ◌≤◌, ◌<◌}
use mathlib.Core.List.{List, [], ◌∷◌, ◌++◌, map, append-nil}
use mathlib.Core.Path.{◌≡◌, sym}
use native.Mathlib.Numerals.{add-one}
use native.Mathlib.Omega.{arith}
use lib.ListN.{length, get_or, take, drop, drop_of_length-le}
use lib.Seq.{drop-cons}
use borrow.Author.Tests.{le-ltb}
use Rattle.numeral.specs.Ascii.{ascii}
use Rattle.numeral.specs.Digit.{digits}
use Rattle.device.specs.declared.Model.{Model}
use Rattle.device.specs.Registers.{register_word}
use Rattle.text.specs.Text.{Text, text_where, ended, ended_each, spaced_each}
use Rattle.text.specs.OwnPut.{Puts}
use Rattle.text.proofs.Putting.{puts_none, puts_then}
use Rattle.item_page.specs.Row.{word}
use Rattle.item_answer.specs.Words.{registers, register_line, register_lines, shown_byte, shown}

-- To put the rest of a text leaves the whole of it.
abbrev pub Leads : List ℕ → ℕ → Text → List ℕ → ℕ → Text → Type 0
Leads l at rest l₀ at₀ whole = (r : ℕ) (l' : List ℕ) → Puts l at rest r l' → Puts l₀ at₀ whole r l'

-- A part more is put.
pub leads-on : {l k l₀ : List ℕ} {at q at₀ : ℕ} {part rest after whole : Text} → rest ≡ part ++ after → Puts l at part q k
    → Leads l at rest l₀ at₀ whole → Leads k q after l₀ at₀ whole
leads-on e p lead = λ r l' s. lead r l' (rw e (puts_then p s))

-- Nothing is left.
pub leads-end : {l l₀ : List ℕ} {at at₀ : ℕ} {rest whole : Text} → rest ≡ [] → Leads l at rest l₀ at₀ whole → Puts l₀ at₀ whole at l
leads-end {l} {l₀} {at} e lead = lead at l (rw e (puts_none l at))

-- The words of registers.
module _ (m : Model) (a end : ℕ) where
  pub words-on : a < end
      → spaced_each (map word (registers m a (end - a)))
      ≡ ascii " " ++ word (register_word m a) ++ spaced_each (map word (registers m (a + 1) (end - (a + 1))))
  unfolding registers spaced_each
  words-on less = let e : end - a ≡ suc (end - (a + 1)) = omega arith in rw e

  pub words-end : end ≤ a → spaced_each (map word (registers m a (end - a))) ≡ []
  unfolding registers spaced_each
  words-end all = let e : end - a ≡ 0 = omega arith in rw e

-- Lines of registers.
module _ (m : Model) (a n i : ℕ) where
  pub lines-on : i < n
      → ended_each (register_lines m (a + 8 * i) (n - i))
      ≡ register_line m (a + 8 * i) ++ (10 ∷ []) ++ ended_each (register_lines m (a + 8 * (i + 1)) (n - (i + 1)))
  unfolding register_lines ended_each ended
  lines-on less =
      let e : n - i ≡ suc (n - (i + 1)) = omega arith in
      let next : a + 8 * i + 8 ≡ a + 8 * (i + 1) = omega arith in
      rw (e, next)

  pub lines_end : n ≤ i → ended_each (register_lines m (a + 8 * i) (n - i)) ≡ []
  unfolding register_lines ended_each
  lines_end all = let e : n - i ≡ 0 = omega arith in rw e

-- The bytes of a frame, and those of a word that is shown.
module _ (bs : List ℕ) (i : ℕ) where
  pub bytes_on : i < length bs
      → spaced_each (map (digits 16 2) (drop i bs))
      ≡ ascii " " ++ digits 16 2 (get_or bs i 0) ++ spaced_each (map (digits 16 2) (drop (i + 1) bs))
  unfolding spaced_each
  bytes_on less = rw (drop-cons bs i 0 less, add-one i)

  pub bytes-end : length bs ≤ i → spaced_each (map (digits 16 2) (drop i bs)) ≡ []
  unfolding spaced_each
  bytes-end all = rw (drop_of_length-le bs all)

  pub shown-on : i < length bs → map shown_byte (drop i bs) ≡ shown_byte (get_or bs i 0) ∷ [] ++ map shown_byte (drop (i + 1) bs)
  shown-on less = rw (drop-cons bs i 0 less, add-one i)

  pub shown-end : length bs ≤ i → map shown_byte (drop i bs) ≡ []
  shown-end all = rw (drop_of_length-le bs all)

-- A word of at most 32 bytes is shown whole.
pub shown-short : (w : Text) → length w ≤ 32 → map shown_byte (take 32 w) ≡ shown w
unfolding shown text_where
shown-short w h = rw (le-ltb 32 (length w) h) (sym (append-nil (map shown_byte (take 32 w))))
