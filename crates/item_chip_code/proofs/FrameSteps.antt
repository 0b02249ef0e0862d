-- The bytes of frames. Assumes nothing.
use Prim.Native.Nat.{ℕ, suc, ◌+◌, ◌-◌, ◌*◌, ◌/◌, ◌≤◌, ◌<◌}
use mathlib.Core.List.{List, [], ◌∷◌}
use mathlib.Core.Path.{◌≡◌, refl}
use native.Mathlib.Numerals.{add-one}
use native.Mathlib.Omega.{arith}
use lib.Dec.{leb, eqb}
use lib.ListN.{length, get_or, take, drop, drop_of_length-le, length-take, length-drop}
use lib.Seq.{drop-cons}
use Rattle.unit.specs.Choice.{pick}
use Rattle.numeral.specs.Place.{Put}
use Rattle.numeral.specs.Print.{low_bytes}
use Rattle.text.specs.OwnPut.{Puts}
use Rattle.text.proofs.Putting.{puts_first, puts_none}
use Rattle.item_answer.specs.Answer.{frame_size}
use Rattle.item_chip_code.specs.OwnFrame.{low_word_bytes}

-- Whatever is put after the words that are left, all words stand before it.
abbrev pub Left : List ℕ → ℕ → List ℕ → List ℕ → ℕ → List ℕ → Type 0
Left l at ws k place rest = (l' : List ℕ) (r : ℕ) → Puts k place (low_word_bytes rest) r l' → Puts l at (low_word_bytes ws) r l'

-- A word more is put.
pub words-on : (all ws : List ℕ) (i : ℕ) → i < length ws → {l k k' : List ℕ} {at place place' : ℕ}
    → Put k place (low_bytes (get_or ws i 0 / 256 ∷ get_or ws i 0 ∷ [])) place' k' → Left l at all k place (drop i ws)
    → Left l at all k' place' (drop (i + 1) ws)
unfolding low_word_bytes low_bytes
words-on all ws i less {l} {k} {k'} {at} {place} {place'} put left l' r p =
    let rest : Puts k' place' (low_word_bytes (drop (suc i) ws)) r l' = rw (← add-one i) p in
    left l' r (rw (drop-cons ws i 0 less) (puts_first put rest))

-- All were put.
pub words-end : (all ws : List ℕ) (i : ℕ) → length ws ≤ i → {l k : List ℕ} {at place : ℕ} → Left l at all k place (drop i ws)
    → Puts l at (low_word_bytes all) place k
unfolding low_word_bytes
words-end all ws i none {l} {k} {at} {place} left = left k place (rw (drop_of_length-le ws none) (puts_none k place))

-- The output buffer of a frame, by its first byte.
pub frame-size : (frame : List ℕ) → ¬ (length frame ≡ 0)
    → frame_size frame ≡ pick (leb 0xB0 (get_or frame 0 0)) (2 * ((length frame - 1) / 2)) (pick (eqb (get_or frame 0 0) 0x90) 2 0)
unfolding frame_size
frame-size [] some = absurd (some refl)
frame-size (op ∷ further) some = let behind : suc (length further) - 1 ≡ length further = omega arith in rw behind

pub no-frame : (frame : List ℕ) → length frame ≡ 0 → frame_size frame ≡ 0
unfolding frame_size
no-frame [] none = refl
no-frame (op ∷ further) none = absurd (omega (arith, none))

pub behind : (frame : List ℕ) → length (take (length frame - 1) (drop 1 frame)) ≡ length frame - 1
behind frame = rw (length-take, length-drop) (omega arith)
