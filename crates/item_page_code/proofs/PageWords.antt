-- The words of the page are filled in one by one. Assumes nothing.
use Prim.Native.Nat.{ℕ, zero, suc, ◌+◌, ◌<◌}
use mathlib.Core.List.{List}
use mathlib.Core.Path.{◌≡◌, refl, sym, ap, ◌∙◌}
use native.Mathlib.Nat.{add-zero}
use native.Mathlib.Omega.{arith}
use lib.ListN.{length, get_or, set}
use lib.Seq.{get_or-set_same, get_or-set_other, ext_get_or}
use Rattle.unit.proofs.Cases.{by_eqb}
use Rattle.device.specs.declared.Model.{Model}
use Rattle.device.specs.Registers.{register_word}
use Rattle.text.specs.Text.{ended_each}
use Rattle.text.specs.OwnPut.{Puts}
use Rattle.item_page.specs.Row.{pair_word}
use Rattle.item_page.specs.Registers.{clock_rows, setup_rows, flight_rows, temperature_rows, register_rows}
use Rattle.item_page_form.specs.OwnForm.{pair_of}
use Rattle.item_page_code.specs.OwnWords.{words_from, page_words, rows_by}

word-at : (m : Model) (n a k : ℕ) → k < n → get_or (words_from m a n) k 0 ≡ register_word m (a + k)
unfolding words_from
word-at m zero a k h = absurd (omega arith)
word-at m (suc n) a zero h = rw add-zero
word-at m (suc n) a (suc k) h = word-at m n (a + 1) k (omega arith) ∙ ap (λ (x : ℕ). register_word m x) (omega arith)

length-words : (m : Model) (n a : ℕ) → length (words_from m a n) ≡ n
unfolding words_from
length-words m zero a = refl
length-words m (suc n) a = ap suc (length-words m n (a + 1))

pub words-on : (m : Model) (ws : List ℕ) (i v : ℕ) → i < length ws → v ≡ register_word m (176 + i)
    → ((k : ℕ) → k < i → get_or ws k 0 ≡ register_word m (176 + k)) → (k : ℕ) → k < i + 1 → get_or (set ws i v) k 0 ≡ register_word m (176 + k)
words-on m ws i v h e before k l =
    by_eqb k i (λ s t. rw (s, get_or-set_same ws i v 0 h) e) (λ s t. get_or-set_other ws i k v 0 s ∙ before k (omega arith))

pub words-end : (m : Model) (ws : List ℕ) → length ws ≡ 80 → ((k : ℕ) → k < 80 → get_or ws k 0 ≡ register_word m (176 + k)) → ws ≡ page_words m
unfolding page_words
words-end m ws n each =
    ext_get_or 0 ws (words_from m 176 80) (n ∙ sym (length-words m 80 176))
    (λ k h. each k (omega arith) ∙ sym (word-at m 80 176 k (omega arith)))

pub page-length : (m : Model) (ws : List ℕ) → ws ≡ page_words m → length ws ≡ 80
unfolding page_words
page-length m ws e = rw e (length-words m 80 176)

-- The rows by these words are those of the page.
rows_same : (m : Model) → rows_by (page_words m) m.regulator ≡ register_rows m
unfolding rows_by page_words words_from pair_of pair_word register_rows clock_rows setup_rows flight_rows temperature_rows
rows_same m = refl

pub put-page-rows : (m : Model) (ws : List ℕ) {l l' : List ℕ} {at r : ℕ} → ws ≡ page_words m
    → Puts l at (ended_each (rows_by ws m.regulator)) r l'
    → Puts l at (ended_each (register_rows m)) r l'
put-page-rows m ws e p = rw (← (rows_same m)) (rw e at p)
