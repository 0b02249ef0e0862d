-- The numbers that a list leaves in a buffer are those of its words, each in its place. Assumes nothing.
use Prim.Native.Nat.{ℕ, zero, suc, ◌+◌, ◌≤◌, ◌<◌}
use mathlib.Core.Path.{◌≡◌, refl, sym, ap, ◌∙◌}
use mathlib.Core.Bool.{false}
use mathlib.Core.List.{List, [], ◌∷◌}
use native.Mathlib.Nat.{add-zero}
use native.Mathlib.Omega.{arith}
use lib.ListN.{length, get_or, set, length-set}
use lib.Seq.{get_or-set_same, get_or-set_other}
use borrow.Author.Tests.{lt-leb}
use Rattle.numeral.specs.Read.{read_hex}
use Rattle.line.specs.declared.Form.{Form}
use Rattle.line.specs.declared.Tally.TheVariants.{All}
use Rattle.line.specs.Numbers.{is_slash, list_word, of_number, tallied, Outcome, Stored}
use Rattle.line.proofs.NumberLaws.{tally-end, tally-word, tally-wrong}
use Rattle.std.specs.Prelude.{Option, Some, None}

number_read : (f : Form) (n : ℕ) (w : List ℕ) → f.slash ≡ false → n < f.looked → list_word f n w ≡ of_number (read_hex f.least f.most w)
unfolding list_word is_slash
number_read f n w e h = rw (e, lt-leb f.looked n h)

-- In a list that no slash parts, with each word looked into and room for all.
pub stored : (f : Form) → f.slash ≡ false → (ws : List (List ℕ)) (n k u : ℕ) (l : List ℕ) → n + length ws ≤ f.looked → n + length ws ≤ length l
    → (o : Outcome) → tallied f n k u l ws ≡ o → (c k' u' : ℕ) → o.tally ≡ All c k' u' → Stored f n l ws c o.numbers
stored f plain [] n k u l seen room o e c k' u' all =
    let end = tally-end f n k u l refl ∙ e in
    let count : n ≡ c = cc in
    record { count = omega arith; value = λ i h. absurd (omega arith); before = λ i h. ap (λ (x : Outcome). get_or x.numbers i 0) (sym end) }
stored f plain (w ∷ ws) n k u l seen room o e c k' u' all =
    go (read_hex f.least f.most w) refl (stored f plain ws (n + 1) k u)
  where
    go : (r : Option ℕ) → read_hex f.least f.most w ≡ r
        → ((l'' : List ℕ) → n + 1 + length ws ≤ f.looked → n + 1 + length ws ≤ length l'' → (o' : Outcome) → tallied f (n + 1) k u l'' ws ≡ o'
        → (c' a b : ℕ) → o'.tally ≡ All c' a b → Stored f (n + 1) l'' ws c' o'.numbers)
        → Stored f n l (w ∷ ws) c o.numbers
    go None p rest =
        let word = number_read f n w plain (omega arith) ∙ ap of_number p in
        let wrong = ap (λ (x : Outcome). x.tally) (tally-wrong f n k u l refl word ∙ e) in
        let z : ◌≡◌ {A = ℕ} 0 1 = cc in
        absurd (omega arith)
    go (Some v) p rest =
        let word = number_read f n w plain (omega arith) ∙ ap of_number p in
        let s = rest (set l n v) (omega arith) (rw length-set (omega arith)) o (tally-word f n k u l refl word ∙ e) c k' u' all in
        let here : get_or o.numbers n 0 ≡ v = s.before n (omega arith) ∙ get_or-set_same l n v 0 (omega arith) in
        record {
          count = omega (arith, s.count);
          value = elim [ zero ↦ λ h. rw (add-zero, here) p | suc i ↦ λ h. let there : n + suc i ≡ n + 1 + i = omega arith in rw there (s.value i (omega arith)) ];
          before = λ i h. s.before i (omega arith) ∙ get_or-set_other l n i v 0 (λ q. omega arith);
        }
