-- The numbers that a list leaves are those of its words. Assumes nothing.
use Prim.Native.Nat.{ℕ, zero, suc, ◌+◌, ◌≤◌, ◌<◌}
use mathlib.Core.Path.{◌≡◌, refl, sym, ap, ◌∙◌}
use mathlib.Core.Bool.{true, false}
use mathlib.Core.List.{List, [], ◌∷◌, ◌++◌, append-nil, append_assoc}
use native.Mathlib.Nat.{add-zero, zero-add}
use native.Mathlib.Numerals.{add-one}
use native.Mathlib.Omega.{arith}
use lib.ListN.{length, take, drop, set, length-set, drop_of_length-le}
use lib.Seq.{take-suc-set, take-set-le, length-take-le, drop-append-le}
use Rattle.unit.specs.Choice.{both}
use Rattle.unit.proofs.Cases.{by-test}
use Rattle.text.specs.Text.{Text, is}
use Rattle.item_line.specs.Line.{Fault, Expected, Line}
use Rattle.item_line.specs.Reading.{Got, got, wrong, onto, before, each, with, parted, flight_parts}
use Rattle.item_line_code.specs.declared.Form.{Form}
use Rattle.item_line_code.specs.declared.ListWord.{ListWord}
use Rattle.item_line_code.specs.OwnNumbers.{number_in, formed, list_word, Tallied, all, Outcome, tallied}
use Rattle.item_line_code.specs.OwnLists.{prefix, got_of, Counts, flight_of, on_first}
use Rattle.std.specs.Prelude.{Option, Some, None}

-- what a word is, where it is no slash
word-is : (f : Form) (w : Text) → both f.slash (is "/" w) ≡ false → {v : ℕ} → number_in f w ≡ Some v → list_word f w ≡ ListWord.Word v
unfolding list_word
word-is f w apart e = rw (apart, e)

wrong-is : (f : Form) (w : Text) → both f.slash (is "/" w) ≡ false → number_in f w ≡ None → list_word f w ≡ ListWord.Wrong
unfolding list_word
wrong-is f w apart e = rw (apart, e)

formed-value : (f : Form) (w : Text) {v : ℕ} → number_in f w ≡ Some v → formed f w ≡ got v
unfolding formed
formed-value f w e = rw e

formed-wrong : (f : Form) (w : Text) → number_in f w ≡ None → formed f w ≡ wrong w
unfolding formed
formed-wrong f w e = rw e

pub by_number : {G : Type 0} (n : Option ℕ) → ((v : ℕ) → n ≡ Some v → G) → (n ≡ None → G) → G
by_number (Some v) f g = f v refl
by_number None f g = g refl

prefix-onto : (ns : List ℕ) (v : ℕ) (g : Got (List ℕ)) → prefix (ns ++ (v ∷ [])) g ≡ prefix ns (onto v g)
prefix-onto ns v (got ms) = ap got (append_assoc ns (v ∷ []) ms)
prefix-onto ns v (wrong w) = refl

prefix-none : (g : Got (List ℕ)) → prefix [] g ≡ g
prefix-none (got ms) = refl
prefix-none (wrong w) = refl

-- A list that no slash parts, after n numbers, with room for all.
module _ (f : Form) (plain : f.slash ≡ false) where
  no_slash : (w : Text) → both f.slash (is "/" w) ≡ false
  no_slash w = rw plain

  listed : (ws : List Text) (n k u : ℕ) (l : List ℕ) → n + length ws ≤ length l
      → got_of (tallied f n k u l ws).tally (tallied f n k u l ws).numbers ≡ prefix (take n l) (each (formed f) ws)
  unfolding tallied each
  listed [] n k u l room = ap got (sym (append-nil (take n l)))
  listed (w ∷ ws) n k u l room =
      by_number (number_in f w)
      (λ v e. rw (word-is f w (no_slash w) e, formed-value f w e)
      (listed ws (n + 1) k u (set l n v) (rw length-set (omega arith)) ∙ rw (add-one, take-suc-set l n v (omega arith)) (prefix-onto (take n l) v (each (formed f) ws))))
      (λ e. rw (wrong-is f w (no_slash w) e, formed-wrong f w e))

  counts : (ws : List Text) (n k u : ℕ) (l : List ℕ) → Counts (n + length ws) (tallied f n k u l ws).tally
  unfolding tallied
  counts [] n k u l = rw add-zero
  counts (w ∷ ws) n k u l =
      by_number (number_in f w)
      (λ v e. let long : n + 1 + length ws ≡ n + suc (length ws) = omega arith in rw (word-is f w (no_slash w) e, ← long) (counts ws (n + 1) k u (set l n v)))
      (λ e. rw (wrong-is f w (no_slash w) e) tt)

  -- The numbers of all words, and how many they are.
  module _ (ws : List Text) (l : List ℕ) {l' : List ℕ} (room : length ws ≤ length l) {t : Tallied}
      (e : ◌≡◌ {A = Outcome} (record { tally = t; numbers = l' }) (tallied f 0 0 0 l ws)) where
    pub list-got : got_of t l' ≡ each (formed f) ws
    list-got = ap (λ (o : Outcome). got_of o.tally o.numbers) e ∙ listed ws 0 0 0 l (omega arith) ∙ prefix-none (each (formed f) ws)

    pub list_counts : Counts (length ws) t
    list_counts = rw (ap (λ (o : Outcome). o.tally) e) (rw zero-add at (counts ws 0 0 0 l))

-- Lists that slashes part: the rest of them, after none, one or more.
module _ (f : Form) (parts : f.slash ≡ true) (x : Expected) where
  slash-is : (w : Text) → is "/" w ≡ true → list_word f w ≡ ListWord.Slash
  unfolding list_word
  slash-is w e = rw (parts, e)

  no-slash-in : (w : Text) → is "/" w ≡ false → both f.slash (is "/" w) ≡ false
  no-slash-in w e = rw (parts, e)

  abbrev flight-from : ℕ → ℕ → ℕ → List ℕ → List Text → Line
  flight-from n k u l ws = flight_of x (tallied f n k u l ws).tally (tallied f n k u l ws).numbers

  abbrev lists : List Text → Got (List (List ℕ))
  lists ws = each (each (formed f)) (parted ws)

  -- a word more before the lists
  one_more : (h : List (List ℕ) → Line) (a : List ℕ) (v : ℕ) (first : Got (List ℕ)) (others : Got (List (List ℕ)))
      → with (before first others) (λ ps. h (on_first (a ++ (v ∷ [])) ps)) ≡ with (before (onto v first) others) (λ ps. h (on_first a ps))
  one_more h a v (got ns) (got others) = ap (λ (ms : List ℕ). h (ms ∷ others)) (append_assoc a (v ∷ []) ns)
  one_more h a v (got ns) (wrong w) = refl
  one_more h a v (wrong w) others = refl

  some-part : (ws : List Text) → (p : List Text) × (ps : List (List Text)) × (parted ws ≡ p ∷ ps)
  unfolding parted
  some-part [] = ([], [], refl)
  some-part (w ∷ ws) =
      let (p, ps, e) = some-part ws in
      by-test (is "/" w) (λ t. rw t ([], parted ws, refl)) (λ t. rw (t, e) (w ∷ p, ps, refl))

  word_more : (h : List (List ℕ) → Line) (a : List ℕ) (v : ℕ) (w : Text) (ws : List Text) → is "/" w ≡ false → formed f w ≡ got v
      → with (lists ws) (λ ps. h (on_first (a ++ (v ∷ [])) ps)) ≡ with (lists (w ∷ ws)) (λ ps. h (on_first a ps))
  unfolding parted each
  word_more h a v w ws t e =
      let (p, ps, q) = some-part ws in
      rw (t, q, e) (one_more h a v (each (formed f) p) (each (each (formed f)) ps))

  word-wrong : (w : Text) (ws : List Text) → is "/" w ≡ false → formed f w ≡ wrong w → lists (w ∷ ws) ≡ wrong w
  unfolding parted each
  word-wrong w ws t e = let (p, ps, q) = some-part ws in rw (t, q, e)

  slash-more : (w : Text) (ws : List Text) → is "/" w ≡ true → lists (w ∷ ws) ≡ onto [] (lists ws)
  unfolding parted each
  slash-more w ws t = rw t

  onto-none : (z : Line) (g : Got (List (List ℕ))) → with g (λ ps. z) ≡ with (onto [] g) (λ ps. z)
  onto-none z (got ps) = refl
  onto-none z (wrong w) = refl

  many : (n k u : ℕ) (l : List ℕ) → 2 ≤ k → flight_of x (all n k u) l ≡ Line.bad Fault.wrong_count
  many n zero u l h = absurd (omega arith)
  many n (suc zero) u l h = absurd (omega arith)
  many n (suc (suc k)) u l h = refl

  after_two : (ws : List Text) (n k u : ℕ) (l : List ℕ) → 2 ≤ k → flight-from n k u l ws ≡ with (lists ws) (λ ps. Line.bad Fault.wrong_count)
  unfolding tallied parted each
  after_two [] n k u l h = many n k u l h
  after_two (w ∷ ws) n k u l h =
      by-test (is "/" w)
      (λ t. rw (slash-is w t, slash-more w ws t) (after_two ws n (k + 1) _ l (omega arith) ∙ onto-none (Line.bad Fault.wrong_count) (lists ws)))
      (λ t. by_number (number_in f w)
      (λ v e. rw (word-is f w (no-slash-in w t) e)
      (after_two ws (n + 1) k u (set l n v) h ∙ word_more (λ ps. Line.bad Fault.wrong_count) [] v w ws t (formed-value f w e)))
      (λ e. rw (wrong-is f w (no-slash-in w t) e, word-wrong w ws t (formed-wrong f w e))))

  slash-second : (a b : List ℕ) (g : Got (List ℕ)) (others : Got (List (List ℕ)))
      → with (before g others) (λ ps. Line.bad Fault.wrong_count) ≡ with (onto [] (before g others)) (λ ps. flight_parts x (a ∷ on_first b ps))
  unfolding flight_parts
  slash-second a b (got ns) (got others) = refl
  slash-second a b (got ns) (wrong w) = refl
  slash-second a b (wrong w) others = refl

  second-slash : (a b : List ℕ) (ws : List Text)
      → with (lists ws) (λ ps. Line.bad Fault.wrong_count) ≡ with (onto [] (lists ws)) (λ ps. flight_parts x (a ∷ on_first b ps))
  unfolding each
  second-slash a b ws =
      let (p, ps, q) = some-part ws in
      rw q (slash-second a b (each (formed f) p) (each (each (formed f)) ps))

  drop_more : (u n v : ℕ) (l : List ℕ) → u ≤ n → n < length l → drop u (take (n + 1) (set l n v)) ≡ drop u (take n l) ++ (v ∷ [])
  drop_more u n v l h room =
      let long : u ≤ length (take n l) = rw (length-take-le n l (omega arith)) h in
      rw (add-one, take-suc-set l n v room) (drop-append-le u (take n l) (v ∷ []) long)

  after_one : (ws : List Text) (n u : ℕ) (l : List ℕ) → u ≤ n → n + length ws ≤ length l
      → flight-from n 1 u l ws ≡ with (lists ws) (λ ps. flight_parts x (take u l ∷ on_first (drop u (take n l)) ps))
  unfolding tallied parted each
  after_one [] n u l h room = ap (λ (b : List ℕ). flight_parts x (take u l ∷ b ∷ [])) (sym (append-nil (drop u (take n l))))
  after_one (w ∷ ws) n u l h room =
      by-test (is "/" w)
      (λ t. rw (slash-is w t, slash-more w ws t) (after_two ws n 2 u l (omega arith) ∙ second-slash (take u l) (drop u (take n l)) ws))
      (λ t. by_number (number_in f w)
      (λ v e. rw (word-is f w (no-slash-in w t) e)
      (after_one ws (n + 1) u (set l n v) (omega arith) (rw length-set (omega arith))
      ∙ rw (drop_more u n v l h (omega arith), take-set-le u l n v h) (word_more (λ ps. flight_parts x (take u l ∷ ps)) (drop u (take n l)) v w ws t (formed-value f w e))))
      (λ e. rw (wrong-is f w (no-slash-in w t) e, word-wrong w ws t (formed-wrong f w e))))

  first-slash : (a : List ℕ) (g : Got (List (List ℕ)))
      → with g (λ ps. flight_parts x (a ∷ on_first [] ps)) ≡ with (onto [] g) (λ ps. flight_parts x (on_first a ps))
  first-slash a (got []) = rw (append-nil a)
  first-slash a (got (p ∷ ps)) = rw (append-nil a)
  first-slash a (wrong w) = refl

  after_none : (ws : List Text) (n u : ℕ) (l : List ℕ) → n + length ws ≤ length l
      → flight-from n 0 u l ws ≡ with (lists ws) (λ ps. flight_parts x (on_first (take n l) ps))
  unfolding tallied parted each flight_parts
  after_none [] n u l room = refl
  after_none (w ∷ ws) n u l room =
      let none : drop n (take n l) ≡ [] = drop_of_length-le (take n l) {i = n} (rw (length-take-le n l (omega arith)) (omega arith)) in
      by-test (is "/" w)
      (λ t. rw (slash-is w t, slash-more w ws t)
      (after_one ws n n l (omega arith) (omega arith) ∙ rw none (first-slash (take n l) (lists ws))))
      (λ t. by_number (number_in f w)
      (λ v e. rw (word-is f w (no-slash-in w t) e)
      (after_none ws (n + 1) u (set l n v) (rw length-set (omega arith))
      ∙ rw (add-one, take-suc-set l n v (omega arith)) (word_more (flight_parts x) (take n l) v w ws t (formed-value f w e))))
      (λ e. rw (wrong-is f w (no-slash-in w t) e, word-wrong w ws t (formed-wrong f w e))))

  first-none : (g : Got (List (List ℕ))) → with g (λ ps. flight_parts x (on_first [] ps)) ≡ with g (flight_parts x)
  first-none (got []) = refl
  first-none (got (p ∷ ps)) = refl
  first-none (wrong w) = refl

  -- The line of two lists.
  pub list-flight : (ws : List Text) (l : List ℕ) {l' : List ℕ} → length ws ≤ length l → {t : Tallied}
      → ◌≡◌ {A = Outcome} (record { tally = t; numbers = l' }) (tallied f 0 0 0 l ws) → flight_of x t l' ≡ with (each (each (formed f)) (parted ws)) (flight_parts x)
  list-flight ws l room e =
      ap (λ (o : Outcome). flight_of x o.tally o.numbers) e ∙ after_none ws 0 0 l (omega arith) ∙ first-none (lists ws)
