-- Where a line ends. Assumes nothing.
use Prim.Native.Nat.{ℕ, suc, ◌+◌, ◌-◌, ◌≤◌, ◌<◌}
use mathlib.Core.Bool.{Bool, true, false, cond, false≢true}
use mathlib.Core.List.{List, [], ◌∷◌}
use mathlib.Core.Path.{◌≡◌, refl, sym, ap, ◌∙◌}
use native.Mathlib.Decide.{dec_lt}
use native.Mathlib.Nat.{zero-add}
use native.Mathlib.Numerals.{add-one}
use native.Mathlib.Omega.{arith}
use lib.Dec.{eqb, ltb}
use lib.ListN.{length, get_or, take, drop, length-drop, drop_of_length-le}
use lib.Seq.{drop-cons, drop-drop}
use borrow.Author.Tests.{eq-eqb, ne_eqb, lt-ltb, le-ltb}
use Rattle.line_buffer.specs.Lines.{has_line, line_of, behind_line, line_end}

-- A byte that is no line feed.
pub end_later : (bytes : List ℕ) (i : ℕ) → i < length bytes → ¬ (get_or bytes i 0 ≡ 10) → line_end i bytes ≡ line_end (i + 1) bytes
unfolding line_end line_of
end_later bytes i less other =
    rw (add-one i, drop-cons bytes i 0 less, ne_eqb (get_or bytes i 0) 10 other) (omega arith)

-- A line feed.
pub end-here : (bytes : List ℕ) (i : ℕ) → i < length bytes → get_or bytes i 0 ≡ 10 → line_end i bytes ≡ i
unfolding line_end line_of
end-here bytes i less same = rw (drop-cons bytes i 0 less, eq-eqb (get_or bytes i 0) 10 same) (omega arith)

-- The end of the bytes.
pub end-last : (bytes : List ℕ) (i : ℕ) → length bytes ≤ i → line_end i bytes ≡ i
unfolding line_end line_of
end-last bytes i all = rw (drop_of_length-le bytes all) (omega arith)

ltb-suc : (m n : ℕ) → ltb (suc m) (suc n) ≡ ltb m n
ltb-suc m n = go (dec_lt m n)
  where
    go : Dec (m < n) → ltb (suc m) (suc n) ≡ ltb m n
    go (yes p) = lt-ltb (suc m) (suc n) (omega arith) ∙ sym (lt-ltb m n p)
    go (no p) = le-ltb (suc m) (suc n) (omega arith) ∙ sym (le-ltb m n (omega arith))

-- A line ends where it ends before all bytes do.
short : (bytes : List ℕ) → has_line bytes ≡ ltb (length (line_of bytes)) (length bytes)
unfolding has_line line_of
short [] = refl
short (c ∷ cs) = go (eqb c 10) (short cs)
  where
    go : (b : Bool) → has_line cs ≡ ltb (length (line_of cs)) (length cs)
        → cond b true (has_line cs) ≡ ltb (length (cond b [] (c ∷ line_of cs))) (length (c ∷ cs))
    go true e = sym (lt-ltb 0 (suc (length cs)) (omega arith))
    go false e = e ∙ sym (ltb-suc (length (line_of cs)) (length cs))

-- The line from a place on, and what is behind it, as parts of all bytes.
pub has-line : (bytes : List ℕ) → has_line bytes ≡ ltb (line_end 0 bytes) (length bytes)
unfolding line_end
has-line bytes = short bytes ∙ rw (zero-add (length (line_of bytes)))

-- No line is in no bytes.
pub line-not-there : (bytes : List ℕ) → length bytes ≤ 0 → has_line bytes ≡ false
unfolding has_line
line-not-there [] h = refl
line-not-there (c ∷ cs) h = absurd (omega arith)

-- What is behind a line is shorter than with it.
pub behind-shorter : (bytes : List ℕ) → has_line bytes ≡ true → length (behind_line bytes) < length bytes
unfolding has_line behind_line
behind-shorter [] some = absurd (false≢true some)
behind-shorter (c ∷ cs) some = go (eqb c 10) some (behind-shorter cs)
  where
    go : (t : Bool) → cond t true (has_line cs) ≡ true → (has_line cs ≡ true → length (behind_line cs) < length cs)
        → length (cond t cs (behind_line cs)) < length (c ∷ cs)
    go true e later = omega arith
    go false e later = let less = later e in omega arith

-- A line and what is behind it, as parts of the bytes.
line_first : (bytes : List ℕ) → take (length (line_of bytes)) bytes ≡ line_of bytes
unfolding line_of
line_first [] = refl
line_first (c ∷ cs) = go (eqb c 10) (line_first cs)
  where
    go : (t : Bool) → take (length (line_of cs)) cs ≡ line_of cs → take (length (cond t [] (c ∷ line_of cs))) (c ∷ cs) ≡ cond t [] (c ∷ line_of cs)
    go true later = refl
    go false later = ap (λ (l : List ℕ). c ∷ l) later

line-rest : (bytes : List ℕ) → has_line bytes ≡ true → drop (suc (length (line_of bytes))) bytes ≡ behind_line bytes
unfolding has_line line_of behind_line
line-rest [] some = absurd (false≢true some)
line-rest (c ∷ cs) some = go (eqb c 10) some (line-rest cs)
  where
    go : (t : Bool) → cond t true (has_line cs) ≡ true → (has_line cs ≡ true → drop (suc (length (line_of cs))) cs ≡ behind_line cs)
        → drop (suc (length (cond t [] (c ∷ line_of cs)))) (c ∷ cs) ≡ cond t cs (behind_line cs)
    go true e later = refl
    go false e later = later e

-- The same from a place on.
module _ (bytes : List ℕ) (i end : ℕ) (there : end ≡ line_end i bytes) where
  pub line-there : i ≤ length bytes → end < length bytes → has_line (drop i bytes) ≡ true
  unfolding line_end
  line-there low less =
      let far : length (line_of (drop i bytes)) < length (drop i bytes) = omega (arith, length-drop i bytes) in
      short (drop i bytes) ∙ lt-ltb (length (line_of (drop i bytes))) (length (drop i bytes)) far

  pub line-nowhere : i ≤ length bytes → length bytes ≤ end → has_line (drop i bytes) ≡ false
  unfolding line_end
  line-nowhere low all =
      let far : length (drop i bytes) ≤ length (line_of (drop i bytes)) = omega (arith, length-drop i bytes) in
      short (drop i bytes) ∙ le-ltb (length (line_of (drop i bytes))) (length (drop i bytes)) far

  pub line-part : take (end - i) (drop i bytes) ≡ line_of (drop i bytes)
  unfolding line_end
  line-part =
      let long : end - i ≡ length (line_of (drop i bytes)) = omega arith in rw long (line_first (drop i bytes))

  pub line-behind-part : i ≤ length bytes → end < length bytes → drop (end + 1) bytes ≡ behind_line (drop i bytes)
  unfolding line_end
  line-behind-part low less =
      let place : end + 1 ≡ i + suc (length (line_of (drop i bytes))) = omega arith in
      rw place (sym (drop-drop (suc (length (line_of (drop i bytes)))) i bytes) ∙ line-rest (drop i bytes) (line-there low less))

-- Eight places, one after the other.
module _ (bytes : List ℕ) (i : ℕ) (room : i + 8 ≤ length bytes) where
  pub passed : (k : ℕ) → k < 8 → ¬ (get_or bytes (i + k) 0 ≡ 10) → line_end i bytes ≡ line_end (i + k) bytes
      → line_end i bytes ≡ line_end (i + (k + 1)) bytes
  passed k small other e =
      let place : i + (k + 1) ≡ (i + k) + 1 = omega arith in rw place (e ∙ end_later bytes (i + k) (omega arith) other)

  pub found : (k : ℕ) → k < 8 → get_or bytes (i + k) 0 ≡ 10 → line_end i bytes ≡ line_end (i + k) bytes → i + k ≡ line_end i bytes
  found k small same e = sym (e ∙ end-here bytes (i + k) (omega arith) same)
