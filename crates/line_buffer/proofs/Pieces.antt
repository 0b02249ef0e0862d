-- Where a piece of the input ends makes no difference. Assumes nothing.
use Prim.Native.Nat.{ℕ, zero, suc, ◌≤◌}
use mathlib.Core.Bool.{Bool, true, false, cond, true≢false, false≢true}
use mathlib.Core.List.{List, [], ◌∷◌, ◌++◌, append-nil, append_assoc}
use mathlib.Core.Path.{◌≡◌, refl, sym, ap, ◌∙◌}
use native.Mathlib.Decide.{dec_le}
use native.Mathlib.Omega.{arith}
use lib.Dec.{eqb}
use lib.ListN.{length, take}
use lib.Seq.{take_all, take-take, take-append-le, length-take-le}
use Rattle.line_buffer.specs.Lines.{has_line, line_of, behind_line, with_first, lines_in, rest_in, last_line, text_lines, whole_text, Reading, each_line, piece_read, pieces_read}

-- ---- bytes without a line feed

pub none_first : (c : ℕ) (cs : List ℕ) → has_line (c ∷ cs) ≡ false → (eqb c 10 ≡ false) × (has_line cs ≡ false)
unfolding has_line
none_first c cs = go (eqb c 10)
  where
    go : (b : Bool) → cond b true (has_line cs) ≡ false → (b ≡ false) × (has_line cs ≡ false)
    go true e = absurd (true≢false e)
    go false e = (refl, e)

-- have no line
pub no_lines : (bytes : List ℕ) → has_line bytes ≡ false → lines_in bytes ≡ []
unfolding lines_in with_first
no_lines [] none = refl
no_lines (c ∷ cs) none = let so = none_first c cs none in rw (so.0, no_lines cs so.1)

-- and are all rest
pub all_rest : (bytes : List ℕ) → has_line bytes ≡ false → rest_in bytes ≡ bytes
unfolding rest_in
all_rest [] none = refl
all_rest (c ∷ cs) none = rw none

-- The rest has none.
pub rest-none : (bytes : List ℕ) → has_line (rest_in bytes) ≡ false
unfolding rest_in has_line
rest-none [] = refl
rest-none (c ∷ cs) = go (has_line (c ∷ cs)) refl (rest-none cs)
  where
    go : (b : Bool) → has_line (c ∷ cs) ≡ b → has_line (rest_in cs) ≡ false → has_line (cond b (rest_in cs) (c ∷ cs)) ≡ false
    go true e later = later
    go false e later = e

-- Neither have the first bytes of such, or two such together.
pub none-taken : (n : ℕ) (bytes : List ℕ) → has_line bytes ≡ false → has_line (take n bytes) ≡ false
unfolding has_line
none-taken zero bytes none = refl
none-taken (suc n) [] none = refl
none-taken (suc n) (c ∷ cs) none = let so = none_first c cs none in rw so.0 (none-taken n cs so.1)

pub none_both : (a b : List ℕ) → has_line a ≡ false → has_line b ≡ false → has_line (a ++ b) ≡ false
unfolding has_line
none_both [] b none later = later
none_both (c ∷ cs) b none later = let so = none_first c cs none in rw so.0 (none_both cs b so.1 later)

-- ---- bytes with a line feed

some_more : (a b : List ℕ) → has_line a ≡ true → has_line (a ++ b) ≡ true
unfolding has_line
some_more [] b some = absurd (false≢true some)
some_more (c ∷ cs) b some = go (eqb c 10) some (some_more cs b)
  where
    go : (t : Bool) → cond t true (has_line cs) ≡ true → (has_line cs ≡ true → has_line (cs ++ b) ≡ true) → cond t true (has_line (cs ++ b)) ≡ true
    go true e later = refl
    go false e later = later e

-- Their lines have a first.
first-line : (bytes : List ℕ) → has_line bytes ≡ true → (P : List (List ℕ) → Type 0) → ((l : List ℕ) (ls : List (List ℕ)) → P (l ∷ ls))
    → P (lines_in bytes)
unfolding has_line lines_in with_first
first-line [] some P each = absurd (false≢true some)
first-line (c ∷ cs) some P each =
    go (eqb c 10) some (λ h. first-line cs h (λ (ls : List (List ℕ)). P (with_first c ls)) (λ l ls. each (c ∷ l) ls))
  where
    go : (t : Bool) → cond t true (has_line cs) ≡ true → (has_line cs ≡ true → P (with_first c (lines_in cs)))
        → P (cond t ([] ∷ lines_in cs) (with_first c (lines_in cs)))
    go true e later = each [] (lines_in cs)
    go false e later = later e

with_first_lem : (c : ℕ) (bytes : List ℕ) (more : List (List ℕ)) → has_line bytes ≡ true
    → with_first c (lines_in bytes ++ more) ≡ with_first c (lines_in bytes) ++ more
unfolding with_first
with_first_lem c bytes more some =
    first-line bytes some (λ (ls : List (List ℕ)). with_first c (ls ++ more) ≡ with_first c ls ++ more) (λ l ls. refl)

-- The first line, behind bytes without a line feed; the lines and the rest behind it.
pub line_first : (bytes : List ℕ) → has_line bytes ≡ true
    → (lines_in bytes ≡ line_of bytes ∷ lines_in (behind_line bytes)) × (rest_in bytes ≡ rest_in (behind_line bytes))
unfolding has_line lines_in with_first rest_in line_of behind_line
line_first [] some = absurd (false≢true some)
line_first (c ∷ cs) some = go (eqb c 10) some (line_first cs)
  where
    go : (t : Bool) → cond t true (has_line cs) ≡ true
        → (has_line cs ≡ true → (lines_in cs ≡ line_of cs ∷ lines_in (behind_line cs)) × (rest_in cs ≡ rest_in (behind_line cs)))
        → (cond t ([] ∷ lines_in cs) (with_first c (lines_in cs))
        ≡ cond t [] (c ∷ line_of cs) ∷ lines_in (cond t cs (behind_line cs)))
        × (cond (cond t true (has_line cs)) (rest_in cs) (c ∷ cs) ≡ rest_in (cond t cs (behind_line cs)))
    go true e later = (refl, refl)
    go false e later = (rw (later e).0, rw e (later e).1)

line-behind : (start bytes : List ℕ) → has_line start ≡ false → has_line bytes ≡ true
    → (lines_in (start ++ bytes) ≡ (start ++ line_of bytes) ∷ lines_in (behind_line bytes))
    × (rest_in (start ++ bytes) ≡ rest_in (behind_line bytes)) × (has_line (start ++ bytes) ≡ true)
unfolding lines_in with_first rest_in has_line
line-behind [] bytes none some = let so = line_first bytes some in (so.0, so.1, some)
line-behind (c ∷ cs) bytes none some =
    let so = none_first c cs none in
    let later = line-behind cs bytes so.1 some in
    (rw (so.0, later.0), rw (so.0, later.2) later.1, rw so.0 later.2)

-- ---- a cut

-- The lines of two parts are those of the first, and those of what is left of it with the second.
lines-here : (c : ℕ) (cs b : List ℕ) (t : Bool) → cond t true (has_line cs) ≡ true
    → lines_in (cs ++ b) ≡ lines_in cs ++ lines_in (rest_in cs ++ b)
    → cond t ([] ∷ lines_in (cs ++ b)) (with_first c (lines_in (cs ++ b)))
    ≡ cond t ([] ∷ lines_in cs) (with_first c (lines_in cs)) ++ lines_in (rest_in cs ++ b)
lines-here c cs b true some later = ap (λ (ls : List (List ℕ)). [] ∷ ls) later
lines-here c cs b false some later = ap (with_first c) later ∙ with_first_lem c cs (lines_in (rest_in cs ++ b)) some

pub lines_cut : (a b : List ℕ) → lines_in (a ++ b) ≡ lines_in a ++ lines_in (rest_in a ++ b)
unfolding lines_in rest_in has_line
lines_cut [] b = refl
lines_cut (c ∷ cs) b = go (has_line (c ∷ cs)) refl (lines_cut cs b)
  where
    go : (t : Bool) → has_line (c ∷ cs) ≡ t → lines_in (cs ++ b) ≡ lines_in cs ++ lines_in (rest_in cs ++ b)
        → lines_in (c ∷ (cs ++ b)) ≡ lines_in (c ∷ cs) ++ lines_in (cond t (rest_in cs) (c ∷ cs) ++ b)
    go true e later = lines-here c cs b (eqb c 10) e later
    go false e later = ap (λ (ls : List (List ℕ)). ls ++ lines_in (c ∷ (cs ++ b))) (sym (no_lines (c ∷ cs) e))

pub rest-cut : (a b : List ℕ) → rest_in (a ++ b) ≡ rest_in (rest_in a ++ b)
unfolding rest_in
rest-cut [] b = refl
rest-cut (c ∷ cs) b = go (has_line (c ∷ cs)) refl (rest-cut cs b)
  where
    go : (t : Bool) → has_line (c ∷ cs) ≡ t → rest_in (cs ++ b) ≡ rest_in (rest_in cs ++ b)
        → rest_in (c ∷ (cs ++ b)) ≡ rest_in (cond t (rest_in cs) (c ∷ cs) ++ b)
    go true e later = rw (some_more (c ∷ cs) b e) later
    go false e later = refl

-- ---- pieces

pub each_append : {S : Type 0} (answer : List ℕ → S → S) (a b : List (List ℕ)) (s : S)
    → each_line answer (a ++ b) s ≡ each_line answer b (each_line answer a s)
unfolding each_line
each_append answer [] b s = refl
each_append answer (l ∷ ls) b s = each_append answer ls b (answer l s)

-- Of a line that is held by its first 1,002 bytes the rest makes no difference.
module _ {S : Type 0} (answer : List ℕ → S → S)
    (too_long : (start more : List ℕ) (s : S) → 1002 ≤ length start → answer (take 1002 start ++ more) s ≡ answer (start ++ more) s) where
  held-line : (start more : List ℕ) (s : S) → answer (take 1002 start ++ more) s ≡ answer (start ++ more) s
  held-line start more s = go (dec_le 1002 (length start))
    where
      go : Dec (1002 ≤ length start) → answer (take 1002 start ++ more) s ≡ answer (start ++ more) s
      go (yes p) = too_long start more s p
      go (no p) = rw (take_all 1002 start (omega arith))

  held_start : (start more : List ℕ) → take 1002 (take 1002 start ++ more) ≡ take 1002 (start ++ more)
  held_start start more = go (dec_le 1002 (length start))
    where
      go : Dec (1002 ≤ length start) → take 1002 (take 1002 start ++ more) ≡ take 1002 (start ++ more)
      go (yes p) =
          let long : length (take 1002 start) ≡ 1002 = length-take-le 1002 start p in
          take-append-le 1002 (take 1002 start) more (omega (arith, long)) ∙ take-take 1002 1002 start (omega arith)
          ∙ sym (take-append-le 1002 start more p)
      go (no p) = rw (take_all 1002 start (omega arith))

  -- A piece, behind the start of a line that is held.
  held-piece : (start piece : List ℕ) (s : S) → has_line start ≡ false
      → piece_read answer piece record { state = s; held = take 1002 start }
      ≡ record { state = each_line answer (lines_in (start ++ piece)) s; held = take 1002 (rest_in (start ++ piece)) }
  unfolding piece_read each_line
  held-piece start piece s none = go (has_line piece) refl
    where
      go : (t : Bool) → has_line piece ≡ t
          → piece_read answer piece record { state = s; held = take 1002 start }
          ≡ record { state = each_line answer (lines_in (start ++ piece)) s; held = take 1002 (rest_in (start ++ piece)) }
      go true e =
          let whole = line-behind start piece none e in
          let held = line-behind (take 1002 start) piece (none-taken 1002 start none) e in
          let states : each_line answer (lines_in (take 1002 start ++ piece)) s ≡ each_line answer (lines_in (start ++ piece)) s
          = ap (λ (ls : List (List ℕ)). each_line answer ls s) held.0
          ∙ ap (each_line answer (lines_in (behind_line piece))) (held-line start (line_of piece) s)
          ∙ sym (ap (λ (ls : List (List ℕ)). each_line answer ls s) whole.0) in
          let rests : rest_in (take 1002 start ++ piece) ≡ rest_in (start ++ piece) = held.1 ∙ sym whole.1 in
          rw (states, rests)
      go false e =
          let whole = none_both start piece none e in
          let held = none_both (take 1002 start) piece (none-taken 1002 start none) e in
          rw (no_lines (start ++ piece) whole, all_rest (start ++ piece) whole, no_lines (take 1002 start ++ piece) held, all_rest (take 1002 start ++ piece) held, held_start start piece)

  held-last : (start : List ℕ) (s : S) → each_line answer (last_line (take 1002 start)) s ≡ each_line answer (last_line start) s
  unfolding each_line last_line
  held-last [] s = refl
  held-last (c ∷ cs) s = rw (append-nil (take 1001 cs), append-nil cs) at (held-line (c ∷ cs) [] s)

  held-pieces : (ps : List (List ℕ)) (start : List ℕ) (s : S) → has_line start ≡ false
      → pieces_read answer ps record { state = s; held = take 1002 start } ≡ each_line answer (text_lines (start ++ whole_text ps)) s
  unfolding pieces_read text_lines whole_text
  held-pieces [] start s none = rw (append-nil, no_lines start none, all_rest start none) (held-last start s)
  held-pieces (p ∷ ps) start s none =
      let left = rest_in (start ++ p) in
      let lines = lines_in (start ++ p) in
      rw (held-piece start p s none, ← append_assoc start p (whole_text ps), lines_cut (start ++ p) (whole_text ps), rest-cut (start ++ p) (whole_text ps), append_assoc lines (lines_in (left ++ whole_text ps)) (last_line (rest_in (left ++ whole_text ps))), each_append answer lines (lines_in (left ++ whole_text ps) ++ last_line (rest_in (left ++ whole_text ps))) s)
      (held-pieces ps left (each_line answer lines s) (rest-none (start ++ p)))

  -- What a text leaves that is read in pieces is what its lines leave, wherever a piece ends.
  pub pieces-alike : (ps : List (List ℕ)) (s : S)
      → pieces_read answer ps record { state = s; held = [] } ≡ each_line answer (text_lines (whole_text ps)) s
  unfolding has_line
  pieces-alike ps s = held-pieces ps [] s refl
