-- What the definitions of `Line` come to. Assumes nothing.
use Prim.Native.Nat.{ℕ, ◌-◌, ◌≤◌, ◌<◌}
use mathlib.Core.Path.{◌≡◌, sym, ap, ◌∙◌}
use mathlib.Core.Bool.{Bool, true, false, cond}
use mathlib.Core.List.{List}
use native.Mathlib.Nat.{add-zero}
use native.Mathlib.Decide.{dec_le}
use native.Mathlib.Omega.{arith}
use lib.Dec.{ltb, eqb}
use lib.ListN.{length, get_or, take, drop, length-take}
use lib.Seq.{take_all, get_or-take, get_or-drop}
use borrow.Author.Tests.{lt-ltb}
use Rattle.line.specs.declared.Content.{Content}
use Rattle.line.specs.declared.Keyword.{Keyword}
use Rattle.line.specs.declared.Tally.{Tally}
use Rattle.line.specs.Words.{part}
use Rattle.line.specs.Numbers.{Outcome}
use Rattle.line.specs.Line.{reading, read_by, is_out, content_length, line_reading}

pub read-by : (f : Tally → Content) {t : Tally} {l : List ℕ} {o : Outcome} {r : Content} → record { tally = t; numbers = l } ≡ o → r ≡ f t
    → reading r l ≡ read_by f o
read-by f {t} {l} e h = ap (λ (c : Content). reading c l) h ∙ ap (read_by f) e

-- In a chain of tests, the first that holds decides.
pub here : {test t : Bool} {a : Keyword} (b : Keyword) → test ≡ t → test ≡ true → a ≡ cond t a b
here b e h = rw (← e, h)

pub below : {test t : Bool} (a : Keyword) {b r : Keyword} → test ≡ t → test ≡ false → r ≡ b → r ≡ cond t a b
below a e h rest = rw (← e, h) rest

-- A word's first byte.
pub part-first : (i j : ℕ) (s : List ℕ) → i < j → get_or (part i j s) 0 0 ≡ get_or s i 0
part-first i j s h = rw (get_or-take (j - i) (drop i s) 0 0 (omega arith), get_or-drop i s 0 0, add-zero)

pub out-long : (w : List ℕ) → is_out w ≡ true → 4 ≤ length w
unfolding is_out
out-long w e = go (dec_le 4 (length w)) e
  where
    go : Dec (4 ≤ length w) → is_out w ≡ true → 4 ≤ length w
    go (yes p) = λ _. p
    go (no p) = rw (lt-ltb (length w) 4 (omega arith)) (λ e'. let z : ◌≡◌ {A = ℕ} 0 1 = cc in absurd (omega arith))

long-line : (l cs : List ℕ) → 1001 < length cs → line_reading l cs ≡ reading Content.TooLong l
unfolding line_reading content_length
long-line l cs h = rw (go (eqb (get_or cs (length cs - 1) 0) 13))
  where
    go : (t : Bool) → ltb 1000 (cond t (length cs - 1) (length cs)) ≡ true
    go true = lt-ltb 1000 (length cs - 1) (omega arith)
    go false = lt-ltb 1000 (length cs) (omega arith)

-- A reader need keep no more than the first 1,002 bytes of a line.
pub cut : (l cs : List ℕ) → line_reading l (take 1002 cs) ≡ line_reading l cs
cut l cs = go (dec_le (length cs) 1002)
  where
    go : Dec (length cs ≤ 1002) → line_reading l (take 1002 cs) ≡ line_reading l cs
    go (yes p) = rw (take_all 1002 cs p)
    go (no p) =
        let some : 1001 < length (take 1002 cs) = rw length-take (omega arith) in
        long-line l (take 1002 cs) some ∙ sym (long-line l cs (omega arith))
