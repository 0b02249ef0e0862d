-- What an answer begins with goes by its start alone. Assumes nothing.
use Prim.Native.Nat.{ℕ, zero, suc, ◌+◌, ◌-◌, ◌≤◌, ◌<◌}
use mathlib.Core.Path.{◌≡◌, refl, ap, ◌∙◌}
use mathlib.Core.Bool.{Bool, true, false, cond}
use mathlib.Core.List.{List, [], ◌∷◌, ◌++◌}
use native.Mathlib.Omega.{arith}
use lib.Dec.{eqb}
use lib.ListN.{length, take, drop, length-drop}
use lib.Seq.{drop-drop}
use Rattle.numeral.specs.Place.{joined}
use Rattle.numeral.specs.Ascii.{ascii}
use Rattle.wording.specs.Wording.{numbered}
use Rattle.item_checks.specs.Close.{place_of, starts_with, begins_with}

-- Bytes of which the first k are kept, and others behind them: what they start with,
pub starts-early : (wanted : List ℕ) (k : ℕ) (bytes more : List ℕ) → length wanted < k → k ≤ length bytes
    → starts_with wanted (take k bytes ++ more) ≡ starts_with wanted bytes
unfolding starts_with
starts-early [] zero [] more h l = absurd (omega arith)
starts-early [] zero (c ∷ cs) more h l = absurd (omega arith)
starts-early [] (suc k) [] more h l = absurd (omega arith)
starts-early [] (suc k) (c ∷ cs) more h l = refl
starts-early (w ∷ ws) zero [] more h l = absurd (omega arith)
starts-early (w ∷ ws) zero (c ∷ cs) more h l = absurd (omega arith)
starts-early (w ∷ ws) (suc k) [] more h l = absurd (omega arith)
starts-early (w ∷ ws) (suc k) (c ∷ cs) more h l =
    ap (λ (rest : Bool). cond (eqb c w) rest false) (starts-early ws k cs more (omega arith) (omega arith))

-- where the first byte c stands,
pub place-early : (c k : ℕ) (bytes more : List ℕ) → place_of c bytes < k → k ≤ length bytes → place_of c (take k bytes ++ more) ≡ place_of c bytes
unfolding place_of
place-early c zero [] more h l = absurd (omega arith)
place-early c zero (b ∷ bs) more h l = absurd (omega arith)
place-early c (suc k) [] more h l = absurd (omega arith)
place-early c (suc k) (b ∷ bs) more h l = go (eqb b c) h (λ later. place-early c k bs more later (omega arith))
  where
    go : (t : Bool) → cond t 0 (place_of c bs + 1) < suc k → (place_of c bs < k → place_of c (take k bs ++ more) ≡ place_of c bs)
        → cond t 0 (place_of c (take k bs ++ more) + 1) ≡ cond t 0 (place_of c bs + 1)
    go true low next = refl
    go false low next = rw (next (omega arith))

-- and what stands behind the first n of them.
drop-early : (n k : ℕ) (bytes more : List ℕ) → n ≤ k → k ≤ length bytes → drop n (take k bytes ++ more) ≡ take (k - n) (drop n bytes) ++ more
drop-early zero k bytes more h l = let all : k - 0 ≡ k = omega arith in rw all
drop-early (suc n) zero bytes more h l = absurd (omega arith)
drop-early (suc n) (suc k) [] more h l = absurd (omega arith)
drop-early (suc n) (suc k) (b ∷ bs) more h l =
    let fewer : suc k - suc n ≡ k - n = omega arith in rw fewer (drop-early n k bs more (omega arith) (omega arith))

-- So the words that an answer begins with are found in its first k bytes.
pub begins-early : (wanted : List ℕ) (k : ℕ) (bytes more : List ℕ) → place_of 32 bytes + 1 + length wanted < k → k ≤ length bytes
    → begins_with wanted (take k bytes ++ more) ≡ begins_with wanted bytes
unfolding begins_with
begins-early wanted k bytes more h l =
    let p : ℕ = place_of 32 bytes in
    let there : place_of 32 (take k bytes ++ more) ≡ p = place-early 32 k bytes more (omega arith) l in
    let kept : drop 1 (drop p (take k bytes ++ more)) ≡ take (k - (p + 1)) (drop (p + 1) bytes) ++ more
    = drop-drop 1 p (take k bytes ++ more) ∙ drop-early (p + 1) k bytes more (omega arith) l in
    let later : drop 1 (drop p bytes) ≡ drop (p + 1) bytes = drop-drop 1 p bytes in
    rw (there, kept, later)
    (ap (λ (found : Bool). cond (eqb (length wanted) 0) true found)
    (starts-early wanted (k - (p + 1)) (drop (p + 1) bytes) more (omega arith) (rw (length-drop (p + 1) bytes) (omega arith))))

-- The first k bytes may be kept a part at a time.
pub start-again : (k : ℕ) (a b : List ℕ) → take k (take k a ++ b) ≡ take k (a ++ b)
start-again zero a b = refl
start-again (suc k) [] b = refl
start-again (suc k) (c ∷ cs) b = ap (λ (l : List ℕ). c ∷ l) (start-again k cs b)

-- The first blank of a line of ticks
pub tick-place : (n : ℕ) (more : List ℕ) → place_of 32 (joined (numbered (ascii "tick ") n) ++ more) ≡ 4
unfolding place_of joined numbered ascii
tick-place n more = refl

pub at_place : (n : ℕ) (more : List ℕ) → place_of 32 (joined (numbered (ascii "at ") n) ++ more) ≡ 2
unfolding place_of joined numbered ascii
at_place n more = refl
