-- A buffer that holds the start of a name goes on to hold it. Assumes nothing.
use Prim.Native.Nat.{ℕ, ◌+◌, ◌≤◌, ◌<◌, min}
use mathlib.Core.Path.{◌≡◌, sym, ◌∙◌}
use mathlib.Core.List.{List, [], ◌∷◌, ◌++◌}
use native.Mathlib.Decide.{dec_lt}
use native.Mathlib.Numerals.{add-one}
use native.Mathlib.Omega.{arith}
use lib.ListN.{length, take, length-append}
use lib.Seq.{take_all, take-append-le, take-suc-set}
use borrow.Author.Tests.{lt-ltb, le-ltb}
use Rattle.file_names.specs.Held.{held_bytes, held_count, Held}

-- A buffer that holds the start of a name holds it with the name's next byte too.
pub held_more : (l : List ℕ) (n : ℕ) (cs : List ℕ) (b : ℕ) → Held l n cs
    → (held_count l n ≡ min (length l) (length (cs ++ (b ∷ [])))) × (take (held_count l n) (held_bytes l n b) ≡ take (length l) (cs ++ (b ∷ [])))
unfolding held_bytes held_count
held_more l n cs b h = go (dec_lt n (length l))
  where
    long : length (cs ++ (b ∷ [])) ≡ length cs + 1
    long = length-append cs (b ∷ [])

    go : Dec (n < length l)
        → (held_count l n ≡ min (length l) (length (cs ++ (b ∷ [])))) × (take (held_count l n) (held_bytes l n b) ≡ take (length l) (cs ++ (b ∷ [])))
    go (yes p) =
        let short : length cs ≤ length l = omega (arith, h.count) in
        let all : length (cs ++ (b ∷ [])) ≤ length l = omega (arith, h.count, long) in
        rw (lt-ltb n (length l) p) (
          omega (arith, h.count, long),
          rw (add-one, take-suc-set l n b p, h.bytes, take_all (length l) cs short, take_all (length l) (cs ++ (b ∷ [])) all),
        )
    go (no p) =
        let full : length l ≤ n = omega arith in
        let enough : length l ≤ length cs = omega (arith, h.count) in
        rw (le-ltb n (length l) full) (omega (arith, h.count, long), h.bytes ∙ sym (take-append-le (length l) cs (b ∷ []) enough))
