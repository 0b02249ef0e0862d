-- What a check keeps of a long answer, and that it keeps as much of one that is answered in parts. Assumes nothing.
use Prim.Native.Nat.{ℕ, suc, ◌+◌, ◌≤◌, ◌<◌}
use mathlib.Core.Path.{◌≡◌, refl, sym, ap, ◌∙◌}
use mathlib.Core.List.{List, [], ◌∷◌, ◌++◌, append_assoc, append-nil}
use native.Mathlib.Decide.{dec_le}
use native.Mathlib.Omega.{arith}
use lib.ListN.{length, get_or, set, take, length-append}
use lib.Seq.{take_at, take-append-le, length-take-le}
use borrow.Author.Tests.{le-leb, lt-leb}
use Rattle.numeral.specs.Place.{overwrite, joined}
use Rattle.numeral.proofs.PlaceLaws.{put-each}
use Rattle.numeral.specs.Ascii.{ascii}
use Rattle.wording.specs.Wording.{left_out}
use Rattle.item_state.specs.Log.{Log}
use Rattle.item_checks.specs.Close.{briefly, cut_off, kept_briefly}

-- ` ..`
abbrev pub dots : List ℕ
dots = 32 ∷ 46 ∷ 46 ∷ []

pub left_out_lem : joined left_out ≡ dots
unfolding joined left_out ascii
left_out_lem = refl

-- An answer of 2,051 bytes is kept whole; of one of 2,052 the first 2,048 are, and ` ..`.
pub briefly-short : (answer : List ℕ) → length answer ≤ 2051 → briefly answer ≡ answer
unfolding briefly
briefly-short answer h = rw (le-leb (length answer) 2051 h)

pub briefly-long : (answer : List ℕ) → 2052 ≤ length answer → briefly answer ≡ take 2048 answer ++ dots
unfolding briefly
briefly-long answer h = let more : 2051 < length answer = omega arith in rw (lt-leb (length answer) 2051 more, left_out_lem)

cut-length : (answer : List ℕ) → 2052 ≤ length answer → length (take 2048 answer ++ dots) ≡ 2051
cut-length answer h = length-append (take 2048 answer) dots ∙ omega (arith, length-take-le 2048 answer (omega arith))

pub briefly-length : (answer : List ℕ) → length (briefly answer) ≤ 2051
briefly-length answer = go (dec_le (length answer) 2051)
  where
    go : Dec (length answer ≤ 2051) → length (briefly answer) ≤ 2051
    go (yes p) = rw (briefly-short answer p) p
    go (no p) = let long : 2052 ≤ length answer = omega arith in rw (briefly-long answer long) (omega (arith, cut-length answer long))

pub briefly-shorter : (answer : List ℕ) → length (briefly answer) ≤ length answer
briefly-shorter answer = go (dec_le (length answer) 2051)
  where
    go : Dec (length answer ≤ 2051) → length (briefly answer) ≤ length answer
    go (yes p) = rw (briefly-short answer p) (omega arith)
    go (no p) = omega (arith, briefly-length answer)

-- ---- an answer in parts

-- What is kept of a long answer stays when more is answered.
cut_again : (first more : List ℕ) → 2052 ≤ length first → briefly ((take 2048 first ++ dots) ++ more) ≡ take 2048 first ++ dots
cut_again first [] h = rw (append-nil (take 2048 first ++ dots)) (briefly-short (take 2048 first ++ dots) (omega (arith, cut-length first h)))
cut_again first (c ∷ cs) h =
    let kept = take 2048 first in
    let more = c ∷ cs in
    let long : 2052 ≤ length ((kept ++ dots) ++ more) = omega (arith, length-append (kept ++ dots) more, cut-length first h) in
    let start : take 2048 ((kept ++ dots) ++ more) ≡ kept =
    ap (take 2048) (append_assoc kept dots more) ∙ take_at kept (dots ++ more) 2048 (length-take-le 2048 first (omega arith)) in
    briefly-long ((kept ++ dots) ++ more) long ∙ ap (λ (x : List ℕ). x ++ dots) start

-- Cut behind each part, an answer is what it is when it is cut once, as a whole.
pub briefly-parts : (first more : List ℕ) → briefly (briefly first ++ more) ≡ briefly (first ++ more)
briefly-parts first more = go (dec_le (length first) 2051)
  where
    go : Dec (length first ≤ 2051) → briefly (briefly first ++ more) ≡ briefly (first ++ more)
    go (yes p) = rw (briefly-short first p)
    go (no p) =
        let long : 2052 ≤ length first = omega arith in
        let whole : 2052 ≤ length (first ++ more) = omega (arith, length-append first more) in
        ap (λ (x : List ℕ). briefly (x ++ more)) (briefly-long first long)
        ∙ (cut_again first more long
        ∙ sym (briefly-long (first ++ more) whole ∙ ap (λ (x : List ℕ). x ++ dots) (take-append-le 2048 first more (omega arith))))

-- ---- in the buffer

-- Where the answers end; the head has five bytes, and in a check count 14 is 1.
abbrev counts : ℕ → ℕ → List ℕ
counts used check = used ∷ 0 ∷ 3 ∷ 1 ∷ 0 ∷ 0 ∷ 0 ∷ 0 ∷ 0 ∷ 0 ∷ 0 ∷ 0 ∷ 0 ∷ 0 ∷ check ∷ 0 ∷ 1 ∷ 0 ∷ 0 ∷ 0 ∷ 5 ∷ 0 ∷ []

-- An answer of 2,051 bytes stays as it is, and one of 2,052 where nothing is checked.
kept_whole : (answers : List ℕ) → (kept_briefly record { counts = counts 2056 1; answers = answers } ≡ record { counts = counts 2056 1; answers = answers })
    × (kept_briefly record { counts = counts 2057 0; answers = answers } ≡ record { counts = counts 2057 0; answers = answers })
unfolding kept_briefly
kept_whole answers = (refl, refl)

-- In a check one of 2,052 bytes ends with ` ..` behind its first 2,048.
kept-cut : (answers : List ℕ) → 2057 ≤ length answers → kept_briefly record { counts = counts 2057 1; answers = answers } ≡ record { counts = counts 2056 1; answers = overwrite answers 2053 dots }
unfolding kept_briefly cut_off
kept-cut answers room = rw (put-each left_out answers 2053 (rw left_out_lem (omega arith)), left_out_lem)
