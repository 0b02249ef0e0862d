-- What is done behind an answer goes on behind the start of its first line, of which only the first bytes are kept. Assumes nothing.
use Prim.Native.Nat.{ℕ, ◌+◌, ◌≤◌, ◌<◌}
use mathlib.Core.Path.{◌≡◌, refl, sym, ap, ◌∙◌}
use mathlib.Core.Bool.{Bool, true, false, cond}
use mathlib.Core.List.{List, [], ◌∷◌, ◌++◌, append_assoc}
use native.Mathlib.Decide.{dec_le}
use native.Mathlib.Omega.{arith}
use lib.ListN.{length, take, drop}
use lib.Seq.{take_all, take-length, take-append-add, drop-append-add}
use Rattle.numeral.specs.Place.{joined}
use Rattle.line_buffer.specs.Lines.{has_line}
use Rattle.numeral.specs.Ascii.{ascii}
use Rattle.wording.specs.Wording.{numbered, expected as expected_texts}
use Rattle.item_checks.specs.Close.{place_of, begins_with, is_announced, is_not_bad}
use Rattle.line_text.specs.Text.{differing_text, judged_text, judged_counts, closed_counts}
use Rattle.tick_parts.specs.Kept.{Few, Startable, judged_rest}
use Rattle.line_buffer.proofs.Pieces.{none_first, none-taken, none_both}
use Rattle.tick_parts.proofs.Feedless.{tick-feedless, at-feedless}
use Rattle.tick_parts.proofs.Early.{begins-early, tick-place, at_place}

-- ---- the end of the first line

pub place-behind : (a b : List ℕ) → has_line a ≡ false → place_of 10 (a ++ b) ≡ length a + place_of 10 b
unfolding place_of
place-behind [] b none = omega arith
place-behind (c ∷ cs) b none =
    let so = none_first c cs none in rw (so.0, place-behind cs b so.1) (omega arith)

-- the first line, and what stands behind it
pub first-line-behind : (a b : List ℕ) → has_line a ≡ false → take (place_of 10 (a ++ b)) (a ++ b) ≡ a ++ take (place_of 10 b) b
first-line-behind a b none = rw (place-behind a b none) (take-append-add a b (place_of 10 b))

pub later-lines-behind : (a b : List ℕ) → has_line a ≡ false → drop (place_of 10 (a ++ b)) (a ++ b) ≡ drop (place_of 10 b) b
later-lines-behind a b none = rw (place-behind a b none) (drop-append-add a b (place_of 10 b))

-- What differs stands behind the first line.
pub differing-behind : (wanted a b : List ℕ) → has_line a ≡ false → differing_text wanted (a ++ b) ≡ a ++ differing_text wanted b
unfolding differing_text
differing-behind wanted a b none =
    rw (first-line-behind a b none, later-lines-behind a b none)
    (append_assoc a (take (place_of 10 b) b) (joined (expected_texts wanted) ++ drop (place_of 10 b) b))

-- An answer that is judged: the start of its first line, and what then stands behind it.
pub judged-behind : (expected : List (List ℕ)) (counts a b : List ℕ) → has_line a ≡ false
    → judged_text expected counts (a ++ b) ≡ a ++ judged_rest expected counts (a ++ b) b
unfolding judged_text judged_rest
judged-behind [] counts a b none = refl
judged-behind (wanted ∷ others) counts a b none =
    rw (differing-behind wanted a b none) (go (is_not_bad counts) (begins_with wanted (a ++ b)))
  where
    go : (t u : Bool) → cond t (cond u (a ++ b) (a ++ differing_text wanted b)) (a ++ b) ≡ a ++ cond t (cond u b (differing_text wanted b)) b
    go true true = refl
    go true false = refl
    go false u = refl

-- ---- an answer of which the start is kept

-- A long start decides what the answer begins with, whatever stands behind what is kept of it.
pub begins-start : (wanted gone more rest : List ℕ) → 2048 < length gone → place_of 32 gone ≤ 4 → length wanted ≤ 1030
    → begins_with wanted (take 2048 gone ++ more) ≡ begins_with wanted (gone ++ rest)
begins-start wanted gone more rest many early few =
    let all : begins_with wanted (take (length gone) gone ++ rest) ≡ begins_with wanted gone
    = begins-early wanted (length gone) gone rest (omega arith) (omega arith) in
    begins-early wanted 2048 gone more (omega arith) (omega arith) ∙ sym (rw (take-length gone) at all)

-- So the words that an answer begins with are those of the whole one.
pub begins-same : (wanted gone rest : List ℕ) → (2048 < length gone → (place_of 32 gone ≤ 4) × (length wanted ≤ 1030))
    → begins_with wanted (take 2048 gone ++ rest) ≡ begins_with wanted (gone ++ rest)
begins-same wanted gone rest some = go (dec_le (length gone) 2048)
  where
    go : Dec (length gone ≤ 2048) → begins_with wanted (take 2048 gone ++ rest) ≡ begins_with wanted (gone ++ rest)
    go (yes few) = rw (take_all 2048 gone few)
    go (no many) = let so = some (omega arith) in begins-start wanted gone rest rest (omega arith) so.0 so.1

-- What a line of ticks starts with, and anything without a line feed behind it, may be kept so.
pub nothing-startable : (expected : List (List ℕ)) → Startable expected []
unfolding has_line
nothing-startable expected = record { feedless = refl; early = λ many. absurd (omega arith); few = λ many. absurd (omega arith) }

pub tick-startable : (expected : List (List ℕ)) (n : ℕ) (more : List ℕ) → Few expected → has_line more ≡ false
    → Startable expected (joined (numbered (ascii "tick ") n) ++ more)
tick-startable expected n more few none = record {
  feedless = none_both (joined (numbered (ascii "tick ") n)) more (tick-feedless n) none;
  early = λ many. omega (arith, tick-place n more);
  few = λ many. few;
}

pub at-startable : (expected : List (List ℕ)) (n : ℕ) (more : List ℕ) → Few expected → has_line more ≡ false
    → Startable expected (joined (numbered (ascii "at ") n) ++ more)
at-startable expected n more few none = record {
  feedless = none_both (joined (numbered (ascii "at ") n)) more (at-feedless n) none;
  early = λ many. omega (arith, at_place n more);
  few = λ many. few;
}

-- The counts are those of the whole answer,
pub judged-counts-same : (expected : List (List ℕ)) (counts gone rest : List ℕ) → Startable expected gone
    → judged_counts expected counts (take 2048 gone ++ rest) ≡ judged_counts expected counts (gone ++ rest)
unfolding judged_counts
judged-counts-same [] counts gone rest s = refl
judged-counts-same (wanted ∷ others) counts gone rest s =
    rw (begins-same wanted gone rest (λ many. (s.early many, (s.few many).0)))

pub announced-same : (expected : List (List ℕ)) (counts gone rest : List ℕ) → Startable expected gone
    → is_announced expected counts (take 2048 gone ++ rest) ≡ is_announced expected counts (gone ++ rest)
unfolding is_announced
announced-same [] counts gone rest s = refl
announced-same (wanted ∷ others) counts gone rest s =
    rw (begins-same wanted gone rest (λ many. (s.early many, (s.few many).0)))

pub closed-counts-same : (expected : List (List ℕ)) (counts gone rest : List ℕ) → Startable expected gone
    → closed_counts expected counts (take 2048 gone ++ rest) ≡ closed_counts expected counts (gone ++ rest)
unfolding closed_counts
closed-counts-same expected counts gone rest s =
    rw (announced-same expected counts gone rest s, judged-counts-same expected counts gone rest s)

-- and so is what stands behind the start of the first line:
judged-rest-same : (expected : List (List ℕ)) (counts gone rest : List ℕ) → Startable expected gone
    → judged_rest expected counts (take 2048 gone ++ rest) rest ≡ judged_rest expected counts (gone ++ rest) rest
unfolding judged_rest
judged-rest-same [] counts gone rest s = refl
judged-rest-same (wanted ∷ others) counts gone rest s =
    rw (begins-same wanted gone rest (λ many. (s.early many, (s.few many).0)))

-- one text, behind what is kept of it
pub judged-kept : (expected : List (List ℕ)) (counts gone rest : List ℕ) → Startable expected gone
    → judged_text expected counts (take 2048 gone ++ rest) ≡ take 2048 gone ++ judged_rest expected counts (gone ++ rest) rest
judged-kept expected counts gone rest s =
    judged-behind expected counts (take 2048 gone) rest (none-taken 2048 gone s.feedless)
    ∙ ap (λ (more : List ℕ). take 2048 gone ++ more) (judged-rest-same expected counts gone rest s)

-- and behind all of it.
pub judged-whole : (expected : List (List ℕ)) (counts gone rest : List ℕ) → Startable expected gone
    → judged_text expected counts (gone ++ rest) ≡ gone ++ judged_rest expected counts (gone ++ rest) rest
judged-whole expected counts gone rest s = judged-behind expected counts gone rest s.feedless
