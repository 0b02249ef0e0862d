-- The words that a line expects are few. Assumes nothing.
use Prim.Native.Nat.{ℕ, ◌+◌, ◌≤◌}
use mathlib.Core.Bool.{Bool, true, false, cond}
use mathlib.Core.List.{List, [], ◌∷◌, map}
use mathlib.Core.Path.{◌≡◌}
use native.Mathlib.Omega.{arith}
use lib.Dec.{eqb}
use lib.ListN.{length, get_or, take}
use Rattle.unit.proofs.Cases.{by-ltb}
use Rattle.numeral.specs.Place.{joined}
use Rattle.line.specs.Words.{words}
use Rattle.line.specs.Spaced.{spaced}
use Rattle.line.specs.Mark.{is_mark, takes_mark, behind_mark, expected_words}
use Rattle.line.specs.Line.{keyword_of, words_expected, content_length, line_expected}
use Rattle.item_checks.specs.Close.{expected_of}
use Rattle.answer_length.proofs.Sizes.{size-joined, take-most}
use Rattle.line_room.proofs.Room.{bytes_in, spaced-few, words-few}
use Rattle.tick_parts.specs.Kept.{Few}

abbrev as_texts : List (List (List ℕ)) → List (List ℕ)
as_texts xs = map (λ (ws : List (List ℕ)). joined (spaced ws)) xs

behind-few : (ws : List (List ℕ)) → bytes_in ws ≤ 1001 → Few (as_texts (behind_mark ws))
unfolding behind_mark bytes_in
behind-few [] h = tt
behind-few (w ∷ ws) h = go (is_mark w) (behind-few ws (omega arith))
  where
    go : (t : Bool) → Few (as_texts (behind_mark ws)) → Few (as_texts (cond t (ws ∷ []) (behind_mark ws)))
    go true rest = (omega (arith, size-joined (spaced ws), spaced-few ws), tt)
    go false rest = rest

marked-few : (ws : List (List ℕ)) → bytes_in ws ≤ 1001 → Few (as_texts (words_expected ws))
unfolding words_expected bytes_in
marked-few [] h = tt
marked-few (w ∷ ws) h = go (eqb (get_or w 0 0) 35) (takes_mark (keyword_of w)) (behind-few ws (omega arith))
  where
    go : (t u : Bool) → Few (as_texts (behind_mark ws)) → Few (as_texts (cond t [] (cond u (behind_mark ws) [])))
    go true u rest = tt
    go false true rest = rest
    go false false rest = tt

-- A line of at most 1,000 bytes expects no more than its words, and a longer one nothing.
pub expected-few : (text : List ℕ) → Few (expected_of text)
unfolding expected_of line_expected
expected-few text =
    let cs = take (content_length text) text in
    by-ltb 1000 (content_length text) (λ h e. rw e tt)
    (λ h e. rw e (marked-few (words cs) (omega (arith, words-few cs, take-most (content_length text) text))))
