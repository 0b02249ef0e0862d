-- Of a line no more than 1,002 bytes are looked at: with more it is too long, however it goes on. Assumes nothing.
use Prim.Native.Nat.{ℕ, zero, suc, ◌+◌, ◌≤◌}
use native.Mathlib.Omega.{arith}
use mathlib.Core.Bool.{true}
use mathlib.Core.List.{List, [], ◌∷◌, ◌++◌}
use mathlib.Core.Path.{◌≡◌, refl, sym, ap, ◌∙◌}
use lib.Dec.{eqb, ltb}
use lib.ListN.{length, take}
use lib.Seq.{length-take-le, take_all}
use borrow.Author.Tests.{lt-ltb}
use Rattle.unit.proofs.Cases.{by-test, by-leb}
use Rattle.text.specs.Text.{Text, without_return, begun_before, lines_after}
use Rattle.item_line.specs.Reading.{line_of}
use Rattle.item_answer.specs.Answer.{Item}
use Rattle.item_answer.specs.Step.{Step, step}
use Rattle.item_replay.specs.Going.{steps}

-- The carriage return is one byte at most.
return-one : (t : Text) → length t ≤ length (without_return t) + 1
unfolding without_return
return-one [] = omega arith
return-one (c ∷ []) = by-test (eqb c 13) (λ e. rw e (omega arith)) (λ e. rw e (omega arith))
return-one (c ∷ d ∷ cs) = let h = return-one (d ∷ cs) in omega arith

long : (t : Text) → 1002 ≤ length t → ltb 1000 (length (without_return t)) ≡ true
long t h = let r = return-one t in lt-ltb 1000 (length (without_return t)) (omega arith)

-- A line, and the same without what is past its first n bytes.
pub capped : (n : ℕ) → 1002 ≤ n → (t : Text) → line_of (take n t) ≡ line_of t
unfolding line_of
capped n most t =
    by-leb n (length t)
    (λ h e. rw (long t (omega arith), long (take n t) (rw (length-take-le n t h) most)))
    (λ h e. rw (take_all n t (omega arith)))

-- ---- lines that agree so far

take_again : (n : ℕ) (xs ys : Text) → take n (take n xs ++ ys) ≡ take n (xs ++ ys)
take_again zero xs ys = refl
take_again (suc n) [] ys = refl
take_again (suc n) (x ∷ xs) ys = ap (λ l. x ∷ l) (take_again n xs ys)

-- Two lines that are the same up to the place n go on so.
alike-on : (n : ℕ) (a b more : Text) → take n a ≡ take n b → take n (a ++ more) ≡ take n (b ++ more)
alike-on n a b more e = sym (take_again n a more) ∙ (ap (λ l. take n (l ++ more)) e ∙ take_again n b more)

pub alike-step : (n : ℕ) → 1002 ≤ n → (number : ℕ) (a b : Text) (i : Item) → take n a ≡ take n b → step number a i ≡ step number b i
unfolding step
alike-step n most number a b i e =
    let same : line_of a ≡ line_of b = sym (capped n most a) ∙ (ap line_of e ∙ capped n most b) in rw same

alike-last : (n : ℕ) → 1002 ≤ n → (number : ℕ) (a b : Text) (i : Item) → take n a ≡ take n b → steps number (begun_before a []) i ≡ steps number (begun_before b []) i
unfolding begun_before steps
alike-last n most number [] [] i e = refl
alike-last (suc n) most number [] (c ∷ b) i e = absurd (let z : 0 ≡ suc (length (take n b)) = ap length e in omega arith)
alike-last (suc n) most number (c ∷ a) [] i e = absurd (let z : suc (length (take n a)) ≡ 0 = ap length e in omega arith)
alike-last zero most number [] (c ∷ b) i e = absurd (omega arith)
alike-last zero most number (c ∷ a) [] i e = absurd (omega arith)
alike-last n most number (c ∷ a) (d ∷ b) i e = rw (alike-step n most number (c ∷ a) (d ∷ b) i e)

-- What lines come to where the one that has begun is kept to its first n bytes.
pub alike : (n : ℕ) → 1002 ≤ n → (text : Text) (number : ℕ) (a b : Text) (i : Item) → take n a ≡ take n b
    → steps number (lines_after a text) i ≡ steps number (lines_after b text) i
unfolding lines_after steps
alike n most [] number a b i e = alike-last n most number a b i e
alike n most (c ∷ cs) number a b i e =
    by-test (eqb c 10)
    (λ f. rw (f, alike-step n most number a b i e))
    (λ f. rw f (alike n most cs number (a ++ (c ∷ [])) (b ++ (c ∷ [])) i (alike-on n a b (c ∷ []) e)))
