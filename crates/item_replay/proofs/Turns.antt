-- What each sort of turn comes to. Assumes nothing.
use Prim.Native.Nat.{ℕ, zero, suc, ◌+◌, ◌≤◌}
use native.Mathlib.Nat.{add-zero}
use native.Mathlib.Omega.{arith}
use mathlib.Core.Bool.{Bool, true, false, true≢false}
use mathlib.Core.List.{List, [], ◌∷◌, ◌++◌, append-nil, append_assoc}
use mathlib.Core.Path.{◌≡◌, refl, sym, ap, subst, ◌∙◌}
use lib.Dec.{eqb}
use lib.ListN.{length, take, drop, length-append}
use lib.Seq.{take-take, drop-append-add}
use borrow.Author.Tests.{eqb-true}
use Rattle.unit.proofs.Cases.{by-test}
use Rattle.text.specs.Text.{Text, lines_after}
use Rattle.text.proofs.Apart.{Each, none, first, InLine, line-begun}
use Rattle.item_line.specs.Reading.{line_of}
use Rattle.item_answer.specs.Answer.{Item}
use Rattle.item_answer.specs.Step.{Step, step}
use Rattle.item_replay.specs.Replay.{plus}
use Rattle.item_replay.specs.Going.{Rest, ticks, Going, steps, expected_of, rest_step, coming_after, coming, total, all_steps, Went}
use Rattle.item_replay.specs.OwnFeed.{has_feed, before_feed, after_feed}
use Rattle.item_replay.specs.OwnTurn.{held, done_with, within, Parts}
use Rattle.item_replay.proofs.Capped.{alike, alike-step}
use Rattle.item_replay.proofs.Pieces.{join-none}

-- ---- the first line feed

before-line : (t : Text) → Each InLine (before_feed t)
unfolding before_feed
before-line [] = none
before-line (c ∷ cs) = by-test (eqb c 10) (λ e. rw e none) (λ e. rw e (first e (before-line cs)))

pub no-feed : (t : Text) → has_feed t ≡ false → before_feed t ≡ t
unfolding has_feed before_feed
no-feed [] = λ e. refl
no-feed (c ∷ cs) =
    by-test (eqb c 10) (λ e. rw e (λ f. absurd (true≢false f))) (λ e. rw e (λ f. ap (λ l. c ∷ l) (no-feed cs f)))

at-feed : (t : Text) → has_feed t ≡ true → before_feed t ++ (10 ∷ after_feed t) ≡ t
unfolding has_feed before_feed after_feed
at-feed [] = λ e. absurd (true≢false (sym e))
at-feed (c ∷ cs) =
    by-test (eqb c 10)
    (λ e. rw e (λ f. ap (λ k. k ∷ cs) (sym (eqb-true c 10 e))))
    (λ e. rw e (λ f. ap (λ l. c ∷ l) (at-feed cs f)))

-- what follows the first line feed
after-feed : (t : Text) → has_feed t ≡ true → drop (length (before_feed t) + 1) t ≡ after_feed t
after-feed t h =
    ap (drop (length (before_feed t) + 1)) (sym (at-feed t h)) ∙ drop-append-add (before_feed t) (10 ∷ after_feed t) 1

within-feed : (t : Text) → has_feed t ≡ true → length (before_feed t) + 1 ≤ length t
within-feed t h =
    let e : length t ≡ length (before_feed t) + suc (length (after_feed t)) = ap length (sym (at-feed t h)) ∙ length-append (before_feed t) (10 ∷ after_feed t) in omega arith

drop-length : (t : Text) → drop (length t) t ≡ []
drop-length [] = refl
drop-length (c ∷ cs) = drop-length cs

all-line : (t : Text) → has_feed t ≡ false → Each InLine t
all-line t h = subst (Each InLine) (no-feed t h) (before-line t)

-- ---- turns

-- after a line that is done nothing has begun
goes_on : (g : Going) (s : Step) (more : Text)
    → all_steps [] [] (coming (done_with g s) more) ≡ steps (g.number + 1) (lines_after [] more) s.item
unfolding coming coming_after
goes_on g s more = join-none (steps (g.number + 1) (lines_after [] more) s.item)

-- a step in two parts, before what follows it
parts_same : (s : Step) (part : Text) (left : Step) → Parts s part left → (rest : Item → List Step)
    → s ∷ rest s.item ≡ all_steps [] part (left ∷ rest left.item)
unfolding all_steps
parts_same s part left p rest = rw (p.text, p.item, p.adds)

-- the step of a line that ends, by the bytes that are kept of it
ended-line : (n : ℕ) → 1002 ≤ n → (g : Going) (line more : Text)
    → let s = step g.number (take n (g.begun ++ line)) g.item in
    steps g.number (lines_after (g.begun ++ line) (10 ∷ more)) g.item ≡ s ∷ steps (g.number + 1) (lines_after [] more) s.item
unfolding lines_after steps
ended-line n most g line more =
    rw (alike-step n most g.number (g.begun ++ line) (take n (g.begun ++ line)) g.item (sym (take-take n n (g.begun ++ line) (omega arith))))

-- The bytes of a piece without a line feed go to the line that has begun, as far as they are kept.
pub went-held : (n : ℕ) → 1002 ≤ n → (g : Going) (piece : Text) → g.rest ≡ Rest.none → has_feed piece ≡ false
    → Went g piece (length piece) [] [] (held g (take n (g.begun ++ piece)))
unfolding coming coming_after total
went-held n most g piece quiet h = record {
  steps = λ more.
      rw (quiet, drop-length piece)
      (ap (λ ls. steps g.number ls g.item) (line-begun g.begun piece more (all-line piece h))
      ∙ (alike n most more g.number (g.begun ++ piece) (take n (g.begun ++ piece)) g.item (sym (take-take n n (g.begun ++ piece) (omega arith)))
      ∙ sym (join-none (steps g.number (lines_after (take n (g.begun ++ piece)) more) g.item))));
  tally = refl;
  most = omega arith;
}

-- where a line ends, what comes is its step and then what follows
line-comes : (n : ℕ) → 1002 ≤ n → (g : Going) (piece more : Text) → g.rest ≡ Rest.none → has_feed piece ≡ true
    → let s = step g.number (take n (g.begun ++ before_feed piece)) g.item in
    coming g (piece ++ more) ≡ s ∷ steps (g.number + 1) (lines_after [] (after_feed piece ++ more)) s.item
unfolding coming coming_after
line-comes n most g piece more quiet h =
    let s = step g.number (take n (g.begun ++ before_feed piece)) g.item in
    rw quiet
    (ap (λ t. steps g.number (lines_after g.begun (t ++ more)) g.item) (sym (at-feed piece h))
    ∙ (ap (λ t. steps g.number (lines_after g.begun t) g.item) (append_assoc (before_feed piece) (10 ∷ after_feed piece) more)
    ∙ (ap (λ ls. steps g.number ls g.item) (line-begun g.begun (before_feed piece) (10 ∷ (after_feed piece ++ more)) (before-line piece))
    ∙ ended-line n most g (before_feed piece) (after_feed piece ++ more))))

-- A line that ends is answered.
pub went_line : (n : ℕ) → 1002 ≤ n → (g : Going) (piece : Text) → g.rest ≡ Rest.none → has_feed piece ≡ true
    → let s = step g.number (take n (g.begun ++ before_feed piece)) g.item in
    Went g piece (length (before_feed piece) + 1) (s ∷ []) [] (done_with g s)
unfolding total all_steps
went_line n most g piece quiet h =
    let s = step g.number (take n (g.begun ++ before_feed piece)) g.item in record {
      steps = λ more.
          line-comes n most g piece more quiet h
          ∙ rw (after-feed piece h)
          (ap (λ ss. s ∷ ss) (sym (goes_on g s (after_feed piece ++ more))));
      tally = refl;
      most = within-feed piece h;
    }

-- A line of ticks that ends is begun, and is under way.
pub went-begun : (n : ℕ) → 1002 ≤ n → (g : Going) (piece : Text) → g.rest ≡ Rest.none → has_feed piece ≡ true
    → (part : Text) (i : Item) (left next : ℕ) (differs : Bool)
    → let line = take n (g.begun ++ before_feed piece) in
    Parts (step g.number line g.item) part (rest_step left next differs (expected_of (line_of line)) i)
    → Went g piece (length (before_feed piece) + 1) [] part (within g line i left next differs)
unfolding total all_steps coming coming_after
went-begun n most g piece quiet h part i left next differs p =
    let line = take n (g.begun ++ before_feed piece) in
    let r = rest_step left next differs (expected_of (line_of line)) i in record {
      steps = λ more.
          line-comes n most g piece more quiet h
          ∙ rw (after-feed piece h)
          (parts_same (step g.number line g.item) part r p (λ j. steps (g.number + 1) (lines_after [] (after_feed piece ++ more)) j));
      tally = refl;
      most = within-feed piece h;
    }

-- Some more of its ticks have run.
pub went-more : (g : Going) (piece : Text) (left next : ℕ) (differs : Bool) → g.rest ≡ ticks left next differs
    → (part : Text) (i : Item) (left' next' : ℕ)
    → let x = expected_of (line_of g.begun) in
    Parts (rest_step left next differs x g.item) part (rest_step left' next' differs x i)
    → Went g piece 0 [] part (within g g.begun i left' next' differs)
unfolding total all_steps coming coming_after
went-more g piece left next differs under part i left' next' p =
    let x = expected_of (line_of g.begun) in record {
      steps = λ more.
          rw under
          (parts_same (rest_step left next differs x g.item) part (rest_step left' next' differs x i) p
          (λ j. steps (g.number + 1) (lines_after [] (piece ++ more)) j));
      tally = refl;
      most = omega arith;
    }

-- All of them have.
pub went-over : (g : Going) (piece : Text) (left next : ℕ) (differs : Bool) → g.rest ≡ ticks left next differs
    → let s = rest_step left next differs (expected_of (line_of g.begun)) g.item in Went g piece 0 (s ∷ []) [] (done_with g s)
unfolding total all_steps coming coming_after
went-over g piece left next differs under =
    let s = rest_step left next differs (expected_of (line_of g.begun)) g.item in record {
      steps = λ more. rw under (ap (λ ss. s ∷ ss) (sym (join-none (steps (g.number + 1) (lines_after [] (piece ++ more)) s.item))));
      tally = refl;
      most = omega arith;
    }
