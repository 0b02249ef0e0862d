-- What a line adds to the counts is little. Assumes nothing.
use Prim.Native.Nat.{ℕ, ◌+◌, ◌≤◌}
use Prim.Native.String.{String}
use native.Mathlib.Omega.{arith}
use mathlib.Core.Bool.{Bool}
use mathlib.Core.List.{List, [], ◌∷◌, ◌++◌}
use mathlib.Core.Path.{◌≡◌}
use lib.ListN.{length}
use Rattle.unit.specs.Choice.{both, negate}
use Rattle.unit.proofs.Cases.{by-test}
use Rattle.device.specs.Reply.{flag}
use Rattle.text.specs.Text.{Text, fits, is}
use Rattle.item_page.specs.Row.{word}
use Rattle.item_line.specs.Line.{Fault, Expected, Wanted, Line}
use Rattle.item_line.specs.Reading.{line_of}
use Rattle.item_line.specs.OwnBounds.{LineBound}
use Rattle.item_line.proofs.Bounds.{line-bound}
use Rattle.item_answer.specs.Words.{difference, differences}
use Rattle.item_answer.specs.Answer.{Item, Told, Result, told, fault}
use Rattle.item_answer.specs.Step.{Tally, no_tally, agrees, disagrees, expects, bad_step, expectations, compared_step, told_step, result_step, line_step, step}

-- No count is above 80.
pub record Few (t : Tally) : Type 0 where
  pub calls : t.calls ≤ 80
  pub refused : t.refused ≤ 80
  pub unannounced : t.unannounced ≤ 80
  pub bad : t.bad ≤ 80
  pub expectations : t.expectations ≤ 80
  pub differ : t.differ ≤ 80

flag-few : (b : Bool) → flag b ≤ 80
flag-few b = by-test b (λ e. rw e (omega arith)) (λ e. rw e (omega arith))

flag-most : (b : Bool) → flag b ≤ 1
flag-most b = by-test b (λ e. rw e (omega arith)) (λ e. rw e (omega arith))

expectations-few : (ws : List Wanted) → expectations ws ≤ length ws
unfolding expectations
expectations-few [] = omega arith
expectations-few (w ∷ ws) = let h = expectations-few ws in let f = flag-most (negate (is "xxxx" w)) in omega arith

differences-few : (at : ℕ) (has : List ℕ) (ws : List Wanted) → length (differences at has ws) ≤ length ws
unfolding differences difference
differences-few at [] [] = omega arith
differences-few at [] (p ∷ ps) = omega arith
differences-few at (h ∷ hs) [] = omega arith
differences-few at (h ∷ hs) (p ∷ ps) =
    let l = differences-few (at + 1) hs ps in
    by-test (fits p (word h)) (λ e. rw e (omega arith)) (λ e. rw e (omega arith))

compared-few : (keyword : String) (calls a : ℕ) (has : List ℕ) (ws : List Wanted) (i : Item) → calls ≤ 1 → length ws ≤ 80 → Few (compared_step keyword calls a has ws i).adds
unfolding compared_step
compared-few keyword calls a has ws i c h =
    let e = expectations-few ws in
    let d = differences-few a has ws in
    record { calls = omega arith; refused = omega arith; unannounced = omega arith; bad = omega arith; expectations = omega arith; differ = omega arith }

told-few : (calls : ℕ) (x : Expected) (a : Told) → calls ≤ 1 → Few (told_step calls x a).adds
unfolding told_step
told-few calls x a c = record {
  calls = omega arith;
  refused = flag-few a.refused;
  unannounced = flag-few (both a.refused (negate (agrees x a.line)));
  bad = omega arith;
  expectations = flag-few (expects x);
  differ = flag-few (disagrees x a.line);
}

bad-few : (number : ℕ) (f : Fault) (i : Item) → Few (bad_step number f i).adds
unfolding bad_step
bad-few number f i =
    record { calls = omega arith; refused = omega arith; unannounced = omega arith; bad = omega arith; expectations = omega arith; differ = omega arith }

result-few : (number calls : ℕ) (x : Expected) (r : Result) (i : Item) → calls ≤ 1 → Few (result_step number calls x r i).adds
unfolding result_step
result-few number calls x (told a) i c = told-few calls x a c
result-few number calls x (fault f) i c = bad-few number f i

nothing : Few no_tally
nothing =
    record { calls = omega arith; refused = omega arith; unannounced = omega arith; bad = omega arith; expectations = omega arith; differ = omega arith }

line-few : (number : ℕ) (l : Line) (i : Item) → LineBound l → Few (line_step number l i).adds
unfolding line_step
line-few number l i LineBound.silent = nothing
line-few number l i LineBound.bad = bad-few number _ i
line-few number l i (LineBound.item h) = nothing
line-few number l i LineBound.show = nothing
line-few number l i (LineBound.expect low high some fours) = compared-few "expect" 0 _ _ _ i (omega arith) (omega arith)
line-few number l i (LineBound.read low high some fours) = compared-few "read" 1 _ _ _ _ (omega arith) (omega arith)
line-few number l i (LineBound.call c x) = result-few number 1 _ _ i (omega arith)
line-few number l i (LineBound.ask x) = told-few 0 _ _ (omega arith)
line-few number l i (LineBound.keep k x) = result-few number 0 _ _ i (omega arith)

-- What every line adds.
pub step-few : (number : ℕ) (bytes : Text) (i : Item) → Few (step number bytes i).adds
unfolding step
step-few number bytes i = line-few number (line_of bytes) i (line-bound bytes)
