-- `item_analysis::questions::lines` meets its contract.
-- Assumes nothing.
use Prim.Native.Nat.{ℕ, ◌-◌, ◌≤◌}
use mathlib.Core.List.{List, [], ◌++◌, append-nil}
use mathlib.Core.Path.{◌≡◌, ap}
use native.Mathlib.Omega.{arith}
use lib.ListN.{length, take, drop, length-drop, drop_of_length-le}
use borrow.Author.Tests.{le-leb, lt-leb}
use Rattle.item_state.proofs.Part.{rest-whole}
use Rattle.item_analysis.specs.Lines.{listed_at}
use Rattle.item_analysis.proofs.questions.lines.Goals as goal

rest-kept : (at : ℕ) (l ys : List ℕ) → take at l ++ (ys ++ drop (length l - at) (drop at l)) ≡ take at l ++ ys
rest-kept at l ys =
    let short : length (drop at l) ≤ length l - at = rw length-drop (omega arith) in
    let none : drop (length l - at) (drop at l) ≡ [] = drop_of_length-le (drop at l) short in
    rw (none, append-nil)

pub returns-then-at-answers : goal.returns-then-at-answers
unfolding listed_at
returns-then-at-answers c = let wrote = rw (rest-whole c.args.at c.args.answers.now) at c.write_listing_as.ensures.same in rw (le-leb _ _ c.if-at-answers.true, ← c.width_of.ensures, ← wrote) (ap (λ (b : List ℕ). record { answer = c.write_listing_as.result; bytes = b }) (rest-kept c.args.at c.args.answers.now _))

pub returns : goal.returns
unfolding listed_at
returns c = rw (lt-leb _ _ c.if-at-answers.false)
