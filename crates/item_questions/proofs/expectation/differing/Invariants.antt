-- `item_questions::expectation::differing` meets its contract: what was counted, and what is still to count, are all that differ.
use Rattle.std.proofs.Common.{◌≡◌, ◌+◌, ◌≤◌, drop}
use Rattle.item_questions.specs.Answers.{differing}
use Rattle.item_questions.proofs.expectation.differing.Given as goal

abbrev pub invariant-loop-wanted : goal.invariant-loop-wanted
invariant-loop-wanted l = (l.n ≤ l.wanted-index) × (l.n + differing l.m l.address (drop l.wanted-index l.words) ≡ differing l.m l.a l.words)
