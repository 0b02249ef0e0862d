-- `item_questions::expectation::put_differing` meets its contract: a word more in each turn.
use Rattle.std.proofs.Common.{◌≡◌, drop}
use Rattle.numeral.specs.Place.{put_each}
use Rattle.item_questions.specs.Answers.{pairs}
use Rattle.item_questions.proofs.expectation.put_differing.Given as goal

abbrev pub invariant-loop-wanted : goal.invariant-loop-wanted
invariant-loop-wanted l = put_each l.out l.place (pairs l.m l.address (drop l.wanted-index l.words)) ≡ put_each l.initial.out l.at (pairs l.m l.a l.words)
