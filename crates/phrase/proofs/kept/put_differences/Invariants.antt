-- `phrase::kept::put_differences` meets its contract: a difference more in each turn.
use Rattle.std.proofs.Common.{◌≡◌, length, drop}
use Rattle.numeral.specs.Place.{put_each}
use Rattle.wording.specs.Wording.{difference_texts}
use Rattle.phrase.proofs.kept.put_differences.Given as goal

abbrev pub invariant-loop-word : goal.invariant-loop-word
invariant-loop-word l =
    (length l.out ≡ length l.initial.out) × (put_each l.out l.place (difference_texts (drop l.word-index l.words)) ≡ put_each l.initial.out l.initial.place (difference_texts l.words))
