-- `phrase::question::put_words` meets its contract: a word more in each turn.
use Rattle.std.proofs.Common.{◌≡◌, length, drop}
use Rattle.numeral.specs.Place.{put_each}
use Rattle.wording.specs.Wording.{word_texts}
use Rattle.phrase.proofs.question.put_words.Given as goal

abbrev pub invariant-loop-word : goal.invariant-loop-word
invariant-loop-word l =
    (length l.out ≡ length l.initial.out) × (put_each l.out l.place (word_texts (drop l.word-index l.words)) ≡ put_each l.initial.out l.initial.place (word_texts l.words))
