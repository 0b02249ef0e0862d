-- `item_calls::transaction::put_write` meets its contract: a word more in each turn.
use mathlib.Core.Path.{◌≡◌}
use lib.ListN.{drop}
use Rattle.numeral.specs.Place.{put_each}
use Rattle.item_calls.specs.Lines.{word_bytes}
use Rattle.item_calls.proofs.transaction.put_write.Given as goal

abbrev pub invariant-loop-word : goal.invariant-loop-word
invariant-loop-word l = put_each l.frame l.place (word_bytes (drop l.word-index l.words)) ≡ put_each l.initial.frame l.initial.place (word_bytes l.words)
