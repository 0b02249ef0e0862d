-- `item_keep_code::differences::put_each` meets its contract: a difference more in each turn.
use mathlib.Core.List.{map}
use lib.ListN.{drop}
use Rattle.difference.specs.Difference.{signed_of}
use Rattle.text.specs.Text.{spaced_each}
use Rattle.item_answer.specs.Words.{quanta}
use Rattle.item_keep_code.proofs.Printing.{Completes}
use Rattle.item_keep_code.proofs.differences.put_each.Given as goal

abbrev pub invariant-loop-word : goal.invariant-loop-word
invariant-loop-word l = Completes l.buf l.place (spaced_each (map quanta (map signed_of (drop l.word-index l.words)))) l.initial.buf l.at (spaced_each (map quanta (map signed_of l.words)))
