-- `item_words_code::kept::put_bytes` meets its contract: a byte more in each turn.
use mathlib.Core.List.{map}
use lib.ListN.{drop}
use Rattle.numeral.specs.Digit.{digits}
use Rattle.text.specs.Text.{spaced_each}
use Rattle.item_words_code.proofs.Turns.{Leads}
use Rattle.item_words_code.proofs.kept.put_bytes.Given as goal

abbrev pub invariant-loop-byte : goal.invariant-loop-byte
invariant-loop-byte l =
    Leads l.buf l.place (spaced_each (map (digits 16 2) (drop l.byte-index l.bytes))) l.initial.buf l.initial.place (spaced_each (map (digits 16 2) l.bytes))
