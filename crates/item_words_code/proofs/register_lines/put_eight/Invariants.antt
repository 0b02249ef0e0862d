-- `item_words_code::register_lines::put_eight` meets its contract: a word more in each turn.
use Prim.Native.Nat.{◌+◌, ◌-◌}
use mathlib.Core.List.{map}
use Rattle.text.specs.Text.{spaced_each}
use Rattle.item_page.specs.Row.{word}
use Rattle.item_answer.specs.Words.{registers}
use Rattle.item_words_code.proofs.Turns.{Leads}
use Rattle.item_words_code.proofs.register_lines.put_eight.Given as goal

abbrev pub invariant-loop-address : goal.invariant-loop-address
invariant-loop-address l = Leads l.buf l.place (spaced_each (map word (registers l.m l.address (l.a + 8 - l.address)))) l.initial.buf l.initial.place (spaced_each (map word (registers l.m l.a 8)))
