-- `item_words_code::register_lines::put_further_lines` meets its contract: a line more in each turn.
use Prim.Native.Nat.{◌+◌, ◌-◌, ◌*◌}
use Rattle.text.specs.Text.{ended_each}
use Rattle.item_answer.specs.Words.{register_lines}
use Rattle.item_words_code.proofs.Turns.{Leads}
use Rattle.item_words_code.proofs.register_lines.put_further_lines.Given as goal

abbrev pub invariant-loop-i : goal.invariant-loop-i
invariant-loop-i l =
    Leads l.buf l.place (ended_each (register_lines l.m (184 + 8 * l.i) (9 - l.i))) l.initial.buf l.initial.place (ended_each (register_lines l.m 184 9))
