-- `item_questions::register_lines::put_registers` meets its contract: a line more in each turn.
use Rattle.std.proofs.Common.{◌≡◌, ◌+◌, ◌-◌, ◌*◌}
use Rattle.numeral.specs.Place.{put_each}
use Rattle.item_questions.specs.Answers.{rows, registers}
use Rattle.item_questions.proofs.register_lines.put_registers.Given as goal

abbrev pub invariant-loop-i : goal.invariant-loop-i
invariant-loop-i l = put_each l.answers l.place (rows l.m (176 + 8 * l.i) (10 - l.i)) ≡ put_each l.initial.answers l.at (registers l.m)
