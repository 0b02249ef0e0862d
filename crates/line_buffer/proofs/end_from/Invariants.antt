-- `line_buffer::end_from` meets its contract.
use mathlib.Core.Path.{◌≡◌}
use Rattle.line_buffer.specs.Lines.{line_end}
use Rattle.line_buffer.proofs.end_from.Given as goal

abbrev pub invariant-loop-i : goal.invariant-loop-i
invariant-loop-i l = line_end l.at l.bytes ≡ line_end l.i l.bytes
