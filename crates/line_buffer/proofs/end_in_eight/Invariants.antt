-- `line_buffer::end_in_eight` meets its contract. The invariant: no line feed stands before the place.
use Rattle.std.proofs.Common.{◌≡◌, ◌+◌}
use Rattle.line_buffer.specs.Lines.{line_end}
use Rattle.line_buffer.proofs.end_in_eight.Given as goal

abbrev pub invariant-loop-k : goal.invariant-loop-k
invariant-loop-k l = line_end l.i l.bytes ≡ line_end (l.i + l.k) l.bytes
