-- `line_reader::words::skip_blanks` meets its contract. The invariant: the words from i on are those from the start on.
use Rattle.std.proofs.Common.{◌≡◌, drop}
use Rattle.line.specs.Words.{words}
use Rattle.line_reader.proofs.words.skip_blanks.Given as goal

abbrev pub invariant-loop-i : goal.invariant-loop-i
invariant-loop-i l = words (drop l.i l.s) ≡ words (drop l.at l.s)
