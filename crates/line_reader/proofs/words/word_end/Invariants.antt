-- `line_reader::words::word_end` meets its contract. The invariant: the word has begun with the bytes up to i.
use Rattle.std.proofs.Common.{◌≡◌, drop}
use Rattle.line.specs.Words.{words, words_after, part}
use Rattle.line_reader.proofs.words.word_end.Given as goal

abbrev pub invariant-loop-i : goal.invariant-loop-i
invariant-loop-i l = words (drop l.start l.s) ≡ words_after (part l.start l.i l.s) (drop l.i l.s)
