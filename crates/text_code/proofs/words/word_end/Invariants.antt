-- `text_code::words::word_end` meets its contract. The invariant: the word has begun with the bytes up to i.
use mathlib.Core.Path.{◌≡◌}
use lib.ListN.{drop}
use Rattle.text.specs.Text.{words, words_after}
use Rattle.text_code.specs.OwnWords.{between}
use Rattle.text_code.proofs.words.word_end.Given as goal

abbrev pub invariant-loop-i : goal.invariant-loop-i
invariant-loop-i l = words (drop l.start l.s) ≡ words_after (between l.start l.i l.s) (drop l.i l.s)
