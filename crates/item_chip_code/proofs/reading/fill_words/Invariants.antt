-- `item_chip_code::reading::fill_words` meets its contract. Assumes nothing.
use Prim.Native.Nat.{◌*◌}
use mathlib.Core.List.{◌++◌}
use mathlib.Core.Path.{◌≡◌}
use lib.ListN.{take, drop}
use Rattle.item_answer.specs.Words.{words_of}
use Rattle.item_chip_code.proofs.reading.fill_words.Given as goal

abbrev pub invariant-loop-i : goal.invariant-loop-i
invariant-loop-i l = take l.i l.words ++ words_of (drop (2 * l.i) l.bytes) ≡ words_of l.bytes
