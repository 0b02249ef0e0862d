-- `item_page_code::words::page_words` meets its contract: a word more in each turn.
use Prim.Native.Nat.{ℕ, ◌+◌, ◌<◌}
use mathlib.Core.Path.{◌≡◌}
use lib.ListN.{length, get_or}
use Rattle.device.specs.Registers.{register_word}
use Rattle.item_page_code.proofs.words.page_words.Given as goal

abbrev pub invariant-loop-i : goal.invariant-loop-i
invariant-loop-i l = (length l.words ≡ 80) × ((k : ℕ) → k < l.i → get_or l.words k 0 ≡ register_word l.m (176 + k))
