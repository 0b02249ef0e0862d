-- `show::row::page_words` meets its contract: a word more in each turn.
use Rattle.std.proofs.Common.{◌≡◌, ℕ, ◌+◌, ◌<◌, length, get_or}
use Rattle.item_state.specs.Told.{read_word}
use Rattle.show.proofs.row.page_words.Given as goal

abbrev pub invariant-loop-i : goal.invariant-loop-i
invariant-loop-i l = (length l.words ≡ 80) × ((k : ℕ) → k < l.i → get_or l.words k 0 ≡ read_word l.m (176 + k))
