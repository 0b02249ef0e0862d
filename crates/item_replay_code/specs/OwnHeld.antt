-- The bytes of a line that are kept until it ends. Assumes nothing.
use Rattle.std.specs.Prelude.{ℕ, ◌+◌, ◌≤◌, ◌<◌, true, false, ◌++◌, ◌≡◌, length, take, drop}
use Rattle.text.specs.Text.{Text}
use Rattle.item_replay.specs.OwnFeed.{has_feed, before_feed}
use Rattle.item_replay_code.specs.declared.Held.{Held}

-- The bytes kept, and those after them, as far as they are kept.
abbrev pub kept_of : Text → ℕ → Text → Text
kept_of line begun more = take 1002 (take begun line ++ more)

pub record Copied (more line : Text) (begun : ℕ) (r : ℕ) (line' : Text) : Type 0 where
  pub bytes : take r line' ≡ kept_of line begun more
  pub most : r ≤ 1002

-- The line that goes on at a place ends at another.
pub record Ends (text : Text) (from end : ℕ) : Type 0 where
  pub low : from ≤ end
  pub high : end ≤ length text
  pub before : end ≡ from + length (before_feed (drop from text))
  pub some : end < length text → has_feed (drop from text) ≡ true
  pub none : length text ≤ end → has_feed (drop from text) ≡ false

pub record Holds (text : Text) (from : ℕ) (line : Text) (begun : ℕ) (r : Held) (line' : Text) : Type 0 where
  pub bytes : take r.begun line' ≡ kept_of line begun (before_feed (drop from text))
  pub most : r.begun ≤ 1002
  pub whole : r.whole ≡ has_feed (drop from text)
  pub next : r.whole ≡ true → r.next ≡ from + (length (before_feed (drop from text)) + 1)
  pub over : r.whole ≡ false → r.next ≡ length text
  pub high : r.next ≤ length text
