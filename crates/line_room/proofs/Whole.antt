-- The law on the text of a whole line holds of every line, wherever what is kept is in form. Assumes nothing.
use Prim.Native.Nat.{ℕ, ◌+◌, ◌≤◌}
use mathlib.Core.Path.{◌≡◌}
use mathlib.Core.List.{List, ◌++◌}
use native.Mathlib.Omega.{arith}
use lib.ListN.{get_or}
use Rattle.line.specs.declared.Content.{Content}
use Rattle.line.specs.Line.{line_reading}
use Rattle.item_checks.specs.Close.{expected_of}
use Rattle.session.specs.Line.{Replay, line_answered}
use Rattle.line_text.specs.Text.{line_text}
use Rattle.line_text.proofs.Text.{text_of, Begins, Whole, line-text}
use Rattle.line_room.specs.Form.{InForm, NumbersFit, ticks_of}
use Rattle.line_room.proofs.Ticks.{own-after}
use Rattle.line_room.proofs.Room.{room}

module _ (text numbers : List ℕ) (r : Replay) (i : InForm r) (f : NumbersFit numbers) where
  abbrev content : Content
  content = (line_reading numbers text).content

  abbrev read : List ℕ
  read = (line_reading numbers text).numbers

  abbrev before : List ℕ
  before = r.state.log.counts

  -- Before any line there is room for it, and what else the law asks of a line's start.
  pub begin-line : get_or before 0 0 ≤ 49152 → get_or before 21 0 ≡ 0 → Begins content (expected_of text) text read r
  begin-line used none = record {
    counts = i.counts;
    room = rw i.places (room text numbers r i f used);
    small = rw i.places (omega arith);
    fit = i.fit;
    before = none;
  }

  module _ (used : get_or before 0 0 ≤ 49152) (none : get_or before 21 0 ≡ 0) (few : ticks_of content before ≤ 1048576) where
    -- All that the law asks holds: there is room, and no line is under way, before this one or after it.
    pub whole : Whole content (expected_of text) text read r
    whole = record {
      counts = i.counts;
      room = rw i.places (room text numbers r i f used);
      small = rw i.places (omega arith);
      fit = i.fit;
      before = none;
      after = own-after content text read r i.counts none few;
    }

    -- So what is written after a line, whatever its bytes are, is what was written before it, and then its text.
    pub line-adds : text_of (line_answered text numbers r) ≡ text_of r ++ line_text content (expected_of text) text read r
    line-adds = line-text text numbers r whole
