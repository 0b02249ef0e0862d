-- Lines that are too long, and a text that is read in pieces. Assumes nothing.
use Prim.Native.Nat.{ℕ, ◌+◌, ◌-◌, ◌≤◌, ◌<◌}
use mathlib.Core.Bool.{Bool, true, false, cond}
use mathlib.Core.List.{List, [], ◌++◌}
use mathlib.Core.Path.{◌≡◌}
use native.Mathlib.Omega.{arith}
use lib.Dec.{eqb}
use lib.ListN.{length, get_or, take, length-append}
use lib.Seq.{length-take-le}
use borrow.Author.Tests.{lt-ltb}
use Rattle.line.specs.Line.{content_length, line_reading, line_expected}
use Rattle.line_buffer.specs.Lines.{each_line, pieces_read, text_lines, whole_text}
use Rattle.line_buffer.proofs.Pieces.{pieces-alike}
use Rattle.item_checks.specs.Fault.{is_fault, left_of}
use Rattle.item_checks.specs.Open.{is_item}
use Rattle.item_checks.specs.Close.{expected_of}
use Rattle.line_text.specs.Text.{item_told, names_after}
use Rattle.replay_text.specs.Replay.{Page, opening, own_whole, done_whole, content_page, page_line}

-- A line of more than 1,000 bytes is bad, whatever they are: no byte of it makes a difference.
pub too-long-page : (line line' : List ℕ) (p : Page) → 1000 < content_length line → 1000 < content_length line'
    → page_line line p ≡ page_line line' p
unfolding page_line content_page own_whole done_whole opening item_told names_after line_reading line_expected expected_of left_of is_fault is_item
too-long-page line line' p long long' = rw (lt-ltb 1000 (content_length line) long, lt-ltb 1000 (content_length line') long')

-- Of a line's bytes one at most is a carriage return that does not count.
content-long : (line : List ℕ) → length line ≤ content_length line + 1
unfolding content_length
content-long line = go (eqb (get_or line (length line - 1) 0) 13)
  where
    go : (t : Bool) → length line ≤ cond t (length line - 1) (length line) + 1
    go true = omega arith
    go false = omega arith

-- So of a line that is held by its first 1,002 bytes the rest makes no difference
pub held-page : (start more : List ℕ) (p : Page) → 1002 ≤ length start
    → page_line (take 1002 start ++ more) p ≡ page_line (start ++ more) p
held-page start more p long =
    let first : length (take 1002 start) ≡ 1002 = length-take-le 1002 start long in
    too-long-page (take 1002 start ++ more) (start ++ more) p
    (omega (arith, content-long (take 1002 start ++ more), length-append (take 1002 start) more, first))
    (omega (arith, content-long (start ++ more), length-append start more))

-- and what is left of a text that is read in pieces is what its lines leave, wherever a piece ends.
pub pieces-page : (ps : List (List ℕ)) (p : Page)
    → pieces_read page_line ps record { state = p; held = [] } ≡ each_line page_line (text_lines (whole_text ps)) p
pieces-page ps p = pieces-alike page_line held-page ps p
