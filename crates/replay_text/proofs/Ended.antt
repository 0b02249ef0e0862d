-- The lines that have ended in what was read so far, and the start of the next one, of which 1,002 bytes at most are held. Assumes nothing.
use Prim.Native.Nat.{ℕ, ◌≤◌}
use mathlib.Core.Bool.{true, false}
use mathlib.Core.List.{List, [], ◌∷◌, ◌++◌, append-nil, append_assoc}
use mathlib.Core.Path.{◌≡◌, refl, sym, ap, ◌∙◌}
use native.Mathlib.Decide.{dec_le}
use native.Mathlib.Omega.{arith}
use lib.ListN.{length, take}
use lib.Seq.{take_all, take-take, take-append-le, length-take-le}
use Rattle.unit.proofs.Cases.{by-test}
use Rattle.line_buffer.specs.Lines.{has_line, line_of, behind_line, lines_in, rest_in, last_line, text_lines, whole_text, each_line, piece_read, pieces_read}
use Rattle.line_buffer.proofs.Pieces.{none_first, no_lines, all_rest, rest-none, none-taken, none_both, line_first, lines_cut, rest-cut, each_append}
use Rattle.replay_text.specs.Replay.{Page, page_line}
use Rattle.replay_text.proofs.Loop.{page_after}
use Rattle.replay_text.proofs.Long.{held-page, pieces-page}

-- ---- bytes without a line feed, and others behind them

-- They stand before the first line of these.
before-line : (start bytes : List ℕ) → has_line start ≡ false
    → (has_line (start ++ bytes) ≡ has_line bytes) × (line_of (start ++ bytes) ≡ start ++ line_of bytes) × (behind_line (start ++ bytes) ≡ behind_line bytes)
unfolding has_line line_of behind_line
before-line [] bytes none = (refl, refl, refl)
before-line (c ∷ cs) bytes none =
    let so = none_first c cs none in
    let later = before-line cs bytes so.1 in
    rw so.0 (later.0, ap (λ (l : List ℕ). c ∷ l) later.1, later.2)

lines-before : (start bytes : List ℕ) → has_line start ≡ false → has_line bytes ≡ true
    → (lines_in (start ++ bytes) ≡ (start ++ line_of bytes) ∷ lines_in (behind_line bytes)) × (rest_in (start ++ bytes) ≡ rest_in (behind_line bytes))
lines-before start bytes none some =
    let b = before-line start bytes none in
    let f = line_first (start ++ bytes) (b.0 ∙ some) in
    (f.0 ∙ rw (b.1, b.2), f.1 ∙ rw b.2)

-- ---- the start of a line that is held by its first 1,002 bytes

line-held : (start more : List ℕ) (p : Page) → page_line (take 1002 start ++ more) p ≡ page_line (start ++ more) p
line-held start more p = go (dec_le 1002 (length start))
  where
    go : Dec (1002 ≤ length start) → page_line (take 1002 start ++ more) p ≡ page_line (start ++ more) p
    go (yes long) = held-page start more p long
    go (no short) = rw (take_all 1002 start (omega arith))

start-held : (start more : List ℕ) → take 1002 (take 1002 start ++ more) ≡ take 1002 (start ++ more)
start-held start more = go (dec_le 1002 (length start))
  where
    go : Dec (1002 ≤ length start) → take 1002 (take 1002 start ++ more) ≡ take 1002 (start ++ more)
    go (yes long) =
        let first : length (take 1002 start) ≡ 1002 = length-take-le 1002 start long in
        take-append-le 1002 (take 1002 start) more (omega (arith, first)) ∙ take-take 1002 1002 start (omega arith)
        ∙ sym (take-append-le 1002 start more long)
    go (no short) = rw (take_all 1002 start (omega arith))

module _ (start piece : List ℕ) (none : has_line start ≡ false) where
  taken : has_line (take 1002 start) ≡ false
  taken = none-taken 1002 start none

  lines-held : (p : Page) → page_after (take 1002 start ++ piece) p ≡ page_after (start ++ piece) p
  unfolding each_line
  lines-held p =
      by-test (has_line piece)
      (λ some.
      ap (λ (ls : List (List ℕ)). each_line page_line ls p) (lines-before (take 1002 start) piece taken some).0
      ∙ (ap (each_line page_line (lines_in (behind_line piece))) (line-held start (line_of piece) p)
      ∙ sym (ap (λ (ls : List (List ℕ)). each_line page_line ls p) (lines-before start piece none some).0)))
      (λ still. rw (no_lines (take 1002 start ++ piece) (none_both (take 1002 start) piece taken still), no_lines (start ++ piece) (none_both start piece none still)))

  rest-held : take 1002 (rest_in (take 1002 start ++ piece)) ≡ take 1002 (rest_in (start ++ piece))
  rest-held =
      by-test (has_line piece)
      (λ some. ap (take 1002) ((lines-before (take 1002 start) piece taken some).1 ∙ sym (lines-before start piece none some).1))
      (λ still. rw (all_rest (take 1002 start ++ piece) (none_both (take 1002 start) piece taken still), all_rest (start ++ piece) (none_both start piece none still)) (start-held start piece))

-- ---- what was read, and a piece behind it

-- The lines that have ended with the piece are those that had ended before it, and those of the piece behind what is held.
pub ended-more : (read piece : List ℕ) (p : Page) → page_after (take 1002 (rest_in read) ++ piece) (page_after read p) ≡ page_after (read ++ piece) p
ended-more read piece p =
    lines-held (rest_in read) piece (rest-none read) (page_after read p)
    ∙ (sym (each_append page_line (lines_in read) (lines_in (rest_in read ++ piece)) p)
    ∙ ap (λ (ls : List (List ℕ)). each_line page_line ls p) (sym (lines_cut read piece)))

-- What is held then is the start of the line that goes on.
pub held_more : (read piece : List ℕ) → take 1002 (rest_in (take 1002 (rest_in read) ++ piece)) ≡ take 1002 (rest_in (read ++ piece))
held_more read piece = rest-held (rest_in read) piece (rest-none read) ∙ ap (take 1002) (sym (rest-cut read piece))

-- At the end what is held is the last line.
pub ended-last : (read : List ℕ) (p : Page) → each_line page_line (last_line (take 1002 (rest_in read))) (page_after read p) ≡ each_line page_line (text_lines read) p
unfolding pieces_read piece_read whole_text
ended-last read p = rw (append-nil read) at (pieces-page (read ∷ []) p)

-- The pieces as one text, with another behind them.
pub whole-more : (pieces : List (List ℕ)) (piece : List ℕ) → whole_text (pieces ++ (piece ∷ [])) ≡ whole_text pieces ++ piece
unfolding whole_text
whole-more [] piece = append-nil piece
whole-more (p ∷ ps) piece = rw (whole-more ps piece, ← append_assoc p (whole_text ps) piece)
