-- The last line of a text tells the numbers of its lines that it should. What stands in quotation marks is that of docs/ITEMS.md. Assumes nothing.
use Prim.Native.Nat.{ℕ, ◌≤◌, min}
use mathlib.Core.Path.{◌≡◌, refl, ◌∙◌}
use mathlib.Core.Bool.{false}
use mathlib.Core.List.{List, [], ◌∷◌, ◌++◌}
use lib.ListN.{length, get_or}
use borrow.Author.Tests.{eq-eqb}
use Rattle.numeral.specs.Place.{joined}
use Rattle.line_buffer.specs.Lines.{text_lines, each_line}
use Rattle.wording.specs.Wording.{calls, faults}
use Rattle.session.specs.Ends.{counts_begun, last_texts}
use Rattle.replay_text.specs.Replay.{Page, page_line, first_page, last_page, last_text}
use Rattle.replay_text.specs.LastLine.{counts_of, is_bad, was_call, answered_no, is_unannounced, expectations, differences, over_lines, lines_that}
use Rattle.replay_text.proofs.Text.{check-left}
use Rattle.replay_text.proofs.Order.{InOrder, order-line, order-first}
use Rattle.replay_text.proofs.Calls.{text-calls}
use Rattle.replay_text.proofs.Answered.{text-answered-no}
use Rattle.replay_text.proofs.BadLines.{text-bad-lines}
use Rattle.replay_text.proofs.Expectations.{text-expectations, text-differences, text-unannounced}

-- the largest number that fits stands for all above it
abbrev pub capped : ℕ → ℕ
capped n = min n 18446744073709551615

lines-check : (ls : List (List ℕ)) (p : Page) → InOrder p → get_or (counts_of (each_line page_line ls p)) 14 0 ≡ get_or (counts_of p) 14 0
unfolding each_line
lines-check [] p o = refl
lines-check (l ∷ ls) p o = lines-check ls (page_line l p) (order-line l p o) ∙ check-left l p o.long

module _ (path text : List ℕ) where
  abbrev start : Page
  start = first_page path false

  outside : get_or (counts_of (last_page path false text)) 14 0 ≡ 0
  unfolding last_page first_page counts_begun
  outside = lines-check (text_lines text) start (order-first path false)

  -- "`end C calls, R refused, U unannounced, B bad lines, E expectations, X differ`", of every text of at most 2⁶⁴ − 1 lines.
  pub last_line : length (text_lines text) ≤ 18446744073709551615
      → let ls = text_lines text in
      last_text (counts_of (last_page path false text))
      ≡ joined
      (calls (capped (lines_that was_call ls start)) (capped (lines_that answered_no ls start)) (capped (lines_that is_unannounced ls start))
      ++ faults (capped (lines_that is_bad ls start)) (capped (over_lines expectations ls start)) (capped (over_lines differences ls start)))
  unfolding last_text last_texts
  last_line few =
      rw (eq-eqb (get_or (counts_of (last_page path false text)) 14 0) 0 outside, text-calls path false text, text-answered-no path false text, text-unannounced path false text few, text-bad-lines path false text, text-expectations path false text few, text-differences path false text few)
