-- A text has no more refusals and bad lines than lines, and so a count by lines that goes by these is exact for every text of at most
-- 2⁶⁴ − 1 lines. Assumes nothing.
use Prim.Native.Nat.{ℕ, ◌+◌, ◌≤◌, ◌<◌, min}
use mathlib.Core.Path.{◌≡◌, refl, ◌∙◌}
use mathlib.Core.Bool.{Bool, true, false, cond}
use mathlib.Core.List.{List}
use native.Mathlib.Omega.{arith}
use lib.ListN.{length, get_or}
use Rattle.line_buffer.specs.Lines.{text_lines}
use Rattle.replay_text.specs.Replay.{Page, page_line, first_page, last_page}
use Rattle.replay_text.specs.LastLine.{counts_of, is_bad, answered_no, over_lines}
use Rattle.replay_text.proofs.Gains.{in_line, own_alone}
use Rattle.replay_text.proofs.Order.{InOrder, line-adds-to, order-line, order-first, first-zero, over-same, sum_is}
use Rattle.replay_text.proofs.Answered.{own-refused}
use Rattle.replay_text.proofs.BadLines.{own-bad}

-- Behind so many lines.
pub record Below (lines : ℕ) (p : Page) : Type 0 where
  pub order : InOrder p
  pub refused : get_or (counts_of p) 4 0 ≤ lines
  pub bad : get_or (counts_of p) 6 0 ≤ lines

pub at_most_one : (t : Bool) → cond t 1 0 ≤ 1
at_most_one true = omega arith
at_most_one false = omega arith

pub below_next : (m : ℕ) (line : List ℕ) (p : Page) → Below m p → Below (m + 1) (page_line line p)
below_next m line p b =
    let o = b.order in
    record {
      order = order-line line p o;
      refused = omega (arith, b.refused, (line-adds-to 4 (omega arith) (omega arith) line p o).1, own_alone 4 refl refl refl line p ∙ own-refused line p o, at_most_one (answered_no line p));
      bad = omega (arith, b.bad, (line-adds-to 6 (omega arith) (omega arith) line p o).1, own_alone 6 refl refl refl line p ∙ own-bad line p, at_most_one (is_bad line p));
    }

pub below-first : (path : List ℕ) (check : Bool) → Below 0 (first_page path check)
below-first path check = record {
  order = order-first path check;
  refused = omega (arith, first-zero path check 4 (omega arith) (omega arith));
  bad = omega (arith, first-zero path check 6 (omega arith) (omega arith));
}

-- A count of the last line is the sum of what each line counts.
pub text-counts-below : (k : ℕ) (some : 2 < k) (low : k < 9) (each : List ℕ → Page → ℕ)
    → ((m : ℕ) (line : List ℕ) (p : Page) → m < 18446744073709551615 → Below m p → in_line k line p ≡ each line p)
    → (path : List ℕ) (check : Bool) (text : List ℕ) → length (text_lines text) ≤ 18446744073709551615
    → get_or (counts_of (last_page path check text)) k 0 ≡ min (over_lines each (text_lines text) (first_page path check)) 18446744073709551615
text-counts-below k some low each exact path check text few =
    sum_is k some low each path check text
    (over-same 18446744073709551615 Below (in_line k) each (λ m line p before b. (exact m line p before b, below_next m line p b))
    (text_lines text) 0 (first_page path check) (omega (arith, few))
    (below-first path check))
