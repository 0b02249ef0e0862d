-- The bad lines of a text. What stands in quotation marks is that of docs/ITEMS.md. Assumes nothing.
use Prim.Native.Nat.{ℕ, min}
use mathlib.Core.Path.{◌≡◌, refl, ◌∙◌}
use mathlib.Core.Bool.{Bool, cond}
use mathlib.Core.List.{List}
use native.Mathlib.Omega.{arith}
use lib.ListN.{get_or}
use Rattle.unit.proofs.Cases.{by-test}
use Rattle.line_buffer.specs.Lines.{text_lines}
use Rattle.replay_text.specs.Replay.{Page, first_page, last_page}
use Rattle.replay_text.specs.LastLine.{counts_of, read_on, is_bad, is_call_line, lines_that}
use Rattle.replay_text.proofs.Gains.{in_own, own_alone}
use Rattle.replay_text.proofs.Order.{text-counts}

pub own-bad : (line : List ℕ) (p : Page) → in_own 6 line p ≡ cond (is_bad line p) 1 0
unfolding in_own
own-bad line p =
    by-test (is_bad line p) (λ bad. rw bad)
    (λ good. by-test (is_call_line (read_on line p).content) (λ call. rw (good, call)) (λ other. rw (good, other)))

-- "B bad lines": count 6 of a text is the number of its bad lines.
pub text-bad-lines : (path : List ℕ) (check : Bool) (text : List ℕ)
    → get_or (counts_of (last_page path check text)) 6 0 ≡ min (lines_that is_bad (text_lines text) (first_page path check)) 18446744073709551615
text-bad-lines =
    text-counts 6 (omega arith) (omega arith) (λ line p. cond (is_bad line p) 1 0) (λ line p o. own_alone 6 refl refl refl line p ∙ own-bad line p)
