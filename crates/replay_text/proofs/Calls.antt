-- The calls of a text. What stands in quotation marks is that of docs/ITEMS.md. Assumes nothing.
use Prim.Native.Nat.{ℕ, min}
use mathlib.Core.Path.{◌≡◌, refl, ◌∙◌}
use mathlib.Core.Bool.{Bool, cond}
use mathlib.Core.List.{List}
use native.Mathlib.Omega.{arith}
use lib.ListN.{get_or}
use Rattle.unit.proofs.Cases.{by-test}
use Rattle.line_buffer.specs.Lines.{text_lines}
use Rattle.replay_text.specs.Replay.{Page, first_page, last_page}
use Rattle.replay_text.specs.LastLine.{counts_of, read_on, is_bad, is_call_line, was_call, lines_that}
use Rattle.replay_text.proofs.Gains.{in_own, own_alone}
use Rattle.replay_text.proofs.Order.{text-counts}

own-called : (line : List ℕ) (p : Page) → in_own 3 line p ≡ cond (was_call line p) 1 0
unfolding in_own was_call
own-called line p =
    by-test (is_bad line p) (λ bad. rw bad)
    (λ good. by-test (is_call_line (read_on line p).content) (λ call. rw (good, call)) (λ other. rw (good, other)))

-- "C counts the lines `bus`, `set`, `tick`, `at`, `stretch`, `flight`, `temperature`, `frames`, `degrees`, `listing` and `quietest` that were
-- calls": count 3 of a text is the number of these lines that are not bad.
pub text-calls : (path : List ℕ) (check : Bool) (text : List ℕ)
    → get_or (counts_of (last_page path check text)) 3 0 ≡ min (lines_that was_call (text_lines text) (first_page path check)) 18446744073709551615
text-calls =
    text-counts 3 (omega arith) (omega arith) (λ line p. cond (was_call line p) 1 0) (λ line p o. own_alone 3 refl refl refl line p ∙ own-called line p)
