-- "A line that is none of these is no call: the model stays as it was": what a bad line leaves. Assumes nothing.
use Prim.Native.Nat.{ℕ, ◌<◌}
use mathlib.Core.Path.{◌≡◌, refl}
use native.Mathlib.Omega.{arith}
use Rattle.text.specs.Text.{Text}
use Rattle.item_line.specs.Line.{Expected, Line, silent, bad, item, show, expect, read, call, ask, keep}
use Rattle.item_line.specs.Reading.{line_of}
use Rattle.item_answer.specs.Answer.{Item, Result, told, fault, call_result, keep_result}
use Rattle.item_answer.specs.Step.{Tally, Step, bad_step, compared_step, told_step, result_step, line_step, step}

-- one bad line, and nothing else
abbrev pub one_bad : Tally
one_bad = record { calls = 0; refused = 0; unannounced = 0; bad = 1; expectations = 0; differ = 0 }

-- What a step leaves: the item as it was, and every count but that of bad lines.
pub record Left (i : Item) (s : Step) : Type 0 where
  pub item : s.item ≡ i
  pub adds : s.adds ≡ one_bad

by_result : (number calls : ℕ) (x : Expected) (r : Result) (i : Item) → 0 < (result_step number calls x r i).adds.bad → Left i (result_step number calls x r i)
unfolding result_step told_step bad_step
by_result number calls x (told a) i h = absurd (omega (arith, h))
by_result number calls x (fault f) i h = record { item = refl; adds = refl }

by-line : (number : ℕ) (l : Line) (i : Item) → 0 < (line_step number l i).adds.bad → Left i (line_step number l i)
unfolding line_step compared_step told_step bad_step
by-line number silent i h = absurd (omega (arith, h))
by-line number (bad f) i h = record { item = refl; adds = refl }
by-line number (item name) i h = absurd (omega (arith, h))
by-line number show i h = absurd (omega (arith, h))
by-line number (expect a ws) i h = absurd (omega (arith, h))
by-line number (read a ws) i h = absurd (omega (arith, h))
by-line number (call c x) i h = by_result number 1 x (call_result c i) i h
by-line number (ask a x) i h = absurd (omega (arith, h))
by-line number (keep k x) i h = by_result number 0 x (keep_result k i) i h

-- A line that counts as bad leaves the item as it was, and every count but that of bad lines, which it moves on by one.
pub bad-line : (number : ℕ) (bytes : Text) (i : Item) → 0 < (step number bytes i).adds.bad → Left i (step number bytes i)
unfolding step
bad-line number bytes i h = by-line number (line_of bytes) i h
