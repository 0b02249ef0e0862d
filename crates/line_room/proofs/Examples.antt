-- The ticks of some lines and the places of the buffer, in plain numbers. Assumes nothing.
use Prim.Native.Nat.{ℕ, ◌+◌}
use mathlib.Core.Path.{◌≡◌, refl}
use mathlib.Core.Bool.{false}
use mathlib.Core.List.{List, [], ◌∷◌}
use Rattle.line.specs.declared.Content.{Content}
use Rattle.answer_text.specs.Texts.{is_listing}
use Rattle.answer_length.specs.Longest.{longest}
use Rattle.line_room.specs.Form.{ticks_of, ticks_left}

-- 40 ticks have passed since the last start: count 9.
abbrev counts : List ℕ
counts = 0 ∷ 0 ∷ 0 ∷ 0 ∷ 0 ∷ 0 ∷ 0 ∷ 0 ∷ 0 ∷ 40 ∷ 0 ∷ 0 ∷ 0 ∷ 0 ∷ 0 ∷ 0 ∷ 0 ∷ 0 ∷ 0 ∷ 0 ∷ 0 ∷ 0 ∷ []

-- `tick 1048576` is answered whole; `tick 1048577` is under way behind its first part, with one tick left.
one-part : ticks_left (Content.Tick 1048576) counts ≡ 0
unfolding ticks_left ticks_of
one-part = refl

two-parts : ticks_left (Content.Tick 1048577) counts ≡ 1
unfolding ticks_left ticks_of
two-parts = refl

-- `tick 1` has no parts.
single : ticks_of (Content.Tick 1) counts ≡ 0
unfolding ticks_of
single = refl

-- `at 100` has 60 ticks to run; `at 40` none, and no more has `at 39`, which is a bad line.
until : ticks_of (Content.At 100) counts ≡ 60
unfolding ticks_of
until = refl

reached : ticks_of (Content.At 40) counts ≡ 0
unfolding ticks_of
reached = refl

past : ticks_of (Content.At 39) counts ≡ 0
unfolding ticks_of
past = refl

-- A listing with a head of 5,143 bytes, 1,042 of a bad line's text and an item's name, which no listing has, 1,011 of words that are
-- expected, and the item's name once more.
the-longest : 5143 + (1042 + longest (Content.Listing false 1)) + 1011 + 1028 ≡ 102464
unfolding longest is_listing
the-longest = refl

-- Behind 49,152 bytes it leaves 12,224 places.
the_rest : 49152 + 102464 + 12224 ≡ 163840
the_rest = refl
