-- A list of calls in plain numbers. Assumes nothing.
use Prim.Native.Nat.{ℕ}
use mathlib.Core.Bool.{true, false}
use mathlib.Core.List.{List, [], ◌∷◌, ◌++◌}
use mathlib.Core.Path.{◌≡◌, refl}
use Rattle.device.specs.declared.Model.{Model}
use Rattle.device.specs.declared.Answer.{Answer}
use Rattle.device.specs.Call.{Call, transaction, tick, flight, temperature, stretch}
use Rattle.device.specs.Reply.{reply, output, memory}
use Rattle.layout.specs.Code.{code_of, words_of}
use Rattle.call_list.specs.declared.Entry.{Entry}
use Rattle.call_list.specs.declared.Place.{Place}
use Rattle.call_list.specs.CallList.{entry_at, entry_fits, call_fits, call_of, output_after, flash_after, place_after, answers_after, Run, beginning, step_by, step, fits, runs}
use Rattle.refusal.specs.declared.Refusal.{Refusal}

abbrev entry : ℕ → ℕ → ℕ → Entry
entry kind first second = record { kind = kind; first = first; second = second }

abbrev place : ℕ → ℕ → ℕ → ℕ → Place
place calls frames hits output = record { calls = calls; frames = frames; hits = hits; output = output }

-- The second call of a list stands in its words 3, 4 and 5.
second_call : entry_at (1 ∷ 0 ∷ 0 ∷ 3 ∷ 4 ∷ 5 ∷ []) 1 ≡ entry 3 4 5
unfolding entry_at
second_call = refl

-- ---- what is left of frames, hit words and output, and whether it is enough

frame-enough : (entry_fits (entry 0 3 2) 3 0 2 ≡ true) × (entry_fits (entry 0 3 2) 2 9 9 ≡ false) × (entry_fits (entry 0 3 2) 9 9 1 ≡ false)
unfolding entry_fits
frame-enough = (refl, refl, refl)

-- Two words up and three down need five.
flight-enough : (entry_fits (entry 3 2 3) 0 5 0 ≡ true) × (entry_fits (entry 3 2 3) 9 4 9 ≡ false) × (entry_fits (entry 3 2 0) 9 1 9 ≡ false)
unfolding entry_fits
flight-enough = (refl, refl, refl)

temperature-enough : (entry_fits (entry 4 4 0) 0 4 0 ≡ true) × (entry_fits (entry 4 4 0) 9 3 9 ≡ false)
unfolding entry_fits
temperature-enough = (refl, refl)

-- A tick and a stretch need nothing, and a kind past the last is no call.
no_buffer : (entry_fits (entry 1 7 7) 0 0 0 ≡ true) × (entry_fits (entry 2 7 7) 0 0 0 ≡ true) × (entry_fits (entry 5 0 0) 9 9 9 ≡ false)
unfolding entry_fits
no_buffer = (refl, refl, refl)

-- The third call's answer takes the words 10 to 14; what was used before it is not there for it.
room-for-answer : (call_fits (entry 1 0 0) (place 2 0 0 0) 0 0 0 15 ≡ true) × (call_fits (entry 1 0 0) (place 2 0 0 0) 0 0 0 14 ≡ false)
    × (call_fits (entry 0 3 0) (place 2 4 0 0) 7 0 0 15 ≡ true) × (call_fits (entry 0 3 0) (place 2 5 0 0) 7 0 0 15 ≡ false)
unfolding call_fits entry_fits
room-for-answer = (refl, refl, refl, refl)

-- ---- the call

abbrev frames : List ℕ
frames = 0x05 ∷ 0xB8 ∷ 0x00 ∷ 0x00 ∷ []

abbrev words : List ℕ
words = 11 ∷ 12 ∷ 13 ∷ 14 ∷ 15 ∷ 16 ∷ []

abbrev out : List ℕ
out = 21 ∷ 22 ∷ 23 ∷ 24 ∷ []

called : (flash : List ℕ)
    → (call_of (entry 0 3 2) (place 1 1 0 2) frames words out flash ≡ transaction (0xB8 ∷ 0x00 ∷ 0x00 ∷ []) (23 ∷ 24 ∷ []) flash)
    × (call_of (entry 1 3 2) (place 1 1 0 2) frames words out flash ≡ tick)
    × (call_of (entry 2 300 0) (place 1 1 0 2) frames words out flash ≡ stretch 300)
    × (call_of (entry 3 2 1) (place 0 0 3 0) frames words out flash ≡ flight (14 ∷ 15 ∷ []) (16 ∷ []))
    × (call_of (entry 4 4 0) (place 0 0 1 0) frames words out flash ≡ temperature (12 ∷ 13 ∷ 14 ∷ 15 ∷ []))
unfolding call_of
called flash = (refl, refl, refl, refl, refl)

-- ---- what a call leaves

-- The next call finds its parts behind those of this one.
next-places : (place_after (entry 0 3 2) (place 1 10 20 30) ≡ place 2 13 20 32) × (place_after (entry 1 3 2) (place 1 10 20 30) ≡ place 2 10 20 30)
    × (place_after (entry 2 3 2) (place 1 10 20 30) ≡ place 2 10 20 30) × (place_after (entry 3 3 2) (place 1 10 20 30) ≡ place 2 10 25 30)
    × (place_after (entry 4 3 2) (place 1 10 20 30) ≡ place 2 10 23 30)
unfolding place_after
next-places = (refl, refl, refl, refl, refl)

-- A transaction leaves its own two bytes of the output, and no other; a tick leaves all.
output-left : (m : Model) (c : Call) → (output_after (entry 0 3 2) (place 0 0 0 1) m c out ≡ 21 ∷ (output m c ++ (24 ∷ [])))
    × (output_after (entry 1 3 2) (place 0 0 0 1) m c out ≡ out)
unfolding output_after
output-left m c = (refl, refl)

flash-left : (m : Model) (c : Call) → (flash_after (entry 0 5 0) m c out ≡ memory m c) × (flash_after (entry 2 5 0) m c out ≡ out)
unfolding flash_after
flash-left m c = (refl, refl)

-- The answer to call k stands at 5 × k: its code, and behind it the words of the answer, the others staying.
abbrev blank : List ℕ
blank = 9 ∷ 9 ∷ 9 ∷ 9 ∷ 9 ∷ 9 ∷ 9 ∷ 9 ∷ 9 ∷ 9 ∷ 9 ∷ []

told : (answers_after (Answer.Refused Refusal.Busy) 5 blank ≡ 9 ∷ 9 ∷ 9 ∷ 9 ∷ 9 ∷ 6 ∷ 9 ∷ 9 ∷ 9 ∷ 9 ∷ 9 ∷ [])
    × (answers_after (Answer.Accepted true false) 0 blank ≡ 0xFFFFFFFF ∷ 1 ∷ 0 ∷ 9 ∷ 9 ∷ 9 ∷ 9 ∷ 9 ∷ 9 ∷ 9 ∷ 9 ∷ [])
    × (answers_after Answer.Failed 5 blank ≡ 9 ∷ 9 ∷ 9 ∷ 9 ∷ 9 ∷ 0xFFFFFFFE ∷ 9 ∷ 9 ∷ 9 ∷ 9 ∷ 9 ∷ [])
unfolding answers_after code_of words_of
told = (refl, refl, refl)

-- ---- a list

-- a list of which so many calls are done
abbrev after : ℕ → Model → Run
after calls m = record { progress = record { model = m; place = place calls 0 0 0 }; output = []; flash = []; answers = blank }

from-the-first : (m : Model) → beginning m ≡ (after 0 m).progress
unfolding beginning
from-the-first m = refl

-- One call more is the next one of the list, on the model that the calls before it left.
next-call : (m : Model)
    → ((runs 1 (7 ∷ 0 ∷ 0 ∷ 1 ∷ 0 ∷ 0 ∷ []) [] [] (after 1 m)).progress.model ≡ (reply m tick).model)
    × ((runs 1 (7 ∷ 0 ∷ 0 ∷ 1 ∷ 0 ∷ 0 ∷ []) [] [] (after 1 m)).progress.place.calls ≡ 2)
    × ((runs 1 (7 ∷ 0 ∷ 0 ∷ 1 ∷ 0 ∷ 0 ∷ []) [] [] (after 1 m)).answers ≡ answers_after (reply m tick).answer 5 blank)
unfolding runs fits call_fits entry_fits entry_at step step_by call_of place_after
next-call m = (refl, refl, refl)

-- At a kind that is none the list ends, though a tick follows, and where no more calls are asked for.
ended : (m : Model) → (runs 2 (7 ∷ 0 ∷ 0 ∷ 1 ∷ 0 ∷ 0 ∷ []) [] [] (after 0 m) ≡ after 0 m) × (runs 0 (1 ∷ 0 ∷ 0 ∷ []) [] [] (after 0 m) ≡ after 0 m)
unfolding runs fits call_fits entry_fits entry_at
ended m = (refl, refl)
