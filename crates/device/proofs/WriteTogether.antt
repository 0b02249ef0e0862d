-- A write is judged, and taken, as a whole.
use Prim.Native.Nat.{ℕ, ◌-◌, ◌≤◌}
use native.Mathlib.Omega.{arith}
use mathlib.Core.Bool.{true}
use mathlib.Core.List.{List}
use mathlib.Core.Path.{◌≡◌, refl}
use borrow.Author.Tests.{lt-leb}
use Rattle.unit.specs.Choice.{both, negate}
use Rattle.calendar.specs.Words.{word30, word31, clock_from, words_valid, alarm_valid}
use Rattle.calendar.proofs.RoundTrip.{round_trip, words-valid}
use Rattle.setup.specs.Setup.{alarm_word}
use Rattle.frame.specs.Frame.{word_at}
use Rattle.device.specs.declared.Model.{Model}
use Rattle.device.specs.Model.{is_sound}
use Rattle.device.specs.Registers.{calendar_word}
use Rattle.device.specs.Write.{covers, written, with_word, setup_after, ticks_after, clock_after, write_invalid}
use Rattle.device.proofs.Sound.{bounds_of}

-- "30h to 33h are judged together after the whole write": a write from 34h on leaves the clock, and one of 32h and 33h is
-- judged, and taken, on both its words
pub keeps-clock :
    (m : Model) (bytes : List ℕ) (op n : ℕ) → is_sound m ≡ true → 0x34 ≤ op → clock_after bytes op n m ≡ m.clock
unfolding clock_after written covers ticks_after calendar_word
keeps-clock m bytes op n s h =
    rw (
      lt-leb op 0x30 (omega arith),
      lt-leb op 0x31 (omega arith),
      lt-leb op 0x32 (omega arith),
      lt-leb op 0x33 (omega arith),
    )
    (round_trip m.clock (bounds_of m s).clock)

pub judged-by-alarm :
    (m : Model) (bytes : List ℕ) (op n : ℕ) →
    is_sound m ≡ true →
    0x34 ≤ op →
    write_invalid bytes op n m ≡ negate (alarm_valid (alarm_word (setup_after bytes op m.setup n)))
unfolding write_invalid written covers ticks_after calendar_word
judged-by-alarm m bytes op n s h =
    rw (
      lt-leb op 0x30 (omega arith),
      lt-leb op 0x31 (omega arith),
      lt-leb op 0x32 (omega arith),
      lt-leb op 0x33 (omega arith),
      words-valid m.clock (bounds_of m s).clock,
    )

pub judged-together :
    (m : Model) (bytes : List ℕ) →
    write_invalid bytes 0x32 2 m
    ≡ negate
    (both
    (words_valid (word30 m.clock) (word31 m.clock) (word_at bytes 0) (word_at bytes 1) m.clock.ticks)
    (alarm_valid (alarm_word m.setup)))
unfolding write_invalid written covers ticks_after calendar_word setup_after with_word
judged-together m bytes = refl

pub taken-together :
    (m : Model) (bytes : List ℕ) →
    clock_after bytes 0x32 2 m
    ≡ clock_from (word30 m.clock) (word31 m.clock) (word_at bytes 0) (word_at bytes 1) m.clock.ticks
unfolding clock_after written covers ticks_after calendar_word
taken-together m bytes = refl
