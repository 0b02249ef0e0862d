-- A write of n words from register op on: bytes are the frame from its second byte.
use Rattle.std.specs.Prelude.{ℕ, zero, suc, ◌+◌, ◌-◌, Bool, List, set, ltb, leb}
use Rattle.device.specs.Base.{pick, both, negate, Ticks, Clock, ticks_in}
use Rattle.device.specs.Base.{clock_from, words_valid, alarm_valid, alarm_word, word_at, Model}
use Rattle.device.specs.Model.{with_clock, with_setup}
use Rattle.device.specs.Registers.{calendar_word}

-- "n ≥ 1 words follow, to consecutive registers"
unfoldable pub covers : ℕ → ℕ → ℕ → Bool
covers op n a = both (leb op a) (ltb a (op + n))

-- a register's word after the write, by the one it has
unfoldable pub written : List ℕ → ℕ → ℕ → ℕ → ℕ → ℕ
written bytes op n a current = pick (covers op n a) (word_at bytes (a - op)) current

-- 34h to 43h: "Reserved bits are kept as written"
unfoldable pub with_word : List ℕ → ℕ → ℕ → List ℕ
with_word s a w = pick (ltb a 0x34) s (set s (a - 0x34) w)

unfoldable pub setup_after : List ℕ → ℕ → List ℕ → ℕ → List ℕ
setup_after bytes op s zero = s
setup_after bytes op s (suc n) = with_word (setup_after bytes op s n) (op + n) (word_at bytes n)

-- "A write that covers 30h sets s ..; any other write keeps s."
unfoldable pub ticks_after : List ℕ → ℕ → ℕ → Model → Ticks
ticks_after bytes op n m = pick (covers op n 0x30) (ticks_in (word_at bytes (0x30 - op))) m.clock.ticks

-- What is made of the words of 30h to 33h after the whole write, those that it leaves out as they read, and of s
abbrev pub of_calendar : {A : Type 0} → List ℕ → ℕ → ℕ → Model → (ℕ → ℕ → ℕ → ℕ → Ticks → A) → A
of_calendar bytes op n m make =
    make
    (written bytes op n 0x30 (calendar_word m 0xB0))
    (written bytes op n 0x31 (calendar_word m 0xB1))
    (written bytes op n 0x32 (calendar_word m 0xB2))
    (written bytes op n 0x33 (calendar_word m 0xB3))
    (ticks_after bytes op n m)

unfoldable pub clock_after : List ℕ → ℕ → ℕ → Model → Clock
clock_after bytes op n m = of_calendar bytes op n m clock_from

-- "the clock after the write, or the alarm, would be invalid"; "30h to 33h are judged together after the whole write."
unfoldable pub write_invalid : List ℕ → ℕ → ℕ → Model → Bool
write_invalid bytes op n m =
    negate (both (of_calendar bytes op n m words_valid) (alarm_valid (alarm_word (setup_after bytes op m.setup n))))

unfoldable pub write_model : List ℕ → ℕ → ℕ → Model → Model
write_model bytes op n m = with_setup (with_clock m (clock_after bytes op n m)) (setup_after bytes op m.setup n)
