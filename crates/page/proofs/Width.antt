-- How wide the page is: no row has more than 80 characters. Assumes nothing.
use Prim.Native.Nat.{ℕ, zero, suc, ◌+◌, ◌-◌, ◌*◌, ◌/◌, ◌%◌, ◌^◌, ◌≤◌, ◌<◌, min}
use Prim.Native.String.{String}
use mathlib.Core.Bool.{Bool, true, false, cond}
use mathlib.Core.List.{List, [], ◌∷◌, ◌++◌}
use mathlib.Core.Path.{◌≡◌, refl, ap, ◌∙◌}
use mathlib.Core.Logic.{◌⊎◌, ⊎_elim}
use native.Mathlib.Omega.{arith}
use lib.Dec.{eqb}
use borrow.Author.Tests.{ne_eqb, leb-false}
use lib.ListN.{length, get_or, replicate, length-append, length-replicate}
use Rattle.unit.specs.Bits.{bits, is_set}
use Rattle.unit.specs.Choice.{both}
use Rattle.unit.proofs.Cases.{by-test, by-ltb, by_eqb}
use Rattle.setup.specs.Table11.{stop_table, timeout_table, stop_row, timeout_row}
use Rattle.numeral.specs.Digit.{digits, glyph}
use Rattle.refusal.specs.declared.Refusal.{Refusal}
use Rattle.refusal.specs.Number.{number}
use Rattle.numeral.specs.Place.{joined}
use Rattle.numeral.specs.Print.{width_from, decimal_width, decimal, ten_thousandths, nanoseconds, signed_nanoseconds}
use Rattle.numeral.proofs.DigitLaws.{length_digits}
use Rattle.numeral.proofs.PrintLaws.{width-most, length-decimal}
use Rattle.listing.specs.Listing.{right_justified}
use Rattle.listing.proofs.Time.{length-time}
use Rattle.hit.specs.Mean.{All}
use Rattle.device.specs.declared.Schedule.{Schedule}
use Rattle.device.specs.declared.Model.{Model}
use Rattle.device.specs.Event.{in_event, starts_left}
use Rattle.device.specs.Model.{is_sound}
use Rattle.device.specs.Bus.{starts_flight, starts_temperature, is_event}
use Rattle.device.specs.Call.{Call, Row, Verdict, accepted, refused, verdict, table}
use Rattle.device.specs.Reply.{reply, number_in}
use Rattle.device.specs.Question.{regulator_on}
use Rattle.device.proofs.Sound.{ScheduleBounds, bounds_of}
use Rattle.device.proofs.Table.{FirstRow, refused-means, number-refused, number-accepted}
use Rattle.run_state.specs.State.{initialised_told, left_told}
use Rattle.run_state.specs.Event.{next_start, place_of, place_told}
use Rattle.numeral.specs.Ascii.{ascii}
use Rattle.wording.specs.Wording.{Texts, counted, reported_where, refusal_words, refusal_word, refusal}
use Rattle.item_state.specs.Told.{told_value, read_word}
use Rattle.page.specs.Row.{register_row, pair_row, stored_row, absent_row, absent_pair, plural, binary}
use Rattle.page.specs.Clock.{seconds, hours, time_of_day, half_day, seconds_row, time_row, day_row, month_row, date_texts, clock_row, alarm_texts, alarm_row, clock_rows}
use Rattle.page.specs.Setup.{pulses, divider, tof1_row, tof2_row, half_seconds, timing1_row, timing2_row, control_row, clock_state, oscillator_row, setup_rows, more_setup_rows}
use Rattle.page.specs.Results.{pair_word, time, signed_time, result_texts, port_texts, difference_texts, result_row, port_row, difference_row, mean_row, count_row}
use Rattle.page.specs.Results.{up_rows, down_rows, difference_rows, port_rows, high_names, low_names, takes_two, status_rows, supply_row, last_rows}
use Rattle.page.specs.Run.{initialised_row, left_ticks, awaited_row, place_texts, event_texts, wait_texts, next_texts, run_rows}
use Rattle.page.specs.Commands.{answer_to, flight_fields, temperature_fields, clock_fields, fields, refused_texts, answer_texts, frame_row, command_row, flash_row, write_row, command_rows}
use Rattle.page.specs.Page.{page}

-- How many characters texts have together.
unfoldable width : Texts → ℕ
width [] = 0
width (t ∷ ts) = length t + width ts

width-joined : (ts : Texts) → length (joined ts) ≡ width ts
unfolding joined width
width-joined [] = refl
width-joined (t ∷ ts) = length-append t (joined ts) ∙ ap (λ (n : ℕ). length t + n) (width-joined ts)

width-append : (ts us : Texts) → width (ts ++ us) ≡ width ts + width us
unfolding width
width-append [] us = omega arith
width-append (t ∷ ts) us = rw (width-append ts us) (omega arith)

-- ---- numbers

decimal-width : (j v : ℕ) → v < 10 ^ suc j → length (decimal v) ≤ suc j
unfolding decimal_width
decimal-width j v h = rw (length-decimal v) (width-most 19 j v h)

width-bound : (k v : ℕ) → width_from k v ≤ suc k
unfolding width_from
width-bound zero v = omega arith
width-bound (suc k) v = by-ltb v 10 (λ h e. rw e (omega arith)) (λ h e. rw e (omega (arith, width-bound k (v / 10))))

-- no decimal has more than 20 digits
decimal-most : (v : ℕ) → length (decimal v) ≤ 20
unfolding decimal_width
decimal-most v = rw (length-decimal v) (width-bound 19 v)

plural-width : (j n : ℕ) (what : List ℕ) → n < 10 ^ suc j → width (plural n what) ≤ suc j + length what + 1
unfolding width plural ascii
plural-width j n what h =
    let d = decimal-width j n h in
    by-ltb n 2 (λ p e. rw e (omega arith)) (λ p e. rw e (omega arith))

counted-width : (j n : ℕ) (what : List ℕ) → n < 10 ^ suc j → width (counted n what) ≤ suc j + length what
unfolding width counted
counted-width j n what h = omega (arith, decimal-width j n h)

binary-width : (v : ℕ) → v < 4 → width (binary v) ≤ 3
unfolding width binary ascii
binary-width v h = omega (arith, decimal-width 0 (v / 2) (omega arith), decimal-width 0 (v % 2) (omega arith))

where-width : (b : Bool) (t : List ℕ) → width (reported_where b t) ≤ length t
unfolding width reported_where
where-width true t = omega arith
where-width false t = omega arith

-- the wider of two texts
cond-width : (b : Bool) (ts us : Texts) (n : ℕ) → width ts ≤ n → width us ≤ n → width (cond b ts us) ≤ n
cond-width true ts us n h k = h
cond-width false ts us n h k = k

get_d-below : (l : List ℕ) (n d b : ℕ) → All (λ (x : ℕ). x < b) l → d < b → get_or l n d < b
get_d-below [] n d b a h = h
get_d-below (x ∷ l) zero d b a h = a.0
get_d-below (x ∷ l) (suc n) d b a h = get_d-below l n d b a.1 h

-- ---- rows of registers and of pairs, by their meaning

register-narrow : (label : List ℕ) (w : ℕ) (meaning : Texts) → length label ≡ 32 → width meaning ≤ 38 → width (register_row label w meaning) ≤ 80
unfolding width register_row ascii
register-narrow label w meaning h k = omega (arith, length_digits 16 4 w)

pair-narrow : (label : List ℕ) (w : ℕ) (meaning : Texts) → length label ≡ 32 → width meaning ≤ 37 → width (pair_row label w meaning) ≤ 80
unfolding width pair_row ascii
pair-narrow label w meaning h k = omega (arith, length_digits 16 4 (w / 65536), length_digits 16 4 (w % 65536))

stored-narrow : (label : List ℕ) (w : ℕ) → length label ≡ 32 → width (stored_row label w) ≤ 80
unfolding width stored_row ascii
stored-narrow label w h = register-narrow label w (ascii " stored only" ∷ []) h (omega arith)

absent-narrow : (label : List ℕ) (w : ℕ) → length label ≡ 32 → width (absent_row label w) ≤ 80
unfolding width absent_row ascii
absent-narrow label w h = register-narrow label w (ascii " not carried" ∷ []) h (omega arith)

absent-pair-narrow : (label : List ℕ) (w : ℕ) → length label ≡ 32 → width (absent_pair label w) ≤ 80
unfolding width absent_pair ascii
absent-pair-narrow label w h = pair-narrow label w (ascii "not carried" ∷ []) h (omega arith)

-- ---- the clock

seconds-width : (w : ℕ) → width (seconds w) ≡ 5
unfolding width seconds ascii
seconds-width w = omega (arith, length_digits 16 2 w, length_digits 16 2 (w / 256))

time-of-day-width : (w : ℕ) → width (time_of_day w) ≡ 5
unfolding width time_of_day ascii
time-of-day-width w = omega (arith, length_digits 16 2 (hours w), length_digits 16 2 (bits 14 8 w))

half-day-width : (w : ℕ) → width (half_day w) ≤ 3
unfolding width half_day ascii
half-day-width w =
    cond-width (eqb (bits 6 5 w) 2) (ascii " AM" ∷ []) (cond (eqb (bits 6 5 w) 3) (ascii " PM" ∷ []) []) 3 (omega arith)
    (cond-width (eqb (bits 6 5 w) 3) (ascii " PM" ∷ []) [] 3 (omega arith) (omega arith))

date-width : (day month : ℕ) → width (date_texts day month) ≡ 11
unfolding width date_texts ascii
date-width day month = omega (arith, length_digits 16 2 month, length_digits 16 2 (month / 256), length_digits 16 2 day)

alarm-width : (mode : ℕ) → width (alarm_texts mode) ≤ 25
unfolding width alarm_texts ascii
alarm-width mode =
    by_eqb mode 0 (λ h e. rw e (omega arith))
    (λ h e. rw e (by_eqb mode 1 (λ h₁ e₁. rw e₁ (omega arith))
    (λ h₁ e₁. rw e₁ (by_eqb mode 2 (λ h₂ e₂. rw e₂ (omega arith)) (λ h₂ e₂. rw e₂ (omega arith))))))

seconds-narrow : (w : ℕ) → width (seconds_row w) ≤ 80
unfolding width seconds_row ascii
seconds-narrow w =
    register-narrow _ w _ refl (rw (width-append (seconds w) (ascii " s" ∷ [])) (omega (arith, seconds-width w)))

time-narrow : (w : ℕ) → width (time_row w) ≤ 80
unfolding width time_row ascii
time-narrow w =
    register-narrow _ w _ refl
    (rw (width-append (time_of_day w) (half_day w)) (omega (arith, time-of-day-width w, half-day-width w)))

day-narrow : (w : ℕ) → width (day_row w) ≤ 80
unfolding width day_row ascii
day-narrow w = register-narrow _ w _ refl (omega (arith, decimal-most (w / 256), length_digits 16 2 w))

month-narrow : (w : ℕ) → width (month_row w) ≤ 80
unfolding width month_row ascii
month-narrow w = register-narrow _ w _ refl (omega (arith, length_digits 16 2 w, length_digits 16 2 (w / 256)))

clock-narrow : (second time day month : ℕ) → width (clock_row second time day month) ≤ 80
unfolding width clock_row ascii
clock-narrow second time day month =
    rw (width-append, width-append, width-append)
    (omega (arith, date-width day month, time-of-day-width time, seconds-width second, half-day-width time))

alarm-narrow : (w mode : ℕ) → width (alarm_row w mode) ≤ 80
unfolding width alarm_row ascii
alarm-narrow w mode =
    register-narrow _ w _ refl
    (rw (width-append, width-append) (omega (arith, time-of-day-width w, half-day-width w, alarm-width mode)))

clock-rows : (m : Model) → All (λ (row : Texts). width row ≤ 80) (clock_rows m)
unfolding width clock_rows ascii
clock-rows m = (
  omega arith,
  (
    seconds-narrow (read_word m 0xB0),
    (
      time-narrow (read_word m 0xB1),
      (
        day-narrow (read_word m 0xB2),
        (
          month-narrow (read_word m 0xB3),
          (
            clock-narrow (read_word m 0xB0) (read_word m 0xB1) (read_word m 0xB2) (read_word m 0xB3),
            (
              stored-narrow (ascii "B4     Watchdog Alarm Counter   ") (read_word m 0xB4) refl,
              (alarm-narrow (read_word m 0xB5) (bits 3 2 (read_word m 0xC3)), tt),
            ),
          ),
        ),
      ),
    ),
  ),
)

-- ---- the set-up

pulses-width : (pl : ℕ) → width (pulses pl) ≤ 14
unfolding width pulses ascii
pulses-width pl =
    cond-width (eqb pl 0) _ _ 14 (omega arith) (omega (arith, plural-width 2 (min pl 127) (ascii " pulse") (omega arith)))

divider-width : (dpl : ℕ) → dpl < 16 → width (divider dpl) ≤ 16
unfolding width divider ascii
divider-width dpl h =
    cond-width (eqb dpl 0) _ _ 16 (omega arith) (omega (arith, decimal-width 1 (dpl + 1) (omega arith)))

tof1-narrow : (w : ℕ) → width (tof1_row w) ≤ 80
unfolding width tof1_row ascii
tof1-narrow w =
    register-narrow _ w _ refl
    (rw (width-append) (omega (arith, pulses-width (bits 15 8 w), divider-width (bits 7 4 w) (omega arith))))

stop-few : (n : ℕ) → stop_row n < 10
unfolding stop_row stop_table
stop-few n = get_d-below stop_table n 6 10 (omega arith, (omega arith, (omega arith, (omega arith, (omega arith, (omega arith, (omega arith, (omega arith, tt)))))))) (omega arith)

timeout-few : (n : ℕ) → timeout_row n < 100000
unfolding timeout_row timeout_table
timeout-few n = get_d-below timeout_table n 16384 100000 (omega arith, (omega arith, (omega arith, (omega arith, (omega arith, (omega arith, (omega arith, (omega arith, tt)))))))) (omega arith)

tof2-narrow : (w : ℕ) → width (tof2_row w) ≤ 80
unfolding width tof2_row ascii
tof2-narrow w =
    register-narrow _ w _ refl
    (rw (width-append)
    (omega (
      arith,
      plural-width 0 (stop_row (bits 15 13 w)) (ascii " hit") (stop-few (bits 15 13 w)),
      counted-width 4 (timeout_row (bits 2 0 w)) (ascii " us") (timeout-few (bits 2 0 w)),
    )))

half-seconds-width : (n : ℕ) → n ≤ 16 → width (half_seconds n) ≤ 3
unfolding width half_seconds ascii
half-seconds-width n h = omega (arith, decimal-width 0 (n / 2) (omega arith), decimal-width 0 (n % 2 * 5) (omega arith))

timing1-narrow : (w : ℕ) → width (timing1_row w) ≤ 80
unfolding width timing1_row ascii
timing1-narrow w =
    register-narrow _ w _ refl
    (rw (width-append, width-append)
    (omega (
      arith,
      half-seconds-width (bits 15 12 w + 1) (omega arith),
      plural-width 1 (bits 11 7 w + 1) (ascii " cycle") (omega arith),
      counted-width 1 (bits 6 1 w + 1) (ascii " s") (omega arith),
    )))

timing2-narrow : (w : ℕ) → width (timing2_row w) ≤ 80
unfolding width timing2_row ascii
timing2-narrow w =
    register-narrow _ w _ refl
    (rw (width-append, width-append)
    (omega (
      arith,
      plural-width 1 (bits 15 11 w + 1) (ascii " cycle") (omega arith),
      binary-width (bits 6 5 w) (omega arith),
      counted-width 2 (128 * (bits 1 0 w + 1)) (ascii " us") (omega arith),
    )))

control-narrow : (w : ℕ) → width (control_row w) ≤ 80
unfolding width control_row ascii
control-narrow w =
    register-narrow _ w _ refl
    (rw (width-append, width-append, width-append)
    (omega (
      arith,
      where-width (is_set 9 w) (ascii " INT_EN"),
      where-width (is_set 8 w) (ascii " ET_CONT"),
      where-width (is_set 7 w) (ascii " CONT_INT"),
      where-width (eqb (bits 9 7 w) 0) (ascii " none"),
    )))

clock-state-width : (eosc : ℕ) → length (clock_state eosc) ≤ 25
unfolding clock_state ascii
clock-state-width eosc = by_eqb eosc 1 (λ h e. rw e (omega arith)) (λ h e. rw e (omega arith))

oscillator-narrow : (w : ℕ) → width (oscillator_row w) ≤ 80
unfolding width oscillator_row ascii
oscillator-narrow w =
    register-narrow _ w _ refl (omega (arith, clock-state-width (bits 4 4 w), binary-width (bits 3 2 w) (omega arith)))

setup-rows : (m : Model) → All (λ (row : Texts). width row ≤ 80) (setup_rows m)
unfolding width setup_rows ascii
setup-rows m = (
  omega arith,
  (
    stored-narrow _ _ refl,
    (
      stored-narrow _ _ refl,
      (
        tof1-narrow (read_word m 0xB8),
        (
          tof2-narrow (read_word m 0xB9),
          (stored-narrow _ _ refl, (stored-narrow _ _ refl, (stored-narrow _ _ refl, tt))),
        ),
      ),
    ),
  ),
)

more-setup-rows : (m : Model) → All (λ (row : Texts). width row ≤ 80) (more_setup_rows m)
unfolding width more_setup_rows ascii
more-setup-rows m = (
  stored-narrow _ _ refl,
  (
    stored-narrow _ _ refl,
    (
      timing1-narrow (read_word m 0xBF),
      (
        timing2-narrow (read_word m 0xC0),
        (stored-narrow _ _ refl, (control-narrow (read_word m 0xC2), (oscillator-narrow (read_word m 0xC3), tt))),
      ),
    ),
  ),
)

-- ---- the results

nanoseconds-length : (w : ℕ) → length (nanoseconds w) ≤ 25
unfolding decimal_width
nanoseconds-length w = omega (arith, length-time w, width-bound 19 (ten_thousandths w / 10000))

signed-length : (w : ℕ) → length (signed_nanoseconds w) ≤ 26
unfolding signed_nanoseconds
signed-length w =
    by-ltb w 2147483648 (λ h e. rw e (omega (arith, nanoseconds-length w)))
    (λ h e. rw e (omega (arith, nanoseconds-length (4294967296 - w))))

justified-length : (text : List ℕ) → length text ≤ 26 → length (right_justified 14 text) ≤ 26
unfolding right_justified
justified-length text h = rw (length-append, length-replicate) (omega arith)

time-width : (w : ℕ) → width (time w) ≤ 31
unfolding width time ascii
time-width w = omega (arith, justified-length (nanoseconds w) (omega (arith, nanoseconds-length w)))

signed-width : (w : ℕ) → width (signed_time w) ≤ 31
unfolding width signed_time ascii
signed-width w = omega (arith, justified-length (signed_nanoseconds w) (signed-length w))

result-width : (w : ℕ) → width (result_texts w) ≤ 31
unfolding width result_texts ascii
result-width w = cond-width (eqb w 4294967295) _ _ 31 (omega arith) (time-width w)

port-width : (w : ℕ) → width (port_texts w) ≤ 31
unfolding width port_texts ascii
port-width w = cond-width (eqb w 0) _ _ 31 (omega arith) (result-width w)

difference-width : (w up : ℕ) → width (difference_texts w up) ≤ 31
unfolding width difference_texts ascii
difference-width w up = cond-width (both (eqb up 4294967295) (eqb w 4294967295)) _ _ 31 (omega arith) (signed-width w)

result-narrow : (label : List ℕ) (w : ℕ) → length label ≡ 32 → width (result_row label w) ≤ 80
unfolding result_row
result-narrow label w h = pair-narrow label w (result_texts w) h (omega (arith, result-width w))

port-narrow : (label : List ℕ) (w : ℕ) → length label ≡ 32 → width (port_row label w) ≤ 80
unfolding port_row
port-narrow label w h = pair-narrow label w (port_texts w) h (omega (arith, port-width w))

difference-narrow : (w up : ℕ) → width (difference_row w up) ≤ 80
unfolding difference_row ascii
difference-narrow w up = pair-narrow _ w (difference_texts w up) refl (omega (arith, difference-width w up))

mean-narrow : (w : ℕ) → width (mean_row w) ≤ 80
unfolding mean_row ascii
mean-narrow w = pair-narrow _ w (signed_time w) refl (omega (arith, signed-width w))

count-narrow : (label : List ℕ) (w : ℕ) → length label ≡ 32 → width (count_row label w) ≤ 80
unfolding width count_row ascii
count-narrow label w h = register-narrow label w _ h (omega (arith, decimal-most w))

up-rows : (m : Model) → All (λ (row : Texts). width row ≤ 80) (up_rows m)
unfolding width up_rows ascii
up-rows m = (omega arith, (absent-narrow _ _ refl, (result-narrow _ _ refl, (result-narrow _ _ refl, (result-narrow _ _ refl, (result-narrow _ _ refl, (result-narrow _ _ refl, (result-narrow _ _ refl, (result-narrow _ _ refl, tt)))))))))

down-rows : (m : Model) → All (λ (row : Texts). width row ≤ 80) (down_rows m)
unfolding down_rows ascii
down-rows m = (absent-narrow _ _ refl, (result-narrow _ _ refl, (result-narrow _ _ refl, (result-narrow _ _ refl, (result-narrow _ _ refl, (result-narrow _ _ refl, (result-narrow _ _ refl, (result-narrow _ _ refl, tt))))))))

difference-rows : (m : Model) → All (λ (row : Texts). width row ≤ 80) (difference_rows m)
unfolding difference_rows ascii
difference-rows m = (difference-narrow (pair_word m 0xE2) (pair_word m 0xD1), (count-narrow _ _ refl, (mean-narrow (pair_word m 0xE5), tt)))

port-rows : (m : Model) → All (λ (row : Texts). width row ≤ 80) (port_rows m)
unfolding port_rows ascii
port-rows m = (port-narrow _ _ refl, (port-narrow _ _ refl, (port-narrow _ _ refl, (port-narrow _ _ refl, (count-narrow _ _ refl, (result-narrow _ _ refl, (result-narrow _ _ refl, (result-narrow _ _ refl, (result-narrow _ _ refl, tt)))))))))

-- ---- the status

high-width : (w : ℕ) → width (high_names w) ≤ 38
unfolding width high_names ascii
high-width w =
    rw (width-append, width-append, width-append, width-append, width-append, width-append)
    (omega (
      arith,
      where-width (is_set 15 w) (ascii " TO"),
      where-width (is_set 14 w) (ascii " AF"),
      where-width (is_set 12 w) (ascii " TOF"),
      where-width (is_set 11 w) (ascii " TE"),
      where-width (is_set 10 w) (ascii " LDO"),
      where-width (is_set 9 w) (ascii " TOF_EVTMG"),
      where-width (is_set 8 w) (ascii " TEMP_EVTMG"),
    ))

low-width : (w : ℕ) → width (low_names w) ≤ 20
unfolding width low_names ascii
low-width w =
    rw (width-append, width-append, width-append)
    (omega (
      arith,
      where-width (is_set 7 w) (ascii " FLASH"),
      where-width (is_set 5 w) (ascii " HALT"),
      where-width (is_set 3 w) (ascii " INIT"),
      where-width (is_set 2 w) (ascii " POR"),
    ))

not_set : (x : ℕ) (t : List ℕ) → x ≡ 0 → width (reported_where (eqb x 1) t) ≡ 0
unfolding width reported_where
not_set x t h = rw (ne_eqb x 1 (λ e. omega arith))

-- a byte without bits has no names
high-none : (w : ℕ) → w < 256 → width (high_names w) ≡ 0
unfolding high_names
high-none w h =
    rw (width-append, width-append, width-append, width-append, width-append, width-append)
    (omega (
      arith,
      not_set (bits 15 15 w) (ascii " TO") (omega arith),
      not_set (bits 14 14 w) (ascii " AF") (omega arith),
      not_set (bits 12 12 w) (ascii " TOF") (omega arith),
      not_set (bits 11 11 w) (ascii " TE") (omega arith),
      not_set (bits 10 10 w) (ascii " LDO") (omega arith),
      not_set (bits 9 9 w) (ascii " TOF_EVTMG") (omega arith),
      not_set (bits 8 8 w) (ascii " TEMP_EVTMG") (omega arith),
    ))

low-none : (w : ℕ) → w % 256 ≡ 0 → width (low_names w) ≡ 0
unfolding low_names
low-none w h =
    rw (width-append, width-append, width-append)
    (omega (
      arith,
      not_set (bits 7 7 w) (ascii " FLASH") (omega arith),
      not_set (bits 5 5 w) (ascii " HALT") (omega arith),
      not_set (bits 3 3 w) (ascii " INIT") (omega arith),
      not_set (bits 2 2 w) (ascii " POR") (omega arith),
    ))

none-width : (w : ℕ) → ¬ (w ≡ 0) → width (reported_where (eqb w 0) (ascii " none")) ≡ 0
unfolding width reported_where
none-width w h = rw (ne_eqb w 0 h)

-- in one row, the names of one byte, or `none`
one_width : (w : ℕ) → takes_two w ≡ false → width (high_names w) + (width (low_names w) + width (reported_where (eqb w 0) (ascii " none"))) ≤ 38
unfolding takes_two ascii
one_width w =
    by_eqb (w % 256) 0
    (λ h e. λ one. by_eqb w 0
    (λ z f. omega (arith, high-none w (omega arith), low-none w h, where-width (eqb w 0) (ascii " none")))
    (λ z f. omega (arith, high-width w, low-none w h, none-width w z)))
    (λ h e. rw e (λ one. omega (arith, high-none w (leb-false 256 w one), low-width w, where-width (eqb w 0) (ascii " none"))))

status-rows : (w : ℕ) → All (λ (row : Texts). width row ≤ 80) (status_rows w)
unfolding width status_rows ascii
status-rows w =
    by-test (takes_two w)
    (λ e. rw e (register-narrow _ w (high_names w) refl (high-width w), (omega (arith, low-width w), tt)))
    (λ e. let few = one_width w e in rw e (register-narrow _ w _ refl (rw (width-append, width-append) few), tt))

supply-narrow : (on : ℕ) → width (supply_row on) ≤ 80
unfolding width supply_row ascii
supply-narrow on = by_eqb on 0 (λ h e. rw e (omega arith)) (λ h e. rw e (omega arith))

all_append : (P : Texts → Type 0) (xs ys : List Texts) → All P xs → All P ys → All P (xs ++ ys)
all_append P [] ys a b = b
all_append P (x ∷ xs) ys a b = (a.0, all_append P xs ys a.1 b)

last-rows : (m : Model) → All (λ (row : Texts). width row ≤ 80) (last_rows m)
unfolding width last_rows ascii
last-rows m = (
  absent-pair-narrow _ _ refl,
  (
    absent-pair-narrow _ _ refl,
    (
      absent-pair-narrow _ _ refl,
      (
        omega arith,
        all_append (λ (row : Texts). width row ≤ 80) (status_rows (read_word m 0xFE)) _ (status-rows (read_word m 0xFE))
            (supply-narrow (told_value (regulator_on m)), (absent-narrow _ _ refl, tt)),
      ),
    ),
  ),
)

-- ---- the run

initialised-narrow : (told : ℕ) → width (initialised_row told) ≤ 80
unfolding width initialised_row ascii
initialised-narrow told = by_eqb told 0 (λ h e. rw e (omega arith)) (λ h e. rw e (omega arith))

awaited-narrow : (label : List ℕ) (left : ℕ) → length label ≡ 43 → left ≤ 8192 → width (awaited_row label left) ≤ 80
unfolding width awaited_row ascii
awaited-narrow label left h few =
    let t = cond-width (eqb left 0) (ascii "none awaited" ∷ []) (ascii "awaited, fails in " ∷ plural left (ascii " tick")) 28 (omega arith) (omega (arith, plural-width 3 left (ascii " tick") (omega arith))) in
    omega arith

-- the schedule of a kind, of which soundness tells the bounds, and whose waits are words of 32 bits
module _ (m : Model) (k : Schedule) (known : is_sound m ≡ true → ScheduleBounds k) where
  left-few : left_ticks (left_told m k) ≤ 8192
  unfolding left_ticks left_told
  left-few = by-test (is_sound m) (λ s. let b = known s in rw s b.left) (λ s. rw s (omega arith))

  event-width : width (event_texts (place_told m k)) ≤ 37
  unfolding width event_texts place_told place_of place_texts ascii
  event-width =
      by-test (is_sound m)
      (λ s. let b = known s in
      rw s (by-test (in_event k)
      (λ e. rw (e, width-append, width-append, width-append)
      (omega (
        arith,
        b.planned,
        b.started,
        b.settled,
        b.good,
        counted-width 1 k.started (ascii " of ") (omega (arith, b.planned, b.started)),
        counted-width 1 k.planned (ascii " started, ") (omega (arith, b.planned)),
        counted-width 1 k.settled (ascii " settled, ") (omega (arith, b.planned, b.started, b.settled)),
        counted-width 1 k.good (ascii " good") (omega (arith, b.planned, b.started, b.settled, b.good)),
      )))
      (λ e. rw e (omega arith))))
      (λ s. rw s (omega arith))

  wait-width : (n : ℕ) → n < 4294967296 → width (wait_texts n) ≤ 19
  unfolding width wait_texts ascii
  wait-width n h = cond-width (eqb n 0) _ _ 19 (omega arith) (omega (arith, plural-width 9 n (ascii " tick") (omega arith)))

  next-few : k.wait.0 < 4294967296 → (next_start k).0 < 4294967296
  unfolding next_start
  next-few h = by-test (starts_left k) (λ e. rw e h) (λ e. rw e (omega arith))

  next-width : k.wait.0 < 4294967296 → width (next_texts (place_told m k)) ≤ 37
  unfolding width next_texts place_told place_of ascii
  next-width h =
      by-test (is_sound m)
      (λ s. rw s (by-test (in_event k)
      (λ e. rw (e, width-append)
      (omega (arith, wait-width (next_start k).0 (next-few h), where-width k.continuous (ascii ", continuous"))))
      (λ e. rw e (omega arith))))
      (λ s. rw s (omega arith))

run-rows : (m : Model) → m.flight.schedule.wait.0 < 2 ^ 32 → m.temperature.schedule.wait.0 < 2 ^ 32
    → All (λ (row : Texts). width row ≤ 80) (run_rows m)
unfolding width run_rows ascii
run-rows m f t =
    let flight : is_sound m ≡ true → ScheduleBounds m.flight.schedule = λ s. (bounds_of m s).flight.schedule in
    let temperature : is_sound m ≡ true → ScheduleBounds m.temperature.schedule = λ s. (bounds_of m s).temperature.schedule in (
      omega arith,
      (
        initialised-narrow (told_value (initialised_told m)),
        (
          awaited-narrow _ _ refl (left-few m m.flight.schedule flight),
          (
            awaited-narrow _ _ refl (left-few m m.temperature.schedule temperature),
            (
              omega (arith, event-width m m.flight.schedule flight),
              (
                omega (arith, next-width m m.flight.schedule flight f),
                (
                  omega (arith, event-width m m.temperature.schedule temperature),
                  (omega (arith, next-width m m.temperature.schedule temperature t), tt),
                ),
              ),
            ),
          ),
        ),
      ),
    )

-- ---- the commands

flight-fields : (judged : Bool) (w : ℕ) → width (flight_fields judged w) ≤ 11
unfolding width flight_fields ascii
flight-fields judged w =
    cond-width judged _ [] 11
    (rw (width-append)
    (omega (arith, where-width (eqb (bits 15 8 w) 0) (ascii " PL 0"), where-width (eqb (bits 7 4 w) 0) (ascii " DPL 0"))))
    (omega arith)

temperature-fields : (judged : Bool) (w : ℕ) → width (temperature_fields judged w) ≤ 7
unfolding width temperature_fields ascii
temperature-fields judged w =
    cond-width judged _ [] 7
    (cond-width (eqb (bits 6 5 w) 3) [] _ 7 (omega arith) (omega (arith, binary-width (bits 6 5 w) (omega arith))))
    (omega arith)

clock-fields : (judged : Bool) (w : ℕ) → width (clock_fields judged w) ≤ 7
unfolding width clock_fields ascii
clock-fields judged w = cond-width judged _ [] 7 (omega (arith, where-width (is_set 4 w) (ascii " EOSC 1"))) (omega arith)

fields-width : (m : Model) (op : ℕ) → width (fields m op) ≤ 25
unfolding fields
fields-width m op =
    rw (width-append, width-append)
    (omega (
      arith,
      flight-fields (starts_flight op) (read_word m 0xB8),
      temperature-fields (starts_temperature op) (read_word m 0xC0),
      clock-fields (is_event op) (read_word m 0xC3),
    ))

word-length : (ws : List String) (n : ℕ) → All (λ (s : String). length (ascii s) ≤ 15) ws → length (ascii (get_or ws n "unknown")) ≤ 15
unfolding ascii
word-length [] n a = omega arith
word-length (s ∷ ws) zero a = a.0
word-length (s ∷ ws) (suc n) a = word-length ws n a.1

refusal-word : (n : ℕ) → length (ascii (refusal_word n)) ≤ 15
unfolding refusal_word refusal_words ascii
refusal-word n = word-length refusal_words n (omega arith, (omega arith, (omega arith, (omega arith, (omega arith, (omega arith, (omega arith, (omega arith, (omega arith, (omega arith, (omega arith, (omega arith, (omega arith, (omega arith, (omega arith, (omega arith, (omega arith, (omega arith, (omega arith, (omega arith, (omega arith, (omega arith, tt))))))))))))))))))))))

refusal-width : (n : ℕ) → n ≤ 17 → width (refusal n) ≤ 22
unfolding width refusal ascii
refusal-width n h = omega (arith, decimal-width 1 n (omega arith), refusal-word n)

nine-width : width (refusal 9) ≡ 12
unfolding width refusal refusal_word refusal_words decimal decimal_width width_from digits glyph ascii
nine-width = refl

refused-width : (m : Model) (op n : ℕ) → n ≤ 17 → width (refused_texts m op n) ≤ 38
unfolding width refused_texts ascii
refused-width m op n h =
    by_eqb n 9
    (λ e t. rw (t, e, width-append) (omega (arith, nine-width, fields-width m op)))
    (λ e t. rw (t, width-append) (omega (arith, refusal-width n h)))

first-few : (rs : List Row) (n : Refusal) → All (λ (r : Row). number r.refusal ≤ 17) rs → FirstRow rs n → number n ≤ 17
first-few [] n a f = absurd f
first-few (r ∷ rs) n a f = ⊎_elim (λ h. rw h.1 at a.0) (λ h. first-few rs n a.1 h.1) f

-- a transaction is refused with one of the table's numbers
number-few : (m : Model) (c : Call) (r : Refusal) → verdict m c ≡ refused r → number r ≤ 17
unfolding verdict table
number-few m c r e = first-few (table m c) r (omega arith, (omega arith, (omega arith, (omega arith, (omega arith, (omega arith, (omega arith, (omega arith, (omega arith, (omega arith, (omega arith, (omega arith, (omega arith, (omega arith, (omega arith, (omega arith, tt)))))))))))))))) ((refused-means (table m c) r).0 e)

answer-width : (m : Model) (op : ℕ) (frame : List ℕ) → width (answer_texts m op (number_in (answer_to m frame))) ≤ 38
unfolding width answer_to answer_texts ascii
answer-width m op frame = go (verdict m call) refl
  where
    call : Call
    call = Call.transaction frame (replicate 2 0) (replicate 8192 0)

    go : (v : Verdict) → verdict m call ≡ v → width (answer_texts m op (number_in (reply m call).answer)) ≤ 38
    go accepted e = rw (number-accepted m call e) (omega arith)
    go (refused r) e = rw (number-refused m call r e) (refused-width m op (number r) (number-few m call r e))

frame-narrow : (m : Model) (label : List ℕ) (op : ℕ) (frame : List ℕ) → length label ≡ 42 → width (frame_row m label op frame) ≤ 80
unfolding width frame_row
frame-narrow m label op frame h = omega (arith, answer-width m op frame)

command-narrow : (m : Model) (label : List ℕ) (op : ℕ) → length label ≡ 42 → width (command_row m label op) ≤ 80
unfolding command_row
command-narrow m label op h = frame-narrow m label op (op ∷ []) h

command-rows : (m : Model) → All (λ (row : Texts). width row ≤ 80) (command_rows m)
unfolding width command_rows flash_row write_row ascii
command-rows m = (omega arith, (command-narrow m _ _ refl, (command-narrow m _ _ refl, (command-narrow m _ _ refl, (command-narrow m _ _ refl, (command-narrow m _ _ refl, (command-narrow m _ _ refl, (command-narrow m _ _ refl, (frame-narrow m _ _ _ refl, (frame-narrow m _ _ _ refl, tt))))))))))

-- ---- the page

joined-narrow : (rows : List Texts) → All (λ (row : Texts). width row ≤ 80) rows → All (λ (row : Texts). length (joined row) ≤ 80) rows
joined-narrow [] a = tt
joined-narrow (row ∷ rows) a = (rw (width-joined row) a.0, joined-narrow rows a.1)

-- No row has more than 80 characters, for every model, sound or not, whose waits are numbers of 32 bits, as those of the code are
pub page-narrow : (m : Model) → m.flight.schedule.wait.0 < 2 ^ 32 → m.temperature.schedule.wait.0 < 2 ^ 32
    → All (λ (row : Texts). length (joined row) ≤ 80) (page m)
unfolding page
page-narrow m f t =
    let P : Texts → Type 0 = λ row. width row ≤ 80 in
    let from8 : List Texts = run_rows m ++ command_rows m in
    let from7 : List Texts = last_rows m ++ from8 in
    let from6 : List Texts = port_rows m ++ from7 in
    let from5 : List Texts = difference_rows m ++ from6 in
    let from4 : List Texts = down_rows m ++ from5 in
    let from3 : List Texts = up_rows m ++ from4 in
    let from2 : List Texts = more_setup_rows m ++ from3 in
    let from1 : List Texts = setup_rows m ++ from2 in
    joined-narrow (page m)
    (all_append P (clock_rows m) from1 (clock-rows m)
    (all_append P (setup_rows m) from2 (setup-rows m)
    (all_append P (more_setup_rows m) from3 (more-setup-rows m)
    (all_append P (up_rows m) from4 (up-rows m)
    (all_append P (down_rows m) from5 (down-rows m)
    (all_append P (difference_rows m) from6 (difference-rows m)
    (all_append P (port_rows m) from7 (port-rows m)
    (all_append P (last_rows m) from8 (last-rows m)
    (all_append P (run_rows m) (command_rows m) (run-rows m f t) (command-rows m))))))))))
