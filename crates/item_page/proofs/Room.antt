-- How long the page is at most. Assumes nothing.
use Prim.Native.Nat.{ℕ, zero, suc, ◌+◌, ◌-◌, ◌*◌, ◌/◌, ◌%◌, ◌≤◌, min}
use Prim.Native.String.{String}
use native.Mathlib.Omega.{arith}
use mathlib.Core.Bool.{Bool, true, false}
use mathlib.Core.List.{List, [], ◌∷◌, ◌++◌}
use mathlib.Core.Path.{◌≡◌}
use lib.Dec.{ltb, leb, eqb}
use lib.ListN.{length, get_or, replicate, length-append, length-replicate}
use Rattle.unit.specs.Choice.{pick, both, negate}
use Rattle.unit.specs.Bits.{bits, is_set}
use Rattle.unit.proofs.Cases.{by-test}
use Rattle.calendar.specs.Words.{twelve_in}
use Rattle.setup.specs.Table11.{stop_row, timeout_row}
use Rattle.hit.specs.Mean.{All}
use Rattle.numeral.specs.Ascii.{ascii}
use Rattle.numeral.specs.Digit.{digits}
use Rattle.numeral.specs.Print.{four_decimals, ten_thousandths, nanoseconds, signed_nanoseconds}
use Rattle.listing.specs.Listing.{right_justified}
use Rattle.device.specs.declared.Model.{Model}
use Rattle.device.specs.declared.Schedule.{Schedule}
use Rattle.device.specs.Event.{in_event, starts_left}
use Rattle.device.specs.Registers.{register_word}
use Rattle.device.specs.Bus.{starts_flight, starts_temperature, is_event}
use Rattle.device.specs.Call.{Call}
use Rattle.device.specs.Reply.{reply, number_in}
use Rattle.text.specs.Text.{Text, spaced_each, ended_each}
use Rattle.text.proofs.Lengths.{decimal-most, pick-most, where-most, spaced-none, spaced-first, spaced-both, spaced-most, lines_none, lines-first, lines-both}
use Rattle.item_page.specs.Row.{pair_word, register_row, pair_row, stored_row, absent_row, absent_pair, plural, binary, name_where, names_or, refusal_words, refusal}
use Rattle.item_page.specs.Registers.{seconds, time_of_day, half_day, clock_text, alarm_text, clock_rows, pulses, divider, hits_text, half_seconds, timing1_text, timing2_text, control_names, oscillator_text, setup_rows, time, signed_time, result_text, port_text, difference_text, result_row, port_row, count_row, flight_rows, temperature_rows, high_names, low_names, status_rows, supply_row, register_rows}
use Rattle.item_page.specs.Page.{awaited_text, event_text, wait_text, next_text, run_rows, flight_fields, temperature_fields, clock_fields, fields, answer_text, frame_row, command_rows, page}

-- ---- what rows are made of

register-long :
    (label : String) (w : ℕ) (meaning : Text) → length (register_row label w meaning) ≡ length (ascii label) + 11 + length meaning
unfolding register_row ascii digits
register-long label w meaning = simp length-append (omega arith)

pair-long : (label : String) (w : ℕ) (meaning : Text) → length (pair_row label w meaning) ≡ length (ascii label) + 11 + length meaning
unfolding pair_row ascii digits
pair-long label w meaning = simp length-append (omega arith)

plural-most : (n : ℕ) (what : String) → length (plural n what) ≤ 21 + length (ascii what)
unfolding plural ascii
plural-most n what = simp length-append (omega (arith, decimal-most n, where-most (ltb 1 n) (ascii "s")))

binary-most : (v : ℕ) → length (binary v) ≤ 41
unfolding binary ascii
binary-most v = simp length-append (omega (arith, decimal-most (v / 2), decimal-most (v % 2)))

-- a name that may be there, after its blank
name-most : (t : Bool) (name : String) → length (spaced_each (name_where t name)) ≤ suc (length (ascii name))
unfolding name_where
name-most true name = rw (spaced-first, spaced-none) (omega arith)
name-most false name = rw spaced-none (omega arith)

names-most : (ts : List Text) → length (names_or "none" ts) ≤ 4 + length (spaced_each ts)
unfolding names_or ascii
names-most [] = omega arith
names-most (t ∷ ts) = omega (arith, spaced-most (t ∷ ts))

where-spaced : (t : Bool) (ts : List Text) (n : ℕ) → length (spaced_each ts) ≤ n → length (spaced_each (pick t ts [])) ≤ n
where-spaced true ts n h = h
where-spaced false ts n h = rw spaced-none (omega arith)

-- ---- the clock and the alarm

half-most : (w : ℕ) → length (half_day w) ≤ 3
unfolding half_day ascii
half-most w =
    pick-most (twelve_in w) _ [] 3 (pick-most (is_set 5 w) (ascii " PM") (ascii " AM") 3 (omega arith) (omega arith)) (omega arith)

alarm-most : (mode : ℕ) → length (alarm_text mode) ≤ 25
unfolding alarm_text ascii
alarm-most mode =
    pick-most (eqb mode 0b00) _ _ 25 (omega arith)
    (pick-most (eqb mode 0b01) _ _ 25 (omega arith) (pick-most (eqb mode 0b10) _ _ 25 (omega arith) (omega arith)))

clock-most : (at : ℕ → ℕ) → length (ended_each (clock_rows at)) ≤ 1000
unfolding clock_rows clock_text time_of_day seconds stored_row digits ascii
clock-most at =
    simp (lines-first, lines_none, register-long, length-append)
    (omega (arith, half-most (at 0xB1), half-most (at 0xB5), alarm-most (bits 3 2 (at 0xC3)), decimal-most (at 0xB2 / 256)))

-- ---- the set-up

pulses-most : (pl : ℕ) → length (pulses pl) ≤ 40
unfolding pulses ascii
pulses-most pl = pick-most (eqb pl 0) _ _ 40 (omega arith) (omega (arith, plural-most (min pl 127) " pulse"))

divider-most : (dpl : ℕ) → length (divider dpl) ≤ 40
unfolding divider ascii
divider-most dpl = pick-most (eqb dpl 0) _ _ 40 (omega arith) (omega (arith, decimal-most (dpl + 1)))

hits-most : (w : ℕ) → length (hits_text w) ≤ 80
unfolding hits_text ascii
hits-most w =
    simp length-append
    (omega (arith, plural-most (stop_row (bits 15 13 w)) " hit", decimal-most (timeout_row (bits 2 0 w))))

half-seconds-most : (n : ℕ) → length (half_seconds n) ≤ 41
unfolding half_seconds ascii
half-seconds-most n = simp length-append (omega (arith, decimal-most (n / 2), decimal-most (n % 2 * 5)))

timing1-most : (w : ℕ) → length (timing1_text w) ≤ 150
unfolding timing1_text ascii
timing1-most w =
    simp length-append
    (omega
    (arith, half-seconds-most (bits 15 12 w + 1), plural-most (bits 11 7 w + 1) " cycle", decimal-most (bits 6 1 w + 1)))

timing2-most : (w : ℕ) → length (timing2_text w) ≤ 150
unfolding timing2_text ascii
timing2-most w =
    simp length-append
    (omega (
      arith,
      plural-most (bits 15 11 w + 1) " cycle",
      binary-most (bits 6 5 w),
      decimal-most (128 * (bits 1 0 w + 1)),
    ))

control-most : (w : ℕ) → length (names_or "none" (control_names w)) ≤ 30
unfolding control_names ascii
control-most w =
    let names : length (spaced_each (control_names w)) ≤ 24 =
    simp spaced-both (omega (arith, name-most (is_set 9 w) "INT_EN", name-most (is_set 8 w) "ET_CONT", name-most (is_set 7 w) "CONT_INT")) in
    omega (arith, names-most (control_names w))

oscillator-most : (w : ℕ) → length (oscillator_text w) ≤ 80
unfolding oscillator_text ascii
oscillator-most w =
    simp length-append
    (omega (
      arith,
      pick-most (is_set 4 w) (ascii "EOSC 1 clock stands, AM ") (ascii "EOSC 0 clock runs, AM ") 24 (omega arith) (omega arith),
      binary-most (bits 3 2 w),
    ))

setup-most : (at : ℕ → ℕ) → length (ended_each (setup_rows at)) ≤ 3000
unfolding setup_rows stored_row ascii
setup-most at =
    simp (lines-first, lines_none, register-long, length-append)
    (omega (
      arith,
      pulses-most (bits 15 8 (at 0xB8)),
      divider-most (bits 7 4 (at 0xB8)),
      hits-most (at 0xB9),
      timing1-most (at 0xBF),
      timing2-most (at 0xC0),
      control-most (at 0xC2),
      oscillator-most (at 0xC3),
    ))

-- ---- the results

nanoseconds-most : (w : ℕ) → length (nanoseconds w) ≤ 25
unfolding nanoseconds four_decimals digits
nanoseconds-most w = simp length-append (omega (arith, decimal-most (ten_thousandths w / 10000)))

signed-most : (w : ℕ) → length (signed_nanoseconds w) ≤ 26
unfolding signed_nanoseconds
signed-most w =
    by-test (ltb w 2147483648) (λ e. rw e (omega (arith, nanoseconds-most w)))
    (λ e. rw e (omega (arith, nanoseconds-most (4294967296 - w))))

justified-most : (text : Text) → length text ≤ 26 → length (right_justified 14 text ++ ascii " ns") ≤ 60
unfolding right_justified ascii
justified-most text h = simp length-append (omega (arith, h, length-replicate {A = ℕ} (14 - length text) 32))

result-most : (w : ℕ) → length (result_text w) ≤ 60
unfolding result_text time ascii
result-most w =
    pick-most (eqb w 0xFFFFFFFF) _ _ 60 (omega arith) (justified-most (nanoseconds w) (omega (arith, nanoseconds-most w)))

port-most : (w : ℕ) → length (port_text w) ≤ 60
unfolding port_text ascii
port-most w = pick-most (eqb w 0) _ _ 60 (omega arith) (result-most w)

signed-time-most : (w : ℕ) → length (signed_time w) ≤ 60
unfolding signed_time
signed-time-most w = justified-most (signed_nanoseconds w) (signed-most w)

difference-most : (w up : ℕ) → length (difference_text w up) ≤ 60
unfolding difference_text ascii
difference-most w up =
    pick-most (both (eqb up 0xFFFFFFFF) (eqb w 0xFFFFFFFF)) _ _ 60 (omega arith) (signed-time-most w)

flight-most : (at pair : ℕ → ℕ) → length (ended_each (flight_rows at pair)) ≤ 3000
unfolding flight_rows absent_row result_row count_row ascii
flight-most at pair =
    simp (lines-first, lines_none, register-long, pair-long, length-append)
    (omega (
      arith,
      result-most (pair 0xC5),
      result-most (pair 0xC7),
      result-most (pair 0xC9),
      result-most (pair 0xCB),
      result-most (pair 0xCD),
      result-most (pair 0xCF),
      result-most (pair 0xD1),
      result-most (pair 0xD4),
      result-most (pair 0xD6),
      result-most (pair 0xD8),
      result-most (pair 0xDA),
      result-most (pair 0xDC),
      result-most (pair 0xDE),
      result-most (pair 0xE0),
      difference-most (pair 0xE2) (pair 0xD1),
      decimal-most (at 0xE4),
      signed-time-most (pair 0xE5),
    ))

temperature-most : (at pair : ℕ → ℕ) → length (ended_each (temperature_rows at pair)) ≤ 2000
unfolding temperature_rows port_row result_row count_row absent_pair ascii
temperature-most at pair =
    simp (lines-first, lines_none, register-long, pair-long, length-append)
    (omega (
      arith,
      port-most (pair 0xE7),
      port-most (pair 0xE9),
      port-most (pair 0xEB),
      port-most (pair 0xED),
      decimal-most (at 0xEF),
      result-most (pair 0xF0),
      result-most (pair 0xF2),
      result-most (pair 0xF4),
      result-most (pair 0xF6),
    ))

-- ---- the status

high-most : (w : ℕ) → length (spaced_each (high_names w)) ≤ 50
unfolding high_names ascii
high-most w =
    simp spaced-both
    (omega (
      arith,
      name-most (is_set 15 w) "TO",
      name-most (is_set 14 w) "AF",
      name-most (is_set 12 w) "TOF",
      name-most (is_set 11 w) "TE",
      name-most (is_set 10 w) "LDO",
      name-most (is_set 9 w) "TOF_EVTMG",
      name-most (is_set 8 w) "TEMP_EVTMG",
    ))

low-most : (w : ℕ) → length (spaced_each (low_names w)) ≤ 30
unfolding low_names ascii
low-most w =
    simp spaced-both
    (omega (
      arith,
      name-most (is_set 7 w) "FLASH",
      name-most (is_set 5 w) "HALT",
      name-most (is_set 3 w) "INIT",
      name-most (is_set 2 w) "POR",
    ))

status-most : (w : ℕ) → length (ended_each (status_rows w)) ≤ 300
unfolding status_rows ascii
status-most w =
    let high = high-most w in
    let low = low-most w in
    by-test (both (leb 256 w) (negate (eqb (w % 256) 0)))
    (λ e. rw e
    (simp (lines-first, lines_none, register-long, length-append)
    (omega (arith, high, low, spaced-most (high_names w), spaced-most (low_names w)))))
    (λ e. rw e
    (simp (lines-first, lines_none, register-long)
    (omega (arith, high, low, names-most (high_names w ++ low_names w), spaced-both (high_names w) (low_names w)))))

registers-most : (m : Model) → length (ended_each (register_rows m)) ≤ 10000
unfolding register_rows supply_row absent_row ascii
registers-most m =
    simp (lines-both, lines-first, lines_none, register-long, length-append)
    (omega (
      arith,
      clock-most (register_word m),
      setup-most (register_word m),
      flight-most (register_word m) (pair_word m),
      temperature-most (register_word m) (pair_word m),
      status-most (register_word m 0xFE),
      pick-most m.regulator (ascii "on") (ascii "off") 3 (omega arith) (omega arith),
    ))

-- ---- the state of the run

awaited-most : (k : Schedule) → length (awaited_text k) ≤ 50
unfolding awaited_text ascii
awaited-most k = pick-most (eqb k.left.0 0) _ _ 50 (omega arith) (omega (arith, plural-most k.left.0 " tick"))

event-most : (k : Schedule) → length (event_text k) ≤ 150
unfolding event_text ascii
event-most k =
    pick-most (in_event k) _ _ 150
    (simp length-append
    (omega (arith, decimal-most k.started, decimal-most k.planned, decimal-most k.settled, decimal-most k.good)))
    (omega arith)

wait-most : (k : Schedule) → length (wait_text k) ≤ 50
unfolding wait_text ascii
wait-most k = pick-most (starts_left k) _ _ 50 (omega (arith, plural-most k.wait.0 " tick")) (omega arith)

next-most : (k : Schedule) → length (next_text k) ≤ 80
unfolding next_text ascii
next-most k =
    pick-most (in_event k) _ _ 80
    (simp length-append (omega (arith, wait-most k, where-most k.continuous (ascii ", continuous"))))
    (omega arith)

run-most : (m : Model) → length (ended_each (run_rows m)) ≤ 2000
unfolding run_rows ascii
run-most m =
    let f : Schedule = m.flight.schedule in
    let t : Schedule = m.temperature.schedule in
    simp (lines-first, lines_none, length-append)
    (omega (
      arith,
      pick-most m.initialised (ascii "yes") (ascii "no") 3 (omega arith) (omega arith),
      awaited-most f,
      awaited-most t,
      event-most f,
      next-most f,
      event-most t,
      next-most t,
    ))

-- ---- commands

word-most : (ws : List String) (n : ℕ) → All (λ s. length (ascii s) ≤ 15) ws → length (ascii (get_or ws n "")) ≤ 15
unfolding ascii
word-most [] n h = omega arith
word-most (w ∷ ws) zero h = h.0
word-most (w ∷ ws) (suc n) h = word-most ws n h.1

words-most : All (λ s. length (ascii s) ≤ 15) refusal_words
unfolding refusal_words ascii
words-most = omega arith

pub refusal-most : (number : ℕ) → length (refusal number) ≤ 39
unfolding refusal ascii
refusal-most number = simp length-append (omega (arith, decimal-most number, word-most refusal_words number words-most))

flight-fields-most : (w : ℕ) → length (spaced_each (flight_fields w)) ≤ 11
unfolding flight_fields ascii
flight-fields-most w =
    simp spaced-both (omega (arith, name-most (eqb (bits 15 8 w) 0) "PL 0", name-most (eqb (bits 7 4 w) 0) "DPL 0"))

temperature-fields-most : (w : ℕ) → length (spaced_each (temperature_fields w)) ≤ 45
unfolding temperature_fields ascii
temperature-fields-most w =
    by-test (eqb (bits 6 5 w) 0b11) (λ e. rw (e, spaced-none) (omega arith))
    (λ e. rw (e, spaced-first, spaced-none) (omega (arith, binary-most (bits 6 5 w))))

clock-fields-most : (w : ℕ) → length (spaced_each (clock_fields w)) ≤ 7
unfolding clock_fields ascii
clock-fields-most w = name-most (is_set 4 w) "EOSC 1"

fields-most : (m : Model) (op : ℕ) → length (spaced_each (fields m op)) ≤ 63
unfolding fields
fields-most m op =
    simp spaced-both
    (omega (
      arith,
      where-spaced (starts_flight op) _ 11 (flight-fields-most (register_word m 0xB8)),
      where-spaced (starts_temperature op) _ 45 (temperature-fields-most (register_word m 0xC0)),
      where-spaced (is_event op) _ 7 (clock-fields-most (register_word m 0xC3)),
    ))

answer-most : (m : Model) (op : ℕ) (numbers : List ℕ) → length (answer_text m op numbers) ≤ 110
unfolding answer_text ascii
answer-most m op [] = omega arith
answer-most m op (number ∷ none) =
    simp length-append
    (omega (
      arith,
      refusal-most number,
      where-most (eqb number 9) (ascii ":" ++ spaced_each (fields m op)),
      fields-most m op,
    ))

frame-most : (m : Model) (label : String) (op : ℕ) (further : List ℕ) → length (frame_row m label op further) ≤ length (ascii label) + 110
unfolding frame_row
frame-most m label op further =
    simp length-append
    (omega
    (arith, answer-most m op (number_in (reply m (Call.transaction (op ∷ further) (replicate 2 0) (replicate 8192 0))).answer)))

commands-most : (m : Model) → length (ended_each (command_rows m)) ≤ 2000
unfolding command_rows ascii
commands-most m =
    simp (lines-first, lines_none)
    (omega (
      arith,
      frame-most m "00-02  TOF_UP, TOF_DOWN, TOF_DIFF          " 0x00 [],
      frame-most m "03     Temperature                         " 0x03 [],
      frame-most m "05     Initialize                          " 0x05 [],
      frame-most m "07     EVTMG1, both kinds                  " 0x07 [],
      frame-most m "08     EVTMG2, differences                 " 0x08 [],
      frame-most m "09     EVTMG3, temperatures                " 0x09 [],
      frame-most m "0C 0D  LDO_ON, LDO_OFF                     " 0x0C [],
      frame-most m "10 13  Flash write, erase, read (90)       " 0x90 (0 ∷ 0 ∷ 0 ∷ 0 ∷ []),
      frame-most m "30-43  Register writes                     " 0x34 (0 ∷ 0 ∷ []),
    ))

-- The whole page.
pub page-most : (m : Model) → length (ended_each (page m)) ≤ 14000
unfolding page
page-most m = simp lines-both (omega (arith, registers-most m, run-most m, commands-most m))
