-- The rows of the page: those of the clock and of the set-up, as the chip's definitions give them, and that their numbers read back. Assumes
-- nothing.
use Prim.Native.Nat.{ℕ, zero, suc, ◌+◌, ◌-◌, ◌*◌, ◌/◌, ◌%◌, ◌^◌, ◌≤◌, ◌<◌, min}
use Prim.Native.String.{String}
use mathlib.Core.Bool.{Bool, true, false, cond}
use mathlib.Core.List.{List, [], ◌∷◌, ◌++◌, map}
use mathlib.Core.Path.{◌≡◌, refl, ◌∙◌}
use native.Mathlib.Nat.{zero-mul, zero-add, pow-le-pow_right}
use native.Mathlib.Omega.{arith}
use lib.Dec.{ltb, eqb}
use lib.ListN.{get_or, length}
use borrow.Author.Tests.{eq-eqb, ne_eqb, eqb-true, eqb-false}
use Rattle.unit.specs.Bits.{bits, is_set}
use Rattle.unit.specs.Choice.{either, negate}
use Rattle.unit.proofs.Cases.{by-test, by_eqb, by-ltb}
use Rattle.calendar.specs.Words.{word32, word33, minute_in, twelve_in, hour_named}
use Rattle.calendar.proofs.Laws.{bounds, month-length}
use Rattle.calendar.proofs.Places.{date-shown, year-shown}
use Rattle.calendar.specs.Valid.{AlarmValid}
use Rattle.calendar.proofs.Validity.{alarm-means}
use Rattle.setup.specs.Setup.{word_of, alarm_word, alarm_mode, hit_count, timeout, difference_period, difference_count, temperature_period, temperature_count, port_cycle, interrupt_enabled, event_continuous, each_interrupt, clock_stands}
use Rattle.setup.specs.Table11.{timeout_row}
use Rattle.setup.proofs.Laws.{hits-bounds, difference-count-bounds, temperature-count-bounds, timeout-below, cycle-below, temperature-period-bounds}
use Rattle.setup.proofs.Rows.{hits-row, timeout-periods}
use Rattle.hit.specs.Limit.{late_from, open_from}
use Rattle.numeral.specs.Read.{read_decimal}
use Rattle.numeral.specs.Digit.{digits, glyph, value_of}
use Rattle.numeral.specs.Print.{width_from, decimal_width, decimal, ten_thousandths, four_decimals, nanoseconds}
use Rattle.numeral.proofs.DigitLaws.{length_digits, value-in-digits, value-append}
use Rattle.numeral.proofs.PrintLaws.{width_one, decimal-value, decimal-reads-back}
use Rattle.device.specs.declared.Model.{Model}
use Rattle.device.specs.Model.{is_sound}
use Rattle.device.specs.Registers.{calendar_word, register_word}
use Rattle.device.proofs.Sound.{bounds_of}
use Rattle.device.proofs.RegisterMeaning.{reads-setup}
use Rattle.numeral.specs.Ascii.{ascii}
use Rattle.wording.specs.Wording.{Texts, counted, reported_where}
use Rattle.item_state.specs.Told.{read_word}
use Rattle.page.specs.Row.{register_row, stored_row, plural, binary}
use Rattle.page.specs.Clock.{hours, time_of_day, half_day, seconds_row, time_row, day_row, month_row, alarm_texts, alarm_row, clock_rows}
use Rattle.page.specs.Setup.{pulses, divider, tof1_row, tof2_row, half_seconds, timing1_row, timing2_row, control_row, clock_state, oscillator_row, setup_rows, more_setup_rows}
use Rattle.page.specs.Results.{up_rows, down_rows, difference_rows, port_rows, last_rows}
use Rattle.page.specs.Page.{page}
use Rattle.page.proofs.Meaning.{word_read, clock-shown, half-clock-shown, two-of, two-above, high_part, seconds-text, full-time-text, half-time-text}
use Rattle.page.proofs.Values.{setup-read}
use Rattle.std.specs.Prelude.{Some}

-- Row i of the page, from 0 on.
abbrev pub row : Model → ℕ → Texts
row m i = get_or (page m) i []

-- a word in four hexadecimal digits, and two decimal digits
abbrev pub hex : ℕ → List ℕ
hex w = digits 16 4 w

abbrev pub two : ℕ → List ℕ
two n = digits 10 2 n

-- the row of the register at address a, whose address and name are the label
abbrev pub one : Model → String → ℕ → Texts → Texts
one m label a meaning = ascii label ∷ hex (register_word m a) ∷ ascii "      " ∷ meaning

abbrev pub stored : Model → String → ℕ → Texts
stored m label a = one m label a (ascii " stored only" ∷ [])

-- a number and what it counts, in the plural from 2 on
abbrev pub several : ℕ → String → Texts
several n what = decimal n ∷ ascii what ∷ cond (ltb n 2) [] (ascii "s" ∷ [])

-- a name, where a test holds
abbrev pub named : Bool → String → Texts
named holds name = cond holds (ascii name ∷ []) []

-- "PL (15:8 of 38h)", "DPL (7:4)", "TP (6:5 of 40h)"
abbrev pub pulses_of : Model → ℕ
pulses_of m = bits 15 8 (word_of m.setup 0x38)

abbrev pub divider_of : Model → ℕ
divider_of m = bits 7 4 (word_of m.setup 0x38)

abbrev pub ports_of : Model → ℕ
ports_of m = bits 6 5 (word_of m.setup 0x40)

-- The headings of the registers.
pub headings-shown : (m : Model) →
    map (row m) (0 ∷ 8 ∷ 23 ∷ 55 ∷ [])
    ≡ (ascii "RTC AND WATCHDOG REGISTERS" ∷ [])
    ∷ (ascii "CONFIGURATION REGISTERS" ∷ [])
    ∷ (ascii "CONVERSION RESULTS REGISTERS" ∷ [])
    ∷ (ascii "STATUS REGISTERS" ∷ [])
    ∷ []
unfolding page clock_rows setup_rows more_setup_rows up_rows down_rows difference_rows port_rows last_rows
headings-shown m = refl

-- ---- what the rows are made of, over plain numbers

-- what AM's values 00b to 11b are named
abbrev mode_names : List String
mode_names = ", no alarm" ∷ ", minutes match" ∷ ", hours match" ∷ ", hours and minutes match" ∷ []

mode-named : (mode : ℕ) → mode < 4 → alarm_texts mode ≡ ascii (get_or mode_names mode "") ∷ []
unfolding alarm_texts
mode-named zero h = refl
mode-named (suc zero) h = refl
mode-named (suc (suc zero)) h = refl
mode-named (suc (suc (suc zero))) h = refl
mode-named (suc (suc (suc (suc n)))) h = absurd (omega arith)

-- two digits of BCD print as the number that they make
pair-text : (t o x : ℕ) → t ≤ 9 → o ≤ 9 → x ≡ t * 16 + o → digits 16 2 x ≡ two (t * 10 + o)
pair-text t o x h k e =
    let tens : (t * 10 + o) / 10 ≡ t = omega arith in
    let ones : (t * 10 + o) % 10 ≡ o = omega arith in
    two-of 0 (t * 10 + o) x (omega arith) (rw (tens, ones) (omega arith))

-- the minutes, and the hours in either form, of a word whose digits are 0 to 9
minutes-text : (w : ℕ) → w / 256 % 16 ≤ 9 → digits 16 2 (bits 14 8 w) ≡ two (minute_in w)
unfolding minute_in
minutes-text w h =
    let q : w / 4096 ≡ w / 256 / 16 = omega arith in
    pair-text (bits 14 12 w) (bits 11 8 w) (bits 14 8 w) (omega arith) h (rw q (omega arith))

full-hours-text : (w : ℕ) → w % 16 ≤ 9 → digits 16 2 (bits 5 0 w) ≡ two (bits 5 4 w * 10 + bits 3 0 w)
full-hours-text w h = pair-text (bits 5 4 w) (bits 3 0 w) (bits 5 0 w) (omega arith) h (omega arith)

half-hours-text : (w : ℕ) → w % 16 ≤ 9 → digits 16 2 (bits 4 0 w) ≡ two (bits 4 4 w * 10 + bits 3 0 w)
half-hours-text w h = pair-text (bits 4 4 w) (bits 3 0 w) (bits 4 0 w) (omega arith) h (omega arith)

-- the time of a valid word of the alarm, in 24-hour form and in 12-hour form
full-alarm : (w : ℕ) → AlarmValid w → twelve_in w ≡ false
    → (time_of_day w ≡ two (hour_named w) ∷ ascii ":" ∷ two (minute_in w) ∷ []) × (half_day w ≡ [])
unfolding time_of_day half_day hours hour_named twelve_in
full-alarm w a form =
    let zero_bit : w / 64 % 2 ≡ 0 = omega (arith, eqb-false (w / 64 % 2) 1 form) in (
      rw (form, full-hours-text w a.hours, minutes-text w a.minutes),
      rw (ne_eqb (bits 6 5 w) 2 (λ e. omega arith), ne_eqb (bits 6 5 w) 3 (λ e. omega arith)),
    )

half-alarm : (w : ℕ) → AlarmValid w → twelve_in w ≡ true
    → (time_of_day w ≡ two (hour_named w) ∷ ascii ":" ∷ two (minute_in w) ∷ []) × (half_day w ≡ cond (is_set 5 w) (ascii " PM") (ascii " AM") ∷ [])
unfolding time_of_day half_day hours hour_named twelve_in
half-alarm w a form =
    let set-bit : w / 64 % 2 ≡ 1 = eqb-true (w / 64 % 2) 1 form in
    let above : w / 64 ≡ w / 32 / 2 = omega arith in
    let link : bits 6 5 w ≡ 2 + w / 32 % 2 = omega arith in (
      rw (form, half-hours-text w a.hours, minutes-text w a.minutes),
      by_eqb (w / 32 % 2) 1
          (λ h e. rw (e, ne_eqb (bits 6 5 w) 2 (λ z. omega arith), eq-eqb (bits 6 5 w) 3 (omega arith)))
          (λ h e. rw (e, eq-eqb (bits 6 5 w) 2 (omega arith))),
    )

-- three bits are 0 together exactly where none of them is 1
three-bits : (v : ℕ) → v % 8 ≡ v / 2 / 2 % 2 * 4 + v / 2 % 2 * 2 + v % 2
three-bits v = omega arith

no_bits : (w : ℕ) → eqb (bits 9 7 w) 0 ≡ negate (either (is_set 9 w) (either (is_set 8 w) (is_set 7 w)))
no_bits w =
    let second : w / 256 ≡ w / 128 / 2 = omega arith in
    let third : w / 512 ≡ w / 128 / 2 / 2 = omega arith in
    let sum : bits 9 7 w ≡ w / 512 % 2 * 4 + w / 256 % 2 * 2 + w / 128 % 2 = rw (third, second) (three-bits (w / 128)) in
    by_eqb (w / 512 % 2) 1 (λ h e. rw (e, ne_eqb (bits 9 7 w) 0 (λ z. omega arith)))
    (λ h e. by_eqb (w / 256 % 2) 1 (λ i f. rw (e, f, ne_eqb (bits 9 7 w) 0 (λ z. omega arith)))
    (λ i f. by_eqb (w / 128 % 2) 1
    (λ j g. rw (e, f, g, ne_eqb (bits 9 7 w) 0 (λ z. omega arith)))
    (λ j g. rw (e, f, g, eq-eqb (bits 9 7 w) 0 (omega arith)))))

module _ (m : Model) (s : is_sound m ≡ true) where
  -- ---- the clock

  -- `SS.HH s`
  pub seconds-row :
      row m 1
      ≡ one m "B0     Seconds                  " 0xB0
      (ascii " " ∷ two m.clock.second ∷ ascii "." ∷ two (m.clock.ticks.0 * 100 / 32768) ∷ ascii " s" ∷ [])
  unfolding page clock_rows seconds_row register_row register_word calendar_word
  seconds-row = rw (word_read m 0xB0 s (omega arith) (omega arith), seconds-text m.clock (bounds_of m s).clock)

  -- `HH:MM`, in 12-hour form with AM or PM
  pub time-row :
      m.clock.twelve ≡ false →
      row m 2
      ≡ one m "B1     Mins_Hrs                 " 0xB1
      (ascii " " ∷ two m.clock.hour ∷ ascii ":" ∷ two m.clock.minute ∷ [])
  unfolding page clock_rows time_row register_row register_word calendar_word
  time-row form =
      let e = full-time-text m.clock (bounds_of m s).clock form in
      rw (word_read m 0xB1 s (omega arith) (omega arith), e.0, e.1)

  pub half-time-row :
      m.clock.twelve ≡ true →
      row m 2
      ≡ one m "B1     Mins_Hrs                 " 0xB1
      (ascii " "
      ∷ two ((m.clock.hour + 11) % 12 + 1) ∷ ascii ":" ∷ two m.clock.minute
      ∷ cond (ltb m.clock.hour 12) (ascii " AM") (ascii " PM")
      ∷ [])
  unfolding page clock_rows time_row register_row register_word calendar_word
  half-time-row form =
      let e = half-time-text m.clock (bounds_of m s).clock form in
      rw (word_read m 0xB1 s (omega arith) (omega arith), e.0, e.1)

  -- the weekday and the date, the month and the year
  pub day-row :
      row m 3
      ≡ one m "B2     Day_Date                 " 0xB2
      (ascii " weekday " ∷ decimal m.clock.weekday ∷ ascii ", date " ∷ two m.clock.date ∷ [])
  unfolding page clock_rows day_row register_row register_word calendar_word
  day-row =
      let v = (bounds_of m s).clock in
      let b = bounds m.clock v in
      let l = month-length m.clock.year m.clock.month in
      let e = date-shown m.clock v in
      rw (
        word_read m 0xB2 s (omega arith) (omega arith),
        high_part m.clock.weekday (m.clock.date / 10 * 16 + m.clock.date % 10) (word32 m.clock) (omega arith) (omega arith),
        two-of m.clock.weekday m.clock.date (word32 m.clock) (omega arith) (omega arith),
      )

  pub month-row :
      row m 4
      ≡ one m "B3     Month_Year               " 0xB3
      (ascii " month " ∷ two m.clock.month ∷ ascii ", year 20" ∷ two m.clock.year ∷ [])
  unfolding page clock_rows month_row register_row register_word calendar_word
  month-row =
      let v = (bounds_of m s).clock in
      let b = bounds m.clock v in
      let e = year-shown m.clock v in
      rw (
        word_read m 0xB3 s (omega arith) (omega arith),
        two-above m.clock.month (m.clock.year / 10 * 16 + m.clock.year % 10) (word33 m.clock) (omega arith) (omega arith) (omega arith),
        two-of (m.clock.month / 10 * 16 + m.clock.month % 10) m.clock.year (word33 m.clock) (omega arith) (omega arith),
      )

  -- the alarm: the hour and the minute that its word names, in either form, and AM by name
  mode-read : alarm_texts (bits 3 2 (read_word m 0xC3)) ≡ ascii (get_or mode_names (alarm_mode m.setup) "") ∷ []
  unfolding alarm_mode
  mode-read = rw (setup-read m s 0x43 (omega arith) (omega arith)) (mode-named (bits 3 2 (word_of m.setup 0x43)) (omega arith))

  pub alarm-row :
      twelve_in (alarm_word m.setup) ≡ false →
      row m 7
      ≡ one m "B5     Alarm                    " 0xB5
      (ascii " "
      ∷ two (hour_named (alarm_word m.setup)) ∷ ascii ":" ∷ two (minute_in (alarm_word m.setup))
      ∷ ascii (get_or mode_names (alarm_mode m.setup) "")
      ∷ [])
  unfolding page clock_rows alarm_row register_row alarm_word
  alarm-row form =
      let a = full-alarm (alarm_word m.setup) ((alarm-means (alarm_word m.setup)).0 (bounds_of m s).alarm) form in
      rw (mode-read, setup-read m s 0x35 (omega arith) (omega arith), reads-setup m 0x35 (omega arith) (omega arith), a.0, a.1)

  pub half-alarm-row :
      twelve_in (alarm_word m.setup) ≡ true →
      row m 7
      ≡ one m "B5     Alarm                    " 0xB5
      (ascii " "
      ∷ two (hour_named (alarm_word m.setup)) ∷ ascii ":" ∷ two (minute_in (alarm_word m.setup))
      ∷ cond (is_set 5 (alarm_word m.setup)) (ascii " PM") (ascii " AM")
      ∷ ascii (get_or mode_names (alarm_mode m.setup) "")
      ∷ [])
  unfolding page clock_rows alarm_row register_row alarm_word
  half-alarm-row form =
      let a = half-alarm (alarm_word m.setup) ((alarm-means (alarm_word m.setup)).0 (bounds_of m s).alarm) form in
      rw (mode-read, setup-read m s 0x35 (omega arith) (omega arith), reads-setup m 0x35 (omega arith) (omega arith), a.0, a.1)

  -- ---- the set-up

  -- a word that is stored only
  pub stored-rows :
      map (row m) (6 ∷ 9 ∷ 10 ∷ 13 ∷ 14 ∷ 15 ∷ 16 ∷ 17 ∷ 20 ∷ [])
      ≡ stored m "B4     Watchdog Alarm Counter   " 0xB4
      ∷ stored m "B6     Reserved                 " 0xB6
      ∷ stored m "B7     Reserved                 " 0xB7
      ∷ stored m "BA     TOF3                     " 0xBA
      ∷ stored m "BB     TOF4                     " 0xBB
      ∷ stored m "BC     TOF5                     " 0xBC
      ∷ stored m "BD     TOF6                     " 0xBD
      ∷ stored m "BE     TOF7                     " 0xBE
      ∷ stored m "C1     TOF Measurement Delay    " 0xC1
      ∷ []
  unfolding page clock_rows setup_rows more_setup_rows stored_row register_row
  stored-rows =
      rw (
        word_read m 0xB4 s (omega arith) (omega arith),
        word_read m 0xB6 s (omega arith) (omega arith),
        word_read m 0xB7 s (omega arith) (omega arith),
        word_read m 0xBA s (omega arith) (omega arith),
        word_read m 0xBB s (omega arith) (omega arith),
        word_read m 0xBC s (omega arith) (omega arith),
        word_read m 0xBD s (omega arith) (omega arith),
        word_read m 0xBE s (omega arith) (omega arith),
        word_read m 0xC1 s (omega arith) (omega arith),
      )

  -- PL, at most 127 pulses, 0 is off; DPL, 2 MHz ÷ (DPL + 1), 0 is reserved
  pub tof1-row :
      row m 11
      ≡ one m "B8     TOF1                     " 0xB8
      (cond (eqb (pulses_of m) 0) (ascii " PL off" ∷ []) (ascii " PL " ∷ several (min (pulses_of m) 127) " pulse")
      ++ cond (eqb (divider_of m) 0) (ascii ", DPL reserved" ∷ []) (ascii ", DPL 2 MHz / " ∷ decimal (divider_of m + 1) ∷ []))
  unfolding page clock_rows setup_rows tof1_row register_row pulses divider plural
  tof1-row = rw (setup-read m s 0x38 (omega arith) (omega arith), reads-setup m 0x38 (omega arith) (omega arith))

  -- the hits of each direction; TIMOUT in microseconds
  pub tof2-row :
      row m 12
      ≡ one m "B9     TOF2                     " 0xB9
      (ascii " STOP "
      ∷ (several (hit_count m.setup) " hit" ++ (ascii ", TIMOUT " ∷ decimal (128 * 2 ^ timeout m.setup) ∷ ascii " us" ∷ [])))
  unfolding page clock_rows setup_rows tof2_row register_row plural counted timeout
  tof2-row =
      let w : ℕ = word_of m.setup 0x39 in
      let e : timeout_row (bits 2 0 w) ≡ 128 * 2 ^ bits 2 0 w = omega (arith, timeout-periods (bits 2 0 w) (omega arith)) in
      rw (setup-read m s 0x39 (omega arith) (omega arith), reads-setup m 0x39 (omega arith) (omega arith), ← hits-row m.setup, e)

  -- the periods in seconds, of 32,768 ticks each, and the numbers of measurements: of a half second, `.5`
  pub timing1-row :
      row m 18
      ≡ one m "BF     Event Timing 1           " 0xBF
      (ascii " TDF "
      ∷ decimal ((difference_period m.setup).0 / 32768) ∷ ascii "." ∷ decimal ((difference_period m.setup).0 % 32768 * 10 / 32768)
      ∷ ascii " s, TDM "
      ∷ (several (difference_count m.setup) " cycle"
      ++ (ascii ", TMF " ∷ decimal ((temperature_period m.setup).0 / 32768) ∷ ascii " s" ∷ [])))
  unfolding page clock_rows setup_rows more_setup_rows timing1_row register_row plural counted half_seconds difference_period difference_count temperature_period
  timing1-row =
      let w : ℕ = word_of m.setup 0x3F in
      let n : ℕ = bits 15 12 w + 1 in
      let whole : n / 2 ≡ 16384 * n / 32768 = omega arith in
      let half : n % 2 * 5 ≡ 16384 * n % 32768 * 10 / 32768 = omega arith in
      let seconds : bits 6 1 w + 1 ≡ 32768 * (bits 6 1 w + 1) / 32768 = omega arith in
      rw (setup-read m s 0x3F (omega arith) (omega arith), reads-setup m 0x3F (omega arith) (omega arith), ← whole, ← half, ← seconds)

  -- TP, and PORTCYC in microseconds
  pub timing2-row :
      row m 19
      ≡ one m "C0     Event Timing 2           " 0xC0
      (ascii " TMM "
      ∷ (several (temperature_count m.setup) " cycle"
      ++ (ascii ", TP " ∷ decimal (ports_of m / 2) ∷ decimal (ports_of m % 2) ∷ ascii "b"
      ∷ ascii ", PORTCYC " ∷ decimal (128 * (port_cycle m.setup + 1)) ∷ ascii " us" ∷ [])))
  unfolding page clock_rows setup_rows more_setup_rows timing2_row register_row plural counted binary temperature_count port_cycle
  timing2-row = rw (setup-read m s 0x40 (omega arith) (omega arith), reads-setup m 0x40 (omega arith) (omega arith))

  -- INT_EN, ET_CONT and CONT_INT by name, where the set-up has them
  pub control-row :
      row m 21
      ≡ one m "C2     Calibration and Control  " 0xC2
      (named (interrupt_enabled m.setup) " INT_EN"
      ++ (named (event_continuous m.setup) " ET_CONT"
      ++ (named (each_interrupt m.setup) " CONT_INT"
      ++ named (negate (either (interrupt_enabled m.setup) (either (event_continuous m.setup) (each_interrupt m.setup)))) " none")))
  unfolding page clock_rows setup_rows more_setup_rows control_row register_row reported_where interrupt_enabled event_continuous each_interrupt
  control-row =
      rw (
        setup-read m s 0x42 (omega arith) (omega arith),
        reads-setup m 0x42 (omega arith) (omega arith),
        no_bits (word_of m.setup 0x42),
      )

  -- EOSC: whether the clock stands; AM
  pub oscillator-row :
      row m 22
      ≡ one m "C3     Real-Time Clock          " 0xC3
      (cond (clock_stands m.setup) (ascii " EOSC 1 clock stands, AM ") (ascii " EOSC 0 clock runs, AM ")
      ∷ decimal (alarm_mode m.setup / 2) ∷ decimal (alarm_mode m.setup % 2) ∷ ascii "b" ∷ [])
  unfolding page clock_rows setup_rows more_setup_rows oscillator_row register_row clock_state binary clock_stands alarm_mode
  oscillator-row = rw (setup-read m s 0x43 (omega arith) (omega arith), reads-setup m 0x43 (omega arith) (omega arith))

-- ---- what the numbers of the set-up are

-- A word is late from TIMOUT's microseconds on, of 262,144 quanta each, or from 2^31 quanta on, which mean no hit.
pub late-limit : (setup : List ℕ) → (late_from (timeout setup)).0 ≡ min (128 * 2 ^ timeout setup * 262144) (2 ^ 31)
unfolding late_from
late-limit setup = omega arith

-- at TIMOUT 000b to 111b
pub late-limits :
    map (λ (k : ℕ). (late_from k).0) (0 ∷ 1 ∷ 2 ∷ 3 ∷ 4 ∷ 5 ∷ 6 ∷ 7 ∷ [])
    ≡ map (λ (us : ℕ). us * 262144) (128 ∷ 256 ∷ 512 ∷ 1024 ∷ 2048 ∷ 4096 ∷ 8192 ∷ 8192 ∷ [])
unfolding late_from
late-limits = refl

-- A word is open from two microseconds below PORTCYC's on.
pub open-limit : (setup : List ℕ) → (open_from (port_cycle setup)).0 ≡ (128 * (port_cycle setup + 1) - 2) * 262144
unfolding open_from
open-limit setup = omega arith

-- at PORTCYC 00b to 11b, of which the page has 128, 256, 384 and 512 us
pub open-limits :
    map (λ (c : ℕ). (open_from c).0) (0 ∷ 1 ∷ 2 ∷ 3 ∷ []) ≡ map (λ (us : ℕ). us * 262144) (126 ∷ 254 ∷ 382 ∷ 510 ∷ [])
unfolding open_from
open-limits = refl

-- a quantum is 250 ÷ 65,536 nanoseconds: the microseconds' quanta print as 1,000 nanoseconds each
pub microseconds : map nanoseconds (262144 ∷ 128 * 262144 ∷ []) ≡ ascii "1000.0000" ∷ ascii "128000.0000" ∷ []
unfolding nanoseconds four_decimals ten_thousandths decimal decimal_width width_from digits glyph ascii
microseconds = refl

-- ---- numbers read back

-- the text k places before a row's last
abbrev from_last : ℕ → Texts → List ℕ
from_last k r = get_or r (length r - 1 - k) []

-- two digits read back
two-reads : (n : ℕ) → n ≤ 99 → read_decimal 99 (two n) ≡ Some n
unfolding read_decimal
two-reads n h = rw (length_digits 10 2 n) (value-in-digits 10 (omega arith) (omega arith) 99 2 n (omega arith) h)

-- a number and one digit behind it
digit-behind : (a b : ℕ) → a < 2 ^ 32 → b ≤ 9 → value_of 10 0 (decimal a ++ decimal b) ≡ a * 10 + b
unfolding decimal_width
digit-behind a b h k =
    value-append 10 0 (decimal a) (decimal b)
    ∙ rw (decimal-value a (omega arith) 0, zero-mul, zero-add, decimal-value b (omega arith) a, width_one 19 b (omega arith))

module _ (m : Model) (s : is_sound m ≡ true) where
  -- The row `Clock`: year, month, date, hour, minute, second and hundredths, in 24-hour form and in 12-hour form.
  pub clock-reads :
      m.clock.twelve ≡ false →
      map (λ (k : ℕ). read_decimal 99 (get_or (row m 5) k [])) (2 ∷ 4 ∷ 6 ∷ 8 ∷ 10 ∷ 12 ∷ 14 ∷ [])
      ≡ Some m.clock.year ∷ Some m.clock.month ∷ Some m.clock.date
      ∷ Some m.clock.hour ∷ Some m.clock.minute ∷ Some m.clock.second ∷ Some (m.clock.ticks.0 * 100 / 32768)
      ∷ []
  clock-reads form =
      let b = bounds m.clock (bounds_of m s).clock in
      let l = month-length m.clock.year m.clock.month in
      rw (
        clock-shown m s form,
        two-reads m.clock.year (omega arith),
        two-reads m.clock.month (omega arith),
        two-reads m.clock.date (omega arith),
        two-reads m.clock.hour (omega arith),
        two-reads m.clock.minute (omega arith),
        two-reads m.clock.second (omega arith),
        two-reads (m.clock.ticks.0 * 100 / 32768) (omega arith),
      )

  pub half-clock-reads :
      m.clock.twelve ≡ true →
      map (λ (k : ℕ). read_decimal 99 (get_or (row m 5) k [])) (2 ∷ 4 ∷ 6 ∷ 8 ∷ 10 ∷ 12 ∷ 14 ∷ [])
      ≡ Some m.clock.year ∷ Some m.clock.month ∷ Some m.clock.date
      ∷ Some ((m.clock.hour + 11) % 12 + 1) ∷ Some m.clock.minute ∷ Some m.clock.second ∷ Some (m.clock.ticks.0 * 100 / 32768)
      ∷ []
  half-clock-reads form =
      let b = bounds m.clock (bounds_of m s).clock in
      let l = month-length m.clock.year m.clock.month in
      rw (
        half-clock-shown m s form,
        two-reads m.clock.year (omega arith),
        two-reads m.clock.month (omega arith),
        two-reads m.clock.date (omega arith),
        two-reads ((m.clock.hour + 11) % 12 + 1) (omega arith),
        two-reads m.clock.minute (omega arith),
        two-reads m.clock.second (omega arith),
        two-reads (m.clock.ticks.0 * 100 / 32768) (omega arith),
      )

  -- the weekday, and the alarm's hour and minute
  pub weekday-reads : read_decimal 7 (get_or (row m 3) 4 []) ≡ Some m.clock.weekday
  weekday-reads =
      let b = bounds m.clock (bounds_of m s).clock in
      rw (day-row m s) (decimal-reads-back 7 m.clock.weekday (omega arith) (omega arith))

  pub alarm-reads :
      map (λ (k : ℕ). read_decimal 99 (get_or (row m 7) k [])) (4 ∷ 6 ∷ [])
      ≡ Some (hour_named (alarm_word m.setup)) ∷ Some (minute_in (alarm_word m.setup)) ∷ []
  unfolding minute_in hour_named twelve_in
  alarm-reads =
      let w : ℕ = alarm_word m.setup in
      let a = (alarm-means w).0 (bounds_of m s).alarm in
      by-test (twelve_in w)
      (λ e. rw (half-alarm-row m s e, two-reads (minute_in w) (omega (arith, a.minute)), e, two-reads (bits 4 4 w * 10 + bits 3 0 w) (omega (arith, a.hours))))
      (λ e. rw (alarm-row m s e, two-reads (minute_in w) (omega (arith, a.minute)), e, two-reads (bits 5 4 w * 10 + bits 3 0 w) (omega (arith, a.hours))))

  -- the pulses
  pub pulses-read : ¬ (pulses_of m ≡ 0) → read_decimal 127 (get_or (row m 11) 4 []) ≡ Some (min (pulses_of m) 127)
  pulses-read n =
      rw (tof1-row m s, ne_eqb (pulses_of m) 0 n) (decimal-reads-back 127 (min (pulses_of m) 127) (omega arith) (omega arith))

  -- the hits; TDF's digits before and behind the point are tenths of a second, of 3,276.8 ticks each
  pub hits-read : read_decimal 6 (get_or (row m 12) 4 []) ≡ Some (hit_count m.setup)
  hits-read =
      let b = hits-bounds m.setup in
      rw (tof2-row m s) (decimal-reads-back 6 (hit_count m.setup) b.1 (omega arith))

  pub period-reads : value_of 10 0 (get_or (row m 18) 4 [] ++ get_or (row m 18) 6 []) * 32768 ≡ (difference_period m.setup).0 * 10
  unfolding difference_period
  period-reads =
      let p : ℕ = 16384 * (bits 15 12 (word_of m.setup 0x3F) + 1) in
      rw (timing1-row m s, digit-behind (p / 32768) (p % 32768 * 10 / 32768) (omega arith) (omega arith)) (omega arith)

  -- DPL's divider is the row's last text; TIMOUT, TMF and PORTCYC are the ones before it
  pub divider-reads : ¬ (divider_of m ≡ 0) → read_decimal 16 (from_last 0 (row m 11)) ≡ Some (divider_of m + 1)
  divider-reads n =
      let back = decimal-reads-back 16 (divider_of m + 1) (omega arith) (omega arith) in
      rw (tof1-row m s, ne_eqb (divider_of m) 0 n)
      (by_eqb (pulses_of m) 0 (λ z e. rw e back) (λ z e. by-ltb (min (pulses_of m) 127) 2 (λ l f. rw (e, f) back) (λ l f. rw (e, f) back)))

  pub timeout-reads : read_decimal 16384 (from_last 1 (row m 12)) ≡ Some (128 * 2 ^ timeout m.setup)
  timeout-reads =
      let seven : timeout m.setup ≤ 7 = omega (arith, timeout-below m.setup) in
      let few : 2 ^ timeout m.setup ≤ 2 ^ 7 = pow-le-pow_right (omega arith) seven in
      let back = decimal-reads-back 16384 (128 * 2 ^ timeout m.setup) (omega arith) (omega arith) in
      rw (tof2-row m s) (by-ltb (hit_count m.setup) 2 (λ l e. rw e back) (λ l e. rw e back))

  pub temperature-period-reads : read_decimal 64 (from_last 1 (row m 18)) ≡ Some ((temperature_period m.setup).0 / 32768)
  temperature-period-reads =
      let b = temperature-period-bounds m.setup in
      let back = decimal-reads-back 64 ((temperature_period m.setup).0 / 32768) (omega arith) (omega arith) in
      rw (timing1-row m s) (by-ltb (difference_count m.setup) 2 (λ l e. rw e back) (λ l e. rw e back))

  pub port-cycle-reads : read_decimal 512 (from_last 1 (row m 19)) ≡ Some (128 * (port_cycle m.setup + 1))
  port-cycle-reads =
      let b = cycle-below m.setup in
      let back = decimal-reads-back 512 (128 * (port_cycle m.setup + 1)) (omega arith) (omega arith) in
      rw (timing2-row m s) (by-ltb (temperature_count m.setup) 2 (λ l e. rw e back) (λ l e. rw e back))

  -- the numbers of differences and of temperatures
  pub cycles-read :
      (read_decimal 32 (get_or (row m 18) 8 []) ≡ Some (difference_count m.setup)) ×
      (read_decimal 32 (get_or (row m 19) 4 []) ≡ Some (temperature_count m.setup))
  cycles-read =
      let b = difference-count-bounds m.setup in
      let c = temperature-count-bounds m.setup in (
        rw (timing1-row m s) (decimal-reads-back 32 (difference_count m.setup) b.1 (omega arith)),
        rw (timing2-row m s) (decimal-reads-back 32 (temperature_count m.setup) c.1 (omega arith)),
      )
