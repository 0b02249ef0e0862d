-- What the page's digits mean: they read back as what the registers hold, as the time, and as the date. Assumes nothing.
use Prim.Native.Nat.{ℕ, ◌+◌, ◌*◌, ◌/◌, ◌%◌, ◌^◌, ◌≤◌, ◌<◌}
use mathlib.Core.Bool.{true, false, cond}
use mathlib.Core.List.{List, [], ◌∷◌, ◌++◌, map}
use mathlib.Core.Path.{◌≡◌, refl, ◌∙◌}
use native.Mathlib.Omega.{arith}
use lib.Dec.{ltb}
use lib.ListN.{length, take, get_or}
use borrow.Author.Tests.{le-ltb, eq-eqb, ne_eqb}
use Rattle.unit.specs.Bits.{bits}
use Rattle.unit.proofs.Cases.{by-test, by-ltb}
use Rattle.calendar.specs.declared.Clock.{Clock}
use Rattle.calendar.specs.Calendar.{clock_valid}
use Rattle.calendar.specs.Words.{word30, word31, word32, word33, twelve_in}
use Rattle.calendar.proofs.Laws.{bounds, month-length}
use Rattle.calendar.proofs.Places.{seconds-shown, full-time-shown, half-time-shown, date-shown, year-shown}
use Rattle.numeral.specs.Digit.{digits, glyph, value_of}
use Rattle.numeral.specs.Place.{joined, overwrite, put_each}
use Rattle.numeral.specs.Read.{read_hex, read_decimal}
use Rattle.numeral.specs.Print.{decimal, ten_thousandths, Nearest}
use Rattle.numeral.proofs.DigitLaws.{hex-reads-back}
use Rattle.numeral.proofs.PlaceLaws.{put-each}
use Rattle.numeral.proofs.PrintLaws.{decimal-reads-back, rounded, four-decimals-value}
use Rattle.device.specs.declared.Model.{Model}
use Rattle.device.specs.Model.{is_sound}
use Rattle.device.specs.Registers.{calendar_word, register_word}
use Rattle.device.specs.Question.{peek}
use Rattle.device.proofs.Sound.{bounds_of}
use Rattle.numeral.specs.Ascii.{ascii}
use Rattle.wording.specs.Wording.{Texts}
use Rattle.item_state.specs.Told.{told_value, read_word}
use Rattle.page.specs.Row.{register_row, pair_row, stored_row, absent_row, absent_pair, plural}
use Rattle.page.specs.Clock.{seconds, hours, time_of_day, half_day, seconds_row, time_row, day_row, month_row, date_texts, clock_row, alarm_row, clock_rows}
use Rattle.page.specs.Setup.{tof1_row, tof2_row, timing1_row, timing2_row, control_row, oscillator_row, setup_rows, more_setup_rows}
use Rattle.page.specs.Results.{pair_word, result_row, port_row, difference_row, mean_row, count_row, up_rows, down_rows, difference_rows, port_rows, takes_two, status_rows, last_rows}
use Rattle.page.specs.Page.{page, page_texts}
use Rattle.std.specs.Prelude.{Some}

-- Where the buffer has room for the page, its bytes stand there as one, from the place on, and nothing else is touched.
pub page-whole : (m : Model) (l : List ℕ) (at : ℕ) → at + length (joined (page_texts m)) ≤ length l
    → put_each l at (page_texts m) ≡ record { next = at + length (joined (page_texts m)); bytes = overwrite l at (joined (page_texts m)) }
page-whole m l at room = put-each (page_texts m) l at room

-- What a row has for a word are four digits that read back as the word.
pub word_back : (label : List ℕ) (w : ℕ) (meaning : Texts) → w < 65536 → read_hex 4 4 (get_or (register_row label w meaning) 1 []) ≡ Some w
unfolding register_row
word_back label w meaning h = hex-reads-back 4 4 4 w (omega arith) (omega arith) (omega arith) (omega arith) h

-- What a row has for a pair are two words that read back as Int and Frac: "word ÷ 65,536" and "the remainder".
pub pair-back : (label : List ℕ) (w : ℕ) (meaning : Texts) → w < 4294967296
    → (read_hex 4 4 (get_or (pair_row label w meaning) 1 []) ≡ Some (w / 65536)) × (read_hex 4 4 (get_or (pair_row label w meaning) 3 []) ≡ Some (w % 65536))
unfolding pair_row
pair-back label w meaning h = (
  hex-reads-back 4 4 4 (w / 65536) (omega arith) (omega arith) (omega arith) (omega arith) (omega arith),
  hex-reads-back 4 4 4 (w % 65536) (omega arith) (omega arith) (omega arith) (omega arith) (omega arith),
)

-- The rows of single registers, from 0, and their addresses, but for those behind the status, which takes one row or two.
abbrev pub rows_of_one : List ℕ
rows_of_one = 1 ∷ 2 ∷ 3 ∷ 4 ∷ 6 ∷ 7 ∷ 9 ∷ 10 ∷ 11 ∷ 12 ∷ 13 ∷ 14 ∷ 15 ∷ 16 ∷ 17 ∷ 18 ∷ 19 ∷ 20 ∷ 21 ∷ 22 ∷ 24 ∷ 32 ∷ 41 ∷ 47 ∷ []

abbrev pub addresses_of_one : List ℕ
addresses_of_one = 0xB0 ∷ 0xB1 ∷ 0xB2 ∷ 0xB3 ∷ 0xB4 ∷ 0xB5 ∷ 0xB6 ∷ 0xB7 ∷ 0xB8 ∷ 0xB9 ∷ 0xBA ∷ 0xBB ∷ 0xBC ∷ 0xBD ∷ 0xBE ∷ 0xBF ∷ 0xC0 ∷ 0xC1 ∷ 0xC2 ∷ 0xC3 ∷ 0xC4 ∷ 0xD3 ∷ 0xE4 ∷ 0xEF ∷ []

-- The rows of pairs, and the addresses of their Int registers.
abbrev pub rows_of_two : List ℕ
rows_of_two = 25 ∷ 26 ∷ 27 ∷ 28 ∷ 29 ∷ 30 ∷ 31 ∷ 33 ∷ 34 ∷ 35 ∷ 36 ∷ 37 ∷ 38 ∷ 39 ∷ 40 ∷ 42 ∷ 43 ∷ 44 ∷ 45 ∷ 46 ∷ 48 ∷ 49 ∷ 50 ∷ 51 ∷ 52 ∷ 53 ∷ 54 ∷ []

abbrev pub addresses_of_two : List ℕ
addresses_of_two = 0xC5 ∷ 0xC7 ∷ 0xC9 ∷ 0xCB ∷ 0xCD ∷ 0xCF ∷ 0xD1 ∷ 0xD4 ∷ 0xD6 ∷ 0xD8 ∷ 0xDA ∷ 0xDC ∷ 0xDE ∷ 0xE0 ∷ 0xE2 ∷ 0xE5 ∷ 0xE7 ∷ 0xE9 ∷ 0xEB ∷ 0xED ∷ 0xF0 ∷ 0xF2 ∷ 0xF4 ∷ 0xF6 ∷ 0xF8 ∷ 0xFA ∷ 0xFC ∷ []

-- Each begins with its address, or its two addresses,
pub addresses-shown : (m : Model) →
    (map (λ (i : ℕ). take 2 (get_or (get_or (page m) i []) 0 [])) rows_of_one ≡ map (λ (a : ℕ). digits 16 2 a) addresses_of_one) ×
    (map (λ (i : ℕ). take 5 (get_or (get_or (page m) i []) 0 [])) rows_of_two ≡ map (λ (a : ℕ). digits 16 2 a ++ (32 ∷ digits 16 2 (a + 1))) addresses_of_two)
unfolding page clock_rows setup_rows more_setup_rows up_rows down_rows difference_rows port_rows last_rows register_row pair_row stored_row absent_row absent_pair seconds_row time_row day_row month_row clock_row alarm_row tof1_row tof2_row timing1_row timing2_row control_row oscillator_row result_row port_row difference_row mean_row count_row digits glyph ascii
addresses-shown m = (refl, refl)

-- and has the word of that register, or the words of that pair.
pub words-shown : (m : Model) →
    (map (λ (i : ℕ). get_or (get_or (page m) i []) 1 []) rows_of_one ≡ map (λ (a : ℕ). digits 16 4 (read_word m a)) addresses_of_one) ×
    (map (λ (i : ℕ). get_or (get_or (page m) i []) 1 []) rows_of_two ≡ map (λ (a : ℕ). digits 16 4 (pair_word m a / 65536)) addresses_of_two) ×
    (map (λ (i : ℕ). get_or (get_or (page m) i []) 3 []) rows_of_two ≡ map (λ (a : ℕ). digits 16 4 (pair_word m a % 65536)) addresses_of_two)
unfolding page clock_rows setup_rows more_setup_rows up_rows down_rows difference_rows port_rows last_rows register_row pair_row stored_row absent_row absent_pair seconds_row time_row day_row month_row clock_row alarm_row tof1_row tof2_row timing1_row timing2_row control_row oscillator_row result_row port_row difference_row mean_row count_row
words-shown m = (refl, refl, refl)

-- So has the first row of the status.
pub status-shown : (m : Model) →
    (take 2 (get_or (get_or (page m) 56 []) 0 []) ≡ digits 16 2 0xFE) × (get_or (get_or (page m) 56 []) 1 [] ≡ digits 16 4 (read_word m 0xFE))
unfolding page clock_rows setup_rows more_setup_rows up_rows down_rows difference_rows port_rows last_rows status_rows register_row digits glyph ascii
status-shown m = by-test (takes_two (read_word m 0xFE)) (λ e. rw e (refl, refl)) (λ e. rw e (refl, refl))

-- A count, and a number before what it counts, read back too.
pub count-back : (label : List ℕ) (w : ℕ) → w < 2 ^ 32 → read_decimal 4294967295 (get_or (count_row label w) 4 []) ≡ Some w
unfolding count_row register_row
count-back label w h = decimal-reads-back 4294967295 w (omega arith) h

pub plural-back : (n : ℕ) (what : List ℕ) → n < 2 ^ 32 → read_decimal 4294967295 (get_or (plural n what) 0 []) ≡ Some n
unfolding plural
plural-back n what h = decimal-reads-back 4294967295 n (omega arith) h

-- A sound model's registers are those that the rows read.
pub word_read : (m : Model) (a : ℕ) → is_sound m ≡ true → 0xB0 ≤ a → a ≤ 0xFF → read_word m a ≡ register_word m a
unfolding read_word told_value peek
word_read m a s h k = rw (s, le-ltb a 0xB0 h, le-ltb 0xFF a k)

-- ---- times

-- The digits of a time around the point are ten-thousandths of a nanosecond, the nearest number of them.
pub time-back : (w : ℕ) → w < 4294967296
    → (value_of 10 0 (decimal (ten_thousandths w / 10000) ++ digits 10 4 (ten_thousandths w % 10000)) ≡ ten_thousandths w) × Nearest w (ten_thousandths w)
unfolding ten_thousandths
time-back w h = (four-decimals-value ((w * 2500000 + 32768) / 65536) (omega arith), rounded w)

-- ---- the date and time

-- two decimal digits
abbrev two : ℕ → List ℕ
two n = digits 10 2 n

same_digits : (x n : ℕ) → x / 16 % 16 ≡ n / 10 % 10 → x % 16 ≡ n % 10 → digits 16 2 x ≡ two n
unfolding digits
same_digits x n h k = rw (h, k)

-- the parts of a word, over plain numbers
low_parts : (h t o x : ℕ) → t ≤ 9 → o ≤ 9 → x ≡ h * 256 + (t * 16 + o) → (x / 16 % 16 ≡ t) × (x % 16 ≡ o)
low_parts h t o x p q e =
    let whole : x / 16 ≡ h * 16 + t = omega arith in
    (rw whole (omega arith), omega arith)

pub high_part : (b l x : ℕ) → l < 256 → x ≡ b * 256 + l → x / 256 ≡ b
high_part b l x h e = omega arith

full-parts : (b l x : ℕ) → l < 64 → x ≡ b * 256 + l → (x % 64 ≡ l) × (x / 64 % 2 ≡ 0) × (x / 32 % 4 ≤ 1)
full-parts b l x h e =
    let quarter : x / 64 ≡ b * 4 = omega arith in
    let eighth : x / 32 ≡ b * 8 + l / 32 = omega arith in
    (omega arith, rw quarter (omega arith), rw eighth (omega arith))

half-parts : (b p d x : ℕ) → p ≤ 1 → d < 32 → x ≡ b * 256 + (64 + p * 32 + d) → (x % 32 ≡ d) × (x / 64 % 2 ≡ 1) × (x / 32 % 4 ≡ 2 + p)
half-parts b p d x h k e =
    let quarter : x / 64 ≡ b * 4 + 1 = omega arith in
    let eighth : x / 32 ≡ b * 8 + 2 + p = omega arith in
    (omega arith, rw quarter (omega arith), rw eighth (omega arith))

-- a byte of BCD prints as the number's digits
pub two-of : (h n x : ℕ) → n ≤ 99 → x ≡ h * 256 + (n / 10 * 16 + n % 10) → digits 16 2 x ≡ two n
two-of h n x few e =
    let tens : n / 10 ≡ n / 10 % 10 = omega arith in
    let parts = low_parts h (n / 10) (n % 10) x (omega arith) (omega arith) e in
    same_digits x n (parts.0 ∙ tens) parts.1

-- so does the high byte
pub two-above : (n l x : ℕ) → n ≤ 99 → l < 256 → x ≡ (n / 10 * 16 + n % 10) * 256 + l → digits 16 2 (x / 256) ≡ two n
two-above n l x few h e = two-of 0 n (x / 256) few (high_part (n / 10 * 16 + n % 10) l x h e ∙ omega arith)

nothing_above : (x : ℕ) → x ≡ 0 * 256 + x
nothing_above x = omega arith

twelve-few : (h : ℕ) → (h + 11) % 12 + 1 ≤ 99
twelve-few h = omega arith

before-noon : (h : ℕ) → h < 12 → 2 + h / 12 ≡ 2
before-noon h k = omega arith

from-noon : (h : ℕ) → 12 ≤ h → h ≤ 23 → 2 + h / 12 ≡ 3
from-noon h k l = omega arith

abbrev bcd_of : ℕ → ℕ
bcd_of n = n / 10 * 16 + n % 10

half-byte : (h : ℕ) → h ≤ 23 → 64 + h / 12 * 32 + bcd_of ((h + 11) % 12 + 1) < 256
half-byte h k = omega arith

-- The words of a valid clock, c.
module _ (c : Clock) (v : clock_valid c ≡ true) where
  pub seconds-text : seconds (word30 c) ≡ two c.second ∷ ascii "." ∷ two (c.ticks.0 * 100 / 32768) ∷ []
  unfolding seconds
  seconds-text =
      let b = bounds c v in
      let e = seconds-shown c v in
      let h : ℕ = c.ticks.0 * 100 / 32768 in
      rw (two-of (bcd_of h) c.second (word30 c) (omega arith) (omega arith), two-above h (bcd_of c.second) (word30 c) (omega arith) (omega arith) (omega arith))

  pub date-text : date_texts (word32 c) (word33 c) ≡ ascii "20" ∷ two c.year ∷ ascii "-" ∷ two c.month ∷ ascii "-" ∷ two c.date ∷ ascii " " ∷ []
  unfolding date_texts
  date-text =
      let b = bounds c v in
      let l = month-length c.year c.month in
      let e = date-shown c v in
      let f = year-shown c v in
      rw (
        two-of (bcd_of c.month) c.year (word33 c) (omega arith) (omega arith),
        two-above c.month (bcd_of c.year) (word33 c) (omega arith) (omega arith) (omega arith),
        two-of c.weekday c.date (word32 c) (omega arith) (omega arith),
      )

  minute-text : (l : ℕ) → l < 256 → word31 c ≡ bcd_of c.minute * 256 + l → digits 16 2 (bits 14 8 (word31 c)) ≡ two c.minute
  minute-text l h e =
      let b = bounds c v in
      let whole = high_part (bcd_of c.minute) l (word31 c) h e in
      two-of 0 c.minute (bits 14 8 (word31 c)) (omega arith) (rw whole (omega arith))

  pub full-time-text : c.twelve ≡ false → (time_of_day (word31 c) ≡ two c.hour ∷ ascii ":" ∷ two c.minute ∷ []) × (half_day (word31 c) ≡ [])
  unfolding time_of_day half_day hours twelve_in
  full-time-text form =
      let b = bounds c v in
      let e = full-time-shown c v form in
      let f : word31 c ≡ bcd_of c.minute * 256 + bcd_of c.hour = omega arith in
      let parts = full-parts (bcd_of c.minute) (bcd_of c.hour) (word31 c) (omega arith) f in (
        rw (
          ne_eqb (bits 6 6 (word31 c)) 1 (λ h. omega (arith, parts.1)),
          two-of 0 c.hour (bits 5 0 (word31 c)) (omega arith) (parts.0 ∙ omega arith),
          minute-text (bcd_of c.hour) (omega arith) f,
        ),
        rw (ne_eqb (bits 6 5 (word31 c)) 2 (λ h. omega (arith, parts.2)), ne_eqb (bits 6 5 (word31 c)) 3 (λ h. omega (arith, parts.2))),
      )

  pub half-time-text :
      c.twelve ≡ true →
      (time_of_day (word31 c) ≡ two ((c.hour + 11) % 12 + 1) ∷ ascii ":" ∷ two c.minute ∷ []) ×
      (half_day (word31 c) ≡ cond (ltb c.hour 12) (ascii " AM") (ascii " PM") ∷ [])
  unfolding time_of_day half_day hours twelve_in
  half-time-text form =
      let b = bounds c v in
      let e = half-time-shown c v form in
      let n : ℕ = (c.hour + 11) % 12 + 1 in
      let f : word31 c ≡ bcd_of c.minute * 256 + (64 + c.hour / 12 * 32 + bcd_of n) = omega arith in
      let parts = half-parts (bcd_of c.minute) (c.hour / 12) (bcd_of n) (word31 c) (omega arith) (omega arith) f in (
        rw (
          eq-eqb (bits 6 6 (word31 c)) 1 parts.1,
          two-of 0 n (bits 4 0 (word31 c)) (twelve-few c.hour) (parts.0 ∙ nothing_above (bcd_of n)),
          minute-text (64 + c.hour / 12 * 32 + bcd_of n) (half-byte c.hour b.hour) f,
        ),
        by-ltb c.hour 12
            (λ h t. rw (t, eq-eqb (bits 6 5 (word31 c)) 2 (parts.2 ∙ before-noon c.hour h)))
            (λ h t. let p : bits 6 5 (word31 c) ≡ 3 = parts.2 ∙ from-noon c.hour h b.hour in rw (t, ne_eqb (bits 6 5 (word31 c)) 2 (λ z. omega arith), eq-eqb (bits 6 5 (word31 c)) 3 p)),
      )

-- The row `Clock` of a sound model, row 5 from 0.
module _ (m : Model) (s : is_sound m ≡ true) where
  clock-read :
      get_or (page m) 5 []
      ≡ clock_row (word30 m.clock) (word31 m.clock) (word32 m.clock) (word33 m.clock)
  unfolding page clock_rows register_word calendar_word
  clock-read =
      rw (word_read m 0xB0 s (omega arith) (omega arith), word_read m 0xB1 s (omega arith) (omega arith), word_read m 0xB2 s (omega arith) (omega arith), word_read m 0xB3 s (omega arith) (omega arith))

  -- `20YY-MM-DD HH:MM:SS.HH`: year, month, date, hour, minute, second and hundredths of its clock,
  pub clock-shown :
      m.clock.twelve ≡ false →
      get_or (page m) 5 []
      ≡ ascii "       Clock                               "
      ∷ ascii "20" ∷ two m.clock.year ∷ ascii "-" ∷ two m.clock.month ∷ ascii "-" ∷ two m.clock.date ∷ ascii " "
      ∷ two m.clock.hour ∷ ascii ":" ∷ two m.clock.minute ∷ ascii ":"
      ∷ two m.clock.second ∷ ascii "." ∷ two (m.clock.ticks.0 * 100 / 32768)
      ∷ []
  unfolding clock_row
  clock-shown form =
      let v = (bounds_of m s).clock in
      clock-read ∙ rw (date-text m.clock v, (full-time-text m.clock v form).0, seconds-text m.clock v, (full-time-text m.clock v form).1)

  -- and in 12-hour form the hour that such a clock shows, with AM before noon and PM from then on.
  pub half-clock-shown :
      m.clock.twelve ≡ true →
      get_or (page m) 5 []
      ≡ ascii "       Clock                               "
      ∷ ascii "20" ∷ two m.clock.year ∷ ascii "-" ∷ two m.clock.month ∷ ascii "-" ∷ two m.clock.date ∷ ascii " "
      ∷ two ((m.clock.hour + 11) % 12 + 1) ∷ ascii ":" ∷ two m.clock.minute ∷ ascii ":"
      ∷ two m.clock.second ∷ ascii "." ∷ two (m.clock.ticks.0 * 100 / 32768)
      ∷ cond (ltb m.clock.hour 12) (ascii " AM") (ascii " PM")
      ∷ []
  unfolding clock_row
  half-clock-shown form =
      let v = (bounds_of m s).clock in
      clock-read ∙ rw (date-text m.clock v, (half-time-text m.clock v form).0, seconds-text m.clock v, (half-time-text m.clock v form).1)
