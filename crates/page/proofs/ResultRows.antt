-- The rows of the results: the words that the pairs hold, and that their times read back. Assumes nothing.
use Prim.Native.Nat.{ℕ, zero, suc, ◌+◌, ◌-◌, ◌*◌, ◌/◌, ◌%◌, ◌^◌, ◌≤◌, ◌<◌}
use Prim.Native.String.{String}
use mathlib.Core.Bool.{true, false, cond, Bool}
use mathlib.Core.List.{List, [], ◌∷◌, ◌++◌, map}
use mathlib.Core.Path.{◌≡◌, refl, ◌∙◌, ap}
use native.Mathlib.Omega.{arith}
use lib.Dec.{eqb, leb}
use lib.ListN.{length, get_or, replicate}
use borrow.Author.Tests.{le-ltb, ne_eqb, leb-true}
use Rattle.unit.specs.Choice.{both}
use Rattle.unit.proofs.Cases.{by_eqb}
use Rattle.unit.proofs.Joined.{both_true}
use Rattle.hit.specs.Words.{no_quanta}
use Rattle.hit.specs.Difference.{difference_mean, port_mean}
use Rattle.numeral.specs.Read.{read_hex, read_decimal}
use Rattle.numeral.specs.Digit.{digits, glyph, are_digits, value_of}
use Rattle.numeral.specs.Print.{decimal_width, decimal, ten_thousandths, four_decimals, nanoseconds, signed_nanoseconds, Nearest}
use Rattle.numeral.proofs.DigitLaws.{length_digits, are-append, are-digits, hex-reads-back}
use Rattle.numeral.proofs.PrintLaws.{width_some, length-decimal, decimal-reads-back, signed-positive}
use Rattle.listing.specs.Listing.{right_justified}
use Rattle.device.specs.declared.Model.{Model}
use Rattle.device.specs.Model.{is_sound}
use Rattle.device.specs.Registers.{flight_word, register_word}
use Rattle.device.specs.Plain.{Holds}
use Rattle.device.proofs.Sound.{bounds_of}
use Rattle.device.proofs.RegisterMeaning.{reads-counts, reads-ups, reads-downs, reads-difference, reads-mean, reads-ports, reads-means}
use Rattle.numeral.specs.Ascii.{ascii}
use Rattle.wording.specs.Wording.{Texts}
use Rattle.item_state.specs.Told.{read_word}
use Rattle.page.specs.Row.{register_row, pair_row, absent_row, absent_pair}
use Rattle.page.specs.Clock.{clock_rows}
use Rattle.page.specs.Setup.{setup_rows, more_setup_rows}
use Rattle.page.specs.Results.{pair_word, time, signed_time, result_texts, port_texts, difference_texts, result_row, port_row, difference_row, mean_row, count_row}
use Rattle.page.specs.Results.{up_rows, down_rows, difference_rows, port_rows, last_rows}
use Rattle.page.specs.Page.{page}
use Rattle.page.proofs.Meaning.{word_read, time-back, rows_of_one, addresses_of_one, rows_of_two, addresses_of_two, words-shown}
use Rattle.page.proofs.Values.{pair-shown}
use Rattle.page.proofs.Rows.{row, hex, one}
use Rattle.std.specs.Prelude.{Some}

-- the row of the pair at addresses a and a + 1, Int and Frac
abbrev pair : Model → String → ℕ → Texts → Texts
pair m label a meaning = ascii label ∷ hex (register_word m a) ∷ ascii " " ∷ hex (register_word m (a + 1)) ∷ ascii "  " ∷ meaning

-- a word of quanta in nanoseconds with four decimals, and a word that is signed
abbrev timed : ℕ → Texts
timed w = right_justified 14 (nanoseconds w) ∷ ascii " ns" ∷ []

abbrev signed_timed : ℕ → Texts
signed_timed w = right_justified 14 (signed_nanoseconds w) ∷ ascii " ns" ∷ []

-- a HIT, an AVG or a mean, which FFFFh FFFFh leaves without a time; a T, which 0000h 0000h does too
abbrev measured : ℕ → Texts
measured w = cond (eqb w 0xFFFFFFFF) (ascii "no time" ∷ []) (timed w)

abbrev port_measured : ℕ → Texts
port_measured w = cond (eqb w 0) (ascii "no time: short, or not measured" ∷ []) (measured w)

abbrev up_labels : List String
up_labels =
    "C5 C6  Hit1UpInt/Frac           "
    ∷ "C7 C8  Hit2UpInt/Frac           "
    ∷ "C9 CA  Hit3UpInt/Frac           "
    ∷ "CB CC  Hit4UpInt/Frac           "
    ∷ "CD CE  Hit5UpInt/Frac           "
    ∷ "CF D0  Hit6UpInt/Frac           "
    ∷ "D1 D2  AVGUPInt/Frac            "
    ∷ []

abbrev down_labels : List String
down_labels =
    "D4 D5  Hit1DnInt/Frac           "
    ∷ "D6 D7  Hit2DnInt/Frac           "
    ∷ "D8 D9  Hit3DnInt/Frac           "
    ∷ "DA DB  Hit4DnInt/Frac           "
    ∷ "DC DD  Hit5DnInt/Frac           "
    ∷ "DE DF  Hit6DnInt/Frac           "
    ∷ "E0 E1  AVGDNInt/Frac            "
    ∷ []

abbrev port_labels : List String
port_labels =
    "E7 E8  T1Int/Frac               "
    ∷ "E9 EA  T2Int/Frac               "
    ∷ "EB EC  T3Int/Frac               "
    ∷ "ED EE  T4Int/Frac               "
    ∷ []

abbrev mean_labels : List String
mean_labels =
    "F0 F1  T1_AVGInt/Frac           "
    ∷ "F2 F3  T2_AVGInt/Frac           "
    ∷ "F4 F5  T3_AVGInt/Frac           "
    ∷ "F6 F7  T4_AVGInt/Frac           "
    ∷ []

-- A text that is a time of q quanta: blanks, the sign, digits, a point and four digits, which without the point read as the nearest
-- number of ten-thousandths of a nanosecond.
pub record TimeText (sign text : List ℕ) (q : ℕ) : Type 0 where
  pub blanks : ℕ
  pub before : List ℕ
  pub behind : List ℕ
  pub shape : text ≡ replicate blanks 32 ++ (sign ++ (before ++ (46 ∷ behind)))
  pub some : 0 < length before
  pub four : length behind ≡ 4
  pub decimal : are_digits 10 (before ++ behind) ≡ true
  pub nearest : Nearest q (value_of 10 0 (before ++ behind))

decimal-digits : (v : ℕ) → are_digits 10 (decimal v) ≡ true
unfolding decimal
decimal-digits v = are-digits 10 (omega arith) (omega arith) (decimal_width v) v

decimal-some : (v : ℕ) → 0 < length (decimal v)
unfolding decimal_width
decimal-some v = rw (length-decimal v) (width_some 19 v)

time-parts : (sign : List ℕ) (w : ℕ) → w < 2 ^ 32 → TimeText sign (right_justified 14 (sign ++ nanoseconds w)) w
unfolding right_justified nanoseconds four_decimals
time-parts sign w h =
    let n : ℕ = ten_thousandths w in
    let b = time-back w h in
    record {
      blanks = 14 - length (sign ++ (decimal (n / 10000) ++ (46 ∷ digits 10 4 (n % 10000))));
      before = decimal (n / 10000);
      behind = digits 10 4 (n % 10000);
      shape = refl;
      some = decimal-some (n / 10000);
      four = length_digits 10 4 (n % 10000);
      decimal =
          are-append 10 (decimal (n / 10000)) (digits 10 4 (n % 10000)) (decimal-digits (n / 10000))
          ∙ are-digits 10 (omega arith) (omega arith) 4 (n % 10000);
      nearest = rw b.0 b.1;
    }

-- The text of a word's time reads back, and that of a signed word: as it is below 2^31, else with a minus and what is left to 2^32.
pub time-reads : (w : ℕ) → w < 2 ^ 32 → TimeText [] (right_justified 14 (nanoseconds w)) w
time-reads w h = time-parts [] w h

pub positive-reads : (w : ℕ) → w < 2 ^ 31 → TimeText [] (right_justified 14 (signed_nanoseconds w)) w
positive-reads w h = rw (signed-positive w h) (time-reads w (omega arith))

pub negative-reads : (w : ℕ) → 2 ^ 31 ≤ w → w < 2 ^ 32 → TimeText (ascii "-") (right_justified 14 (signed_nanoseconds w)) (2 ^ 32 - w)
unfolding signed_nanoseconds ascii
negative-reads w h k = rw (le-ltb w 2147483648 h) (time-parts (ascii "-") (4294967296 - w) (omega arith))

-- addresses from B0h to FEh
abbrev within : List ℕ → Bool
within [] = true
within (a ∷ l) = both (both (leb 0xB0 a) (leb a 0xFE)) (within l)

inside : (a : ℕ) (l : List ℕ) → within (a ∷ l) ≡ true → ((0xB0 ≤ a) × (a < 0xFF)) × (within l ≡ true)
inside a l h =
    let (here, rest) = both_true (both (leb 0xB0 a) (leb a 0xFE)) (within l) h in
    let (low, high) = both_true (leb 0xB0 a) (leb a 0xFE) here in
    ((leb-true 0xB0 a low, omega (arith, leb-true a 0xFE high)), rest)

four-read : (w : ℕ) → w < 65536 → read_hex 4 4 (hex w) ≡ Some w
four-read w h = hex-reads-back 4 4 4 w (omega arith) (omega arith) (omega arith) (omega arith) h

not-both : (a b : ℕ) → ¬ ((a ≡ 0xFFFFFFFF) × (b ≡ 0xFFFFFFFF)) → both (eqb a 0xFFFFFFFF) (eqb b 0xFFFFFFFF) ≡ false
not-both a b n =
    by_eqb a 0xFFFFFFFF (λ h e. rw (e, ne_eqb b 0xFFFFFFFF (λ k. n (h, k)))) (λ h e. rw e)

-- ---- the results

module _ (m : Model) (s : is_sound m ≡ true) where
  -- the counts of good measurements
  pub count-row :
      row m 41
      ≡ one m "E4     TOF_Cycle_Count          " 0xE4 (ascii " good cycles: " ∷ decimal m.flight.schedule.good ∷ [])
  unfolding page clock_rows setup_rows more_setup_rows up_rows down_rows difference_rows count_row register_row
  count-row = rw (word_read m 0xE4 s (omega arith) (omega arith), (reads-counts m).0)

  pub temperature-count-row :
      row m 47
      ≡ one m "EF     Temp_Cycle_Count         " 0xEF (ascii " good cycles: " ∷ decimal m.temperature.schedule.good ∷ [])
  unfolding page clock_rows setup_rows more_setup_rows up_rows down_rows difference_rows port_rows count_row register_row
  temperature-count-row = rw (word_read m 0xEF s (omega arith) (omega arith), (reads-counts m).1)

  -- what is not carried, and reads 0
  pub absent-rows :
      map (row m) (24 ∷ 32 ∷ 52 ∷ 53 ∷ 54 ∷ [])
      ≡ (ascii "C4     WVRUP                    " ∷ ascii "0000" ∷ ascii "      " ∷ ascii " not carried" ∷ [])
      ∷ (ascii "D3     WVRDN                    " ∷ ascii "0000" ∷ ascii "      " ∷ ascii " not carried" ∷ [])
      ∷ (ascii "F8 F9  CalibrationInt/Frac      " ∷ ascii "0000" ∷ ascii " " ∷ ascii "0000" ∷ ascii "  " ∷ ascii "not carried" ∷ [])
      ∷ (ascii "FA FB  Reserved                 " ∷ ascii "0000" ∷ ascii " " ∷ ascii "0000" ∷ ascii "  " ∷ ascii "not carried" ∷ [])
      ∷ (ascii "FC FD  Reserved                 " ∷ ascii "0000" ∷ ascii " " ∷ ascii "0000" ∷ ascii "  " ∷ ascii "not carried" ∷ [])
      ∷ []
  unfolding page clock_rows setup_rows more_setup_rows up_rows down_rows difference_rows port_rows last_rows absent_row absent_pair register_row pair_row pair_word register_word flight_word digits glyph ascii
  absent-rows =
      rw (
        word_read m 0xC4 s (omega arith) (omega arith),
        word_read m 0xD3 s (omega arith) (omega arith),
        word_read m 0xF8 s (omega arith) (omega arith),
        word_read m 0xF9 s (omega arith) (omega arith),
        word_read m 0xFA s (omega arith) (omega arith),
        word_read m 0xFB s (omega arith) (omega arith),
        word_read m 0xFC s (omega arith) (omega arith),
        word_read m 0xFD s (omega arith) (omega arith),
      )

  -- the counts of good measurements
  pub counts-read :
      (read_decimal 32 (get_or (row m 41) 4 []) ≡ Some m.flight.schedule.good) ×
      (read_decimal 32 (get_or (row m 47) 4 []) ≡ Some m.temperature.schedule.good)
  counts-read =
      let f = (bounds_of m s).flight.schedule in
      let t = (bounds_of m s).temperature.schedule in (
        rw count-row (decimal-reads-back 32 m.flight.schedule.good (omega arith) (omega arith)),
        rw temperature-count-row (decimal-reads-back 32 m.temperature.schedule.good (omega arith) (omega arith)),
      )

  -- The pairs, of a model whose registers hold words of 16 bits.
  module _ (small : (a : ℕ) → 0xB0 ≤ a → a ≤ 0xFF → register_word m a < 65536) where
    few : (a w : ℕ) → 0xB0 ≤ a → a < 0xFF → Holds m a w → w < 2 ^ 32
    few a w low high h = omega (arith, small a low (omega arith), h.high)

    pair_parts : (a : ℕ) → 0xB0 ≤ a → a < 0xFF → (pair_word m a / 65536 ≡ register_word m a) × (pair_word m a % 65536 ≡ register_word m (a + 1))
    unfolding pair_word
    pair_parts a low high =
        let h = small a low (omega arith) in
        let k = small (a + 1) (omega arith) (omega arith) in
        rw (word_read m a s low (omega arith), word_read m (a + 1) s (omega arith) (omega arith)) (omega arith)

    result-at : (label : String) (a w : ℕ) → 0xB0 ≤ a → a < 0xFF → Holds m a w
        → result_row (ascii label) (pair_word m a) ≡ pair m label a (measured w)
    unfolding result_row pair_row result_texts time
    result-at label a w low high h = rw (pair-shown m s a w low high h (few a w low high h), h.high, h.low)

    port-at : (label : String) (a w : ℕ) → 0xB0 ≤ a → a < 0xFF → Holds m a w
        → port_row (ascii label) (pair_word m a) ≡ pair m label a (port_measured w)
    unfolding port_row pair_row port_texts result_texts time
    port-at label a w low high h = rw (pair-shown m s a w low high h (few a w low high h), h.high, h.low)

    -- Every row of one register, and every row of a pair, has digits that read back as what its registers hold.
    singles : (l : List ℕ) → within l ≡ true → map (read_hex 4 4) (map (λ (a : ℕ). hex (read_word m a)) l) ≡ map (λ (a : ℕ). Some (register_word m a)) l
    singles [] h = refl
    singles (a ∷ l) h =
        let (k, rest) = inside a l h in
        rw (word_read m a s k.0 (omega (arith, k.1)), four-read (register_word m a) (small a k.0 (omega (arith, k.1))), singles l rest)

    ints : (l : List ℕ) → within l ≡ true → map (read_hex 4 4) (map (λ (a : ℕ). hex (pair_word m a / 65536)) l) ≡ map (λ (a : ℕ). Some (register_word m a)) l
    ints [] h = refl
    ints (a ∷ l) h =
        let (k, rest) = inside a l h in
        rw ((pair_parts a k.0 k.1).0, four-read (register_word m a) (small a k.0 (omega (arith, k.1))), ints l rest)

    fracs : (l : List ℕ) → within l ≡ true → map (read_hex 4 4) (map (λ (a : ℕ). hex (pair_word m a % 65536)) l) ≡ map (λ (a : ℕ). Some (register_word m (a + 1))) l
    fracs [] h = refl
    fracs (a ∷ l) h =
        let (k, rest) = inside a l h in
        rw ((pair_parts a k.0 k.1).1, four-read (register_word m (a + 1)) (small (a + 1) (omega (arith, k.0)) (omega (arith, k.1))), fracs l rest)

    pub words_back :
        (map (λ (i : ℕ). read_hex 4 4 (get_or (row m i) 1 [])) rows_of_one ≡ map (λ (a : ℕ). Some (register_word m a)) addresses_of_one) ×
        (map (λ (i : ℕ). read_hex 4 4 (get_or (row m i) 1 [])) rows_of_two ≡ map (λ (a : ℕ). Some (register_word m a)) addresses_of_two) ×
        (map (λ (i : ℕ). read_hex 4 4 (get_or (row m i) 3 [])) rows_of_two ≡ map (λ (a : ℕ). Some (register_word m (a + 1))) addresses_of_two)
    words_back =
        let e = words-shown m in (
          ap (map (read_hex 4 4)) e.0 ∙ singles addresses_of_one refl,
          ap (map (read_hex 4 4)) e.1 ∙ ints addresses_of_two refl,
          ap (map (read_hex 4 4)) e.2 ∙ fracs addresses_of_two refl,
        )

    -- HIT1UP to HIT6UP and AVGUP, and so down
    pub up-rows : (i : ℕ) → i < 7 → row m (25 + i) ≡ pair m (get_or up_labels i "") (0xC5 + 2 * i) (measured (get_or m.flight.ups i 0))
    unfolding page clock_rows setup_rows more_setup_rows up_rows
    up-rows zero h = result-at _ 0xC5 _ (omega arith) (omega arith) (reads-ups m 0 h)
    up-rows (suc zero) h = result-at _ 0xC7 _ (omega arith) (omega arith) (reads-ups m 1 h)
    up-rows (suc (suc zero)) h = result-at _ 0xC9 _ (omega arith) (omega arith) (reads-ups m 2 h)
    up-rows (suc (suc (suc zero))) h = result-at _ 0xCB _ (omega arith) (omega arith) (reads-ups m 3 h)
    up-rows (suc (suc (suc (suc zero)))) h = result-at _ 0xCD _ (omega arith) (omega arith) (reads-ups m 4 h)
    up-rows (suc (suc (suc (suc (suc zero))))) h = result-at _ 0xCF _ (omega arith) (omega arith) (reads-ups m 5 h)
    up-rows (suc (suc (suc (suc (suc (suc zero)))))) h = result-at _ 0xD1 _ (omega arith) (omega arith) (reads-ups m 6 h)
    up-rows (suc (suc (suc (suc (suc (suc (suc n))))))) h = absurd (omega arith)

    pub down-rows : (i : ℕ) → i < 7 → row m (33 + i) ≡ pair m (get_or down_labels i "") (0xD4 + 2 * i) (measured (get_or m.flight.downs i 0))
    unfolding page clock_rows setup_rows more_setup_rows up_rows down_rows
    down-rows zero h = result-at _ 0xD4 _ (omega arith) (omega arith) (reads-downs m 0 h)
    down-rows (suc zero) h = result-at _ 0xD6 _ (omega arith) (omega arith) (reads-downs m 1 h)
    down-rows (suc (suc zero)) h = result-at _ 0xD8 _ (omega arith) (omega arith) (reads-downs m 2 h)
    down-rows (suc (suc (suc zero))) h = result-at _ 0xDA _ (omega arith) (omega arith) (reads-downs m 3 h)
    down-rows (suc (suc (suc (suc zero)))) h = result-at _ 0xDC _ (omega arith) (omega arith) (reads-downs m 4 h)
    down-rows (suc (suc (suc (suc (suc zero))))) h = result-at _ 0xDE _ (omega arith) (omega arith) (reads-downs m 5 h)
    down-rows (suc (suc (suc (suc (suc (suc zero)))))) h = result-at _ 0xE0 _ (omega arith) (omega arith) (reads-downs m 6 h)
    down-rows (suc (suc (suc (suc (suc (suc (suc n))))))) h = absurd (omega arith)

    -- TOF_DIFF, signed: FFFFh FFFFh is no time where AVGUP has none; and the event's mean of differences, signed
    pub difference-row :
        row m 40
        ≡ pair m "E2 E3  TOF_DIFFInt/Frac         " 0xE2
        (cond (both (eqb (get_or m.flight.ups 6 0) 0xFFFFFFFF) (eqb m.flight.difference 0xFFFFFFFF)) (ascii "no time" ∷ [])
        (signed_timed m.flight.difference))
    unfolding page clock_rows setup_rows more_setup_rows up_rows down_rows difference_rows difference_row pair_row difference_texts signed_time
    difference-row =
        let d = reads-difference m in
        let u = reads-ups m 6 (omega arith) in
        rw (
          pair-shown m s 0xE2 _ (omega arith) (omega arith) d (few 0xE2 _ (omega arith) (omega arith) d),
          pair-shown m s 0xD1 _ (omega arith) (omega arith) u (few 0xD1 _ (omega arith) (omega arith) u),
          d.high,
          d.low,
        )

    pub mean-row :
        row m 42
        ≡ pair m "E5 E6  TOF_DIFF_AVGInt/Frac     " 0xE5 (signed_timed (difference_mean m.flight.sum m.flight.schedule.good))
    unfolding page clock_rows setup_rows more_setup_rows up_rows down_rows difference_rows mean_row pair_row signed_time
    mean-row =
        let d = reads-mean m in
        rw (pair-shown m s 0xE5 _ (omega arith) (omega arith) d (few 0xE5 _ (omega arith) (omega arith) d), d.high, d.low)

    -- T1 to T4, and their means
    pub port-rows : (i : ℕ) → i < 4 → row m (43 + i) ≡ pair m (get_or port_labels i "") (0xE7 + 2 * i) (port_measured (get_or m.temperature.ports i 0))
    unfolding page clock_rows setup_rows more_setup_rows up_rows down_rows difference_rows port_rows
    port-rows zero h = port-at _ 0xE7 _ (omega arith) (omega arith) (reads-ports m 0 h)
    port-rows (suc zero) h = port-at _ 0xE9 _ (omega arith) (omega arith) (reads-ports m 1 h)
    port-rows (suc (suc zero)) h = port-at _ 0xEB _ (omega arith) (omega arith) (reads-ports m 2 h)
    port-rows (suc (suc (suc zero))) h = port-at _ 0xED _ (omega arith) (omega arith) (reads-ports m 3 h)
    port-rows (suc (suc (suc (suc n)))) h = absurd (omega arith)

    pub mean-rows :
        (i : ℕ) →
        i < 4 →
        row m (48 + i)
        ≡ pair m (get_or mean_labels i "") (0xF0 + 2 * i) (measured (port_mean (get_or m.temperature.sums i no_quanta) m.temperature.schedule.good))
    unfolding page clock_rows setup_rows more_setup_rows up_rows down_rows difference_rows port_rows
    mean-rows zero h = result-at _ 0xF0 _ (omega arith) (omega arith) (reads-means m 0 h)
    mean-rows (suc zero) h = result-at _ 0xF2 _ (omega arith) (omega arith) (reads-means m 1 h)
    mean-rows (suc (suc zero)) h = result-at _ 0xF4 _ (omega arith) (omega arith) (reads-means m 2 h)
    mean-rows (suc (suc (suc zero))) h = result-at _ 0xF6 _ (omega arith) (omega arith) (reads-means m 3 h)
    mean-rows (suc (suc (suc (suc n)))) h = absurd (omega arith)

    -- ---- the times read back

    -- Wherever a row has a time, its text reads back as the nearest number of ten-thousandths of a nanosecond to the word's quanta.
    pub up-reads : (i : ℕ) → i < 7 → ¬ (get_or m.flight.ups i 0 ≡ 0xFFFFFFFF) → TimeText [] (get_or (row m (25 + i)) 5 []) (get_or m.flight.ups i 0)
    up-reads i h n =
        rw (up-rows i h, ne_eqb (get_or m.flight.ups i 0) 0xFFFFFFFF n)
        (time-reads _ (few (0xC5 + 2 * i) _ (omega arith) (omega arith) (reads-ups m i h)))

    pub down-reads : (i : ℕ) → i < 7 → ¬ (get_or m.flight.downs i 0 ≡ 0xFFFFFFFF) → TimeText [] (get_or (row m (33 + i)) 5 []) (get_or m.flight.downs i 0)
    down-reads i h n =
        rw (down-rows i h, ne_eqb (get_or m.flight.downs i 0) 0xFFFFFFFF n)
        (time-reads _ (few (0xD4 + 2 * i) _ (omega arith) (omega arith) (reads-downs m i h)))

    pub port-reads : (i : ℕ) → i < 4 → ¬ (get_or m.temperature.ports i 0 ≡ 0) → ¬ (get_or m.temperature.ports i 0 ≡ 0xFFFFFFFF)
        → TimeText [] (get_or (row m (43 + i)) 5 []) (get_or m.temperature.ports i 0)
    port-reads i h z n =
        rw (port-rows i h, ne_eqb (get_or m.temperature.ports i 0) 0 z, ne_eqb (get_or m.temperature.ports i 0) 0xFFFFFFFF n)
        (time-reads _ (few (0xE7 + 2 * i) _ (omega arith) (omega arith) (reads-ports m i h)))

    pub mean-reads :
        (i : ℕ) →
        i < 4 →
        let w : ℕ = port_mean (get_or m.temperature.sums i no_quanta) m.temperature.schedule.good in
        ¬ (w ≡ 0xFFFFFFFF) → TimeText [] (get_or (row m (48 + i)) 5 []) w
    mean-reads i h n =
        rw (mean-rows i h, ne_eqb (port_mean (get_or m.temperature.sums i no_quanta) m.temperature.schedule.good) 0xFFFFFFFF n)
        (time-reads _ (few (0xF0 + 2 * i) _ (omega arith) (omega arith) (reads-means m i h)))

    pub difference-reads :
        ¬ ((get_or m.flight.ups 6 0 ≡ 0xFFFFFFFF) × (m.flight.difference ≡ 0xFFFFFFFF)) →
        (m.flight.difference < 2 ^ 31 → TimeText [] (get_or (row m 40) 5 []) m.flight.difference) ×
        (2 ^ 31 ≤ m.flight.difference → TimeText (ascii "-") (get_or (row m 40) 5 []) (2 ^ 32 - m.flight.difference))
    difference-reads n =
        let w : ℕ = m.flight.difference in
        let e : both (eqb (get_or m.flight.ups 6 0) 0xFFFFFFFF) (eqb w 0xFFFFFFFF) ≡ false = not-both (get_or m.flight.ups 6 0) w n in
        let d = reads-difference m in
        rw (difference-row, e)
        (λ h. positive-reads w h, λ h. negative-reads w h (few 0xE2 _ (omega arith) (omega arith) d))

    pub difference-mean-reads :
        let w : ℕ = difference_mean m.flight.sum m.flight.schedule.good in
        (w < 2 ^ 31 → TimeText [] (get_or (row m 42) 5 []) w) × (2 ^ 31 ≤ w → TimeText (ascii "-") (get_or (row m 42) 5 []) (2 ^ 32 - w))
    difference-mean-reads =
        let w : ℕ = difference_mean m.flight.sum m.flight.schedule.good in
        rw mean-row
        (λ h. positive-reads w h, λ h. negative-reads w h (few 0xE5 _ (omega arith) (omega arith) (reads-mean m)))
