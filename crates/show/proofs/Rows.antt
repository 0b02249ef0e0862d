-- Rows by their forms. Assumes nothing.
use Prim.Native.Nat.{ℕ, zero, suc, ◌+◌, ◌/◌, ◌%◌, ◌<◌, min}
use mathlib.Core.List.{List, [], ◌∷◌, ◌++◌, append_assoc, append-nil}
use mathlib.Core.Path.{◌≡◌, refl, sym, ap, ◌∙◌}
use mathlib.Core.Bool.{true, false, cond}
use native.Mathlib.Nat.{add-zero}
use native.Mathlib.Omega.{arith}
use lib.Dec.{eqb}
use lib.ListN.{length, get_or, set, drop}
use lib.Seq.{get_or-set_same, get_or-set_other, ext_get_or}
use borrow.Author.Tests.{ne_eqb}
use Rattle.device.specs.declared.Model.{Model}
use Rattle.unit.specs.Bits.{bits}
use Rattle.unit.proofs.Cases.{by_eqb}
use Rattle.setup.specs.Table11.{stop_row, timeout_row}
use Rattle.numeral.specs.Digit.{digits}
use Rattle.numeral.specs.Print.{decimal}
use Rattle.numeral.specs.Ascii.{ascii}
use Rattle.wording.specs.Text.{PutEach}
use Rattle.wording.specs.Wording.{Texts, line_feed, counted, reported_where}
use Rattle.item_state.specs.Told.{told_value, read_word}
use Rattle.device.specs.Question.{regulator_on}
use Rattle.form.specs.Form.{form_texts, PutForm, pair_of, pair_texts, result_texts, time_texts, port_texts}
use Rattle.page.specs.Row.{ended, lines, register_row, pair_row, absent_row, absent_pair, plural}
use Rattle.page.specs.Page.{page, page_texts}
use Rattle.page.specs.Run.{run_rows}
use Rattle.page.specs.Commands.{command_rows}
use Rattle.page.specs.Clock.{clock_rows, hours, seconds, seconds_row, time_of_day, half_day, date_texts, time_row, clock_row, alarm_texts, alarm_row}
use Rattle.page.specs.Setup.{setup_rows, more_setup_rows, pulses, tof2_row, clock_state}
use Rattle.page.specs.Results.{up_rows, down_rows, port_rows, pair_word, time, result_texts as meaning, port_texts as port_meaning, result_row, port_row, signed_time, difference_texts, difference_row, count_row, mean_row, difference_rows, high_names, low_names, takes_two, status_label, status_rows, supply_row, last_rows}
use Rattle.show.proofs.Lines.{lines-append}
use Rattle.show.specs.Words.{words_from, page_words, PutRows, register_rows}

-- The same texts.
pub put_as : {l l' : List ℕ} {at r : ℕ} {ts us : Texts} → PutEach l at ts r l' → ts ≡ us → PutEach l at us r l'
put_as put same = rw (← same) put

-- Texts that are rows, each with its line feed.
pub record Rows (ts : Texts) (rows : List Texts) : Type 0 where
  pub same : ts ≡ lines rows

pub no_rows : Rows [] []
unfolding lines
no_rows = record { same = refl }

pub row-then : {us row : Texts} {rows : List Texts} → Rows us rows → Rows (ended row ++ us) (row ∷ rows)
unfolding lines
row-then {us} {row} {rows} next = record { same = ap (λ (ts : Texts). ended row ++ ts) next.same }

-- a row that ends with texts which are not known one by one
row_of : {us : Texts} {rows : List Texts} (front texts : Texts) → Rows us rows → Rows (front ++ (texts ++ (line_feed ∷ us))) ((front ++ texts) ∷ rows)
unfolding lines
row_of {us} {rows} front texts next =
    record {
      same = ap (λ (ts : Texts). front ++ (texts ++ (line_feed ∷ ts))) next.same
          ∙ sym (append_assoc (front ++ texts) (line_feed ∷ []) (lines rows) ∙ append_assoc front texts (line_feed ∷ lines rows));
    }

module _ {label : List ℕ} {us : Texts} {rows : List Texts} (m : Model) (a : ℕ) (next : Rows us rows) where
  pub result-then : Rows (label ∷ ((pair_texts (pair_of (read_word m a) (read_word m (a + 1))) ++ result_texts (pair_of (read_word m a) (read_word m (a + 1)))) ++ (line_feed ∷ us))) (result_row label (pair_word m a) ∷ rows)
  unfolding pair_of pair_texts result_texts time_texts result_row pair_row pair_word time meaning
  result-then = row_of (label ∷ pair_texts (pair_word m a)) (result_texts (pair_word m a)) next

  pub port-then : Rows (label ∷ ((pair_texts (pair_of (read_word m a) (read_word m (a + 1))) ++ port_texts (pair_of (read_word m a) (read_word m (a + 1)))) ++ (line_feed ∷ us))) (port_row label (pair_word m a) ∷ rows)
  unfolding pair_of pair_texts result_texts time_texts port_texts port_row pair_row pair_word time meaning port_meaning
  port-then = row_of (label ∷ pair_texts (pair_word m a)) (port_texts (pair_word m a)) next

-- A form that is filled in with the words from a place on.
pub fill : (n : ℕ) (ws : List ℕ) {l l' form vs : List ℕ} {at r : ℕ} (rows : Model → List Texts)
    → PutForm l at form vs r l' → vs ≡ drop n ws
    → ((m : Model) → Rows (form_texts [] form (drop n (page_words m))) (rows m)) → PutRows rows ws l at r l'
fill n ws rows put part same m e = rw (← (same m).same, ← e, ← part) put.put

-- Texts that are put in turn, before the row's line feed.
pub end-two : (front a b : Texts) → front ++ (a ++ (b ++ (line_feed ∷ []))) ≡ ended (front ++ (a ++ b))
end-two front a b = simp append_assoc

pub end-four : (front a b c d : Texts) → front ++ (a ++ (b ++ (c ++ (d ++ (line_feed ∷ []))))) ≡ ended (front ++ (a ++ (b ++ (c ++ d))))
end-four front a b c d = simp append_assoc

pub last-four : (a b c d : Texts) → a ++ (b ++ (c ++ (d ++ []))) ≡ a ++ (b ++ (c ++ d))
last-four a b c d = rw (append-nil d)

pub last-seven : (a b c d e f g : Texts) → a ++ (b ++ (c ++ (d ++ (e ++ (f ++ (g ++ [])))))) ≡ a ++ (b ++ (c ++ (d ++ (e ++ (f ++ g)))))
last-seven a b c d e f g = rw (append-nil g)

-- AM or PM, or neither
half : (x : ℕ) (a b : List ℕ) (us : Texts)
    → cond (eqb x 2) (a ∷ []) [] ++ (cond (eqb x 3) (b ∷ []) [] ++ us) ≡ cond (eqb x 2) (a ∷ []) (cond (eqb x 3) (b ∷ []) []) ++ us
half x a b us = by_eqb x 2 (λ h e. rw h) (λ h e. rw e)

pub end-half : (front : Texts) (w : ℕ) → front ++ (reported_where (eqb (bits 6 5 w) 2) (ascii " AM") ++ (reported_where (eqb (bits 6 5 w) 3) (ascii " PM") ++ (line_feed ∷ []))) ≡ ended (front ++ half_day w)
unfolding half_day reported_where
end-half front w =
    ap (λ (ts : Texts). front ++ ts) (half (bits 6 5 w) (ascii " AM") (ascii " PM") (line_feed ∷ [])) ∙ sym (append_assoc front (half_day w) (line_feed ∷ []))

-- one of four
fourth : (x : ℕ) (a b c d : List ℕ) (us : Texts) → x < 4
    → cond (eqb x 0) (a ∷ []) [] ++ (cond (eqb x 1) (b ∷ []) [] ++ (cond (eqb x 2) (c ∷ []) [] ++ (cond (eqb x 3) (d ∷ []) [] ++ us)))
    ≡ cond (eqb x 0) (a ∷ []) (cond (eqb x 1) (b ∷ []) (cond (eqb x 2) (c ∷ []) (d ∷ []))) ++ us
fourth x a b c d us h =
    by_eqb x 0 (λ i e. rw i)
    (λ i e. rw e (by_eqb x 1 (λ j e. rw j) (λ j e. rw e (by_eqb x 2 (λ k e. rw k) (λ k e. rw e (let z : x ≡ 3 = omega arith in rw z))))))

pub end-alarm : (front : Texts) (w mode : ℕ) → mode < 4
    → front ++ (reported_where (eqb (bits 6 5 w) 2) (ascii " AM") ++ (reported_where (eqb (bits 6 5 w) 3) (ascii " PM")
    ++ (reported_where (eqb mode 0) (ascii ", no alarm") ++ (reported_where (eqb mode 1) (ascii ", minutes match")
    ++ (reported_where (eqb mode 2) (ascii ", hours match") ++ (reported_where (eqb mode 3) (ascii ", hours and minutes match") ++ (line_feed ∷ [])))))))
    ≡ ended (front ++ (half_day w ++ alarm_texts mode))
unfolding half_day alarm_texts reported_where
end-alarm front w mode h =
    let tail = fourth mode (ascii ", no alarm") (ascii ", minutes match") (ascii ", hours match") (ascii ", hours and minutes match") (line_feed ∷ []) h in
    ap (λ (ts : Texts). front ++ ts) (half (bits 6 5 w) (ascii " AM") (ascii " PM") _ ∙ ap (λ (ts : Texts). half_day w ++ ts) tail)
    ∙ end-two front (half_day w) (alarm_texts mode)

-- one of two
pub clock-state : (x : ℕ) (us : Texts) → x < 2
    → reported_where (eqb x 1) (ascii " EOSC 1 clock stands, AM ") ++ (reported_where (eqb x 0) (ascii " EOSC 0 clock runs, AM ") ++ us) ≡ clock_state x ∷ us
unfolding clock_state reported_where
clock-state x us h = by_eqb x 1 (λ i e. rw i) (λ i e. rw e (let z : x ≡ 0 = omega arith in rw z))

-- The words of a page, one by one.
pub fill-as : (n : ℕ) (ws : List ℕ) (m : Model) {l l' form vs : List ℕ} {at r : ℕ}
    → PutForm l at form vs r l' → vs ≡ drop n ws → ws ≡ page_words m → PutEach l at (form_texts [] form (drop n (page_words m))) r l'
fill-as n ws m put part e = rw (← e, ← part) put.put

pub row_as : (row : ℕ → Texts) {l l' : List ℕ} {at r v w : ℕ} → v ≡ w → PutEach l at (ended (row v)) r l' → PutEach l at (ended (row w)) r l'
row_as row e put = rw (← e) put

pub word-as : (i : ℕ) (ws : List ℕ) (m : Model) {v : ℕ} → v ≡ get_or ws i 0 → ws ≡ page_words m → v ≡ get_or (page_words m) i 0
word-as i ws m e same = rw (← same) e

-- Two rows, or one.
pub two-rows : (front high low : Texts) (blanks : List ℕ)
    → front ++ (high ++ ((line_feed ∷ blanks ∷ []) ++ (low ++ (line_feed ∷ [])))) ≡ lines ((front ++ high) ∷ (blanks ∷ low) ∷ [])
unfolding lines
two-rows front high low blanks = simp (append_assoc, append-nil)

pub one-row : (front high low none : Texts) → front ++ (high ++ (low ++ (none ++ (line_feed ∷ [])))) ≡ lines ((front ++ (high ++ (low ++ none))) ∷ [])
unfolding lines
one-row front high low none = simp (append_assoc, append-nil)

pub status-two : (w : ℕ) → takes_two w ≡ true
    → lines (register_row status_label w (high_names w) ∷ (ascii "                                          " ∷ low_names w) ∷ []) ≡ lines (status_rows w)
unfolding status_rows
status-two w e = rw e

pub status-one : (w : ℕ) → takes_two w ≡ false
    → lines (register_row status_label w (high_names w ++ (low_names w ++ reported_where (eqb w 0) (ascii " none"))) ∷ []) ≡ lines (status_rows w)
unfolding status_rows
status-one w e = rw e

-- Pulses, and the rows of tables.
pub pulses-off : (pl : ℕ) → pl ≡ 0 → ascii " PL off" ∷ [] ≡ pulses pl
unfolding pulses
pulses-off pl h = rw h

pub pulses-on : (pl n : ℕ) → ¬ (pl ≡ 0) → n ≡ min pl 127 → ascii " PL " ∷ (plural n (ascii " pulse") ++ []) ≡ pulses pl
unfolding pulses
pulses-on pl n h e = rw (append-nil (plural n (ascii " pulse")), ne_eqb pl 0 h, e)

pub tof2-row : (w s t : ℕ) → s ≡ stop_row (bits 15 13 w) → t ≡ timeout_row (bits 2 0 w)
    → register_row (ascii "B9     TOF2                     ") w (ascii " STOP " ∷ []) ++ (plural s (ascii " hit") ++ ((ascii ", TIMOUT " ∷ counted t (ascii " us")) ++ (line_feed ∷ []))) ≡ ended (tof2_row w)
unfolding tof2_row register_row
tof2-row w s t e f =
    rw (e, f) (end-two (register_row (ascii "B9     TOF2                     ") w (ascii " STOP " ∷ [])) (plural (stop_row (bits 15 13 w)) (ascii " hit")) (ascii ", TIMOUT " ∷ counted (timeout_row (bits 2 0 w)) (ascii " us")))

-- The clock.
pub time-row : (w h : ℕ) → h ≡ hours w
    → register_row (ascii "B1     Mins_Hrs                 ") w (ascii " " ∷ digits 16 2 h ∷ ascii ":" ∷ digits 16 2 (bits 14 8 w) ∷ [])
    ++ (reported_where (eqb (bits 6 5 w) 2) (ascii " AM") ++ (reported_where (eqb (bits 6 5 w) 3) (ascii " PM") ++ (line_feed ∷ []))) ≡ ended (time_row w)
unfolding time_row time_of_day register_row
time-row w h e = rw e (end-half (register_row (ascii "B1     Mins_Hrs                 ") w (ascii " " ∷ time_of_day w)) w)

pub clock-row : (s t d mo h : ℕ) → h ≡ hours t
    → (ascii "       Clock                               " ∷ (date_texts d mo ++ (digits 16 2 h ∷ ascii ":" ∷ digits 16 2 (bits 14 8 t) ∷ ascii ":" ∷ seconds s)))
    ++ (reported_where (eqb (bits 6 5 t) 2) (ascii " AM") ++ (reported_where (eqb (bits 6 5 t) 3) (ascii " PM") ++ (line_feed ∷ []))) ≡ ended (clock_row s t d mo)
unfolding clock_row time_of_day date_texts seconds
clock-row s t d mo h e =
    rw e (end-half (ascii "       Clock                               " ∷ (date_texts d mo ++ (time_of_day t ++ (ascii ":" ∷ seconds s)))) t)

pub alarm-row : (w mode h : ℕ) → h ≡ hours w → mode < 4
    → register_row (ascii "B5     Alarm                    ") w (ascii " " ∷ digits 16 2 h ∷ ascii ":" ∷ digits 16 2 (bits 14 8 w) ∷ [])
    ++ (reported_where (eqb (bits 6 5 w) 2) (ascii " AM") ++ (reported_where (eqb (bits 6 5 w) 3) (ascii " PM")
    ++ (reported_where (eqb mode 0) (ascii ", no alarm") ++ (reported_where (eqb mode 1) (ascii ", minutes match")
    ++ (reported_where (eqb mode 2) (ascii ", hours match") ++ (reported_where (eqb mode 3) (ascii ", hours and minutes match") ++ (line_feed ∷ []))))))) ≡ ended (alarm_row w mode)
unfolding alarm_row time_of_day register_row
alarm-row w mode h e small = rw e (end-alarm (register_row (ascii "B5     Alarm                    ") w (ascii " " ∷ time_of_day w)) w mode small)

-- The words, one after the other.
word-at : (m : Model) (n a k : ℕ) → k < n → get_or (words_from m a n) k 0 ≡ read_word m (a + k)
unfolding words_from
word-at m zero a k h = absurd (omega arith)
word-at m (suc n) a zero h = rw add-zero
word-at m (suc n) a (suc k) h = word-at m n (a + 1) k (omega arith) ∙ ap (λ (x : ℕ). read_word m x) (omega arith)

length-words : (m : Model) (n a : ℕ) → length (words_from m a n) ≡ n
unfolding words_from
length-words m zero a = refl
length-words m (suc n) a = ap suc (length-words m n (a + 1))

pub words-on : (m : Model) (ws : List ℕ) (i v : ℕ) → i < length ws → v ≡ read_word m (176 + i)
    → ((k : ℕ) → k < i → get_or ws k 0 ≡ read_word m (176 + k)) → (k : ℕ) → k < i + 1 → get_or (set ws i v) k 0 ≡ read_word m (176 + k)
words-on m ws i v h e before k l =
    by_eqb k i (λ s t. rw (s, get_or-set_same ws i v 0 h) e) (λ s t. get_or-set_other ws i k v 0 s ∙ before k (omega arith))

pub words-end : (m : Model) (ws : List ℕ) → length ws ≡ 80 → ((k : ℕ) → k < 80 → get_or ws k 0 ≡ read_word m (176 + k)) → ws ≡ page_words m
unfolding page_words
words-end m ws n each = ext_get_or 0 ws (words_from m 176 80) (n ∙ sym (length-words m 80 176)) (λ k h. each k (omega arith) ∙ sym (word-at m 80 176 k (omega arith)))

-- What the words of a page say, put by them.
pub pair-as : (i : ℕ) (ws : List ℕ) (m : Model) {v : ℕ} → v ≡ pair_of (get_or ws i 0) (get_or ws (i + 1) 0) → ws ≡ page_words m
    → v ≡ pair_of (get_or (page_words m) i 0) (get_or (page_words m) (i + 1) 0)
pair-as i ws m e same = rw (← same) e

pub difference-as : {l l' : List ℕ} {at r v w v' w' : ℕ} → v ≡ w → v' ≡ w' → PutEach l at (difference_texts v v') r l' → PutEach l at (difference_texts w w') r l'
difference-as e f put = rw (← e, ← f) put

pub signed-as : {l l' : List ℕ} {at r v w : ℕ} → v ≡ w → PutEach l at (signed_time v) r l' → PutEach l at (signed_time w) r l'
signed-as e put = rw (← e) put

pub status-as : {l l' : List ℕ} {at r v w : ℕ} → v ≡ w → PutEach l at (lines (status_rows v)) r l' → PutEach l at (lines (status_rows w)) r l'
status-as e put = rw (← e) put

pub seconds-as : {l l' : List ℕ} {at r v w : ℕ} {title : List ℕ} → v ≡ w → PutEach l at (title ∷ line_feed ∷ ended (seconds_row v)) r l' → PutEach l at (title ∷ line_feed ∷ ended (seconds_row w)) r l'
seconds-as e put = rw (← e) put

pub clock-as : {l l' : List ℕ} {at r s t d n s' t' d' n' : ℕ} → s ≡ s' → t ≡ t' → d ≡ d' → n ≡ n'
    → PutEach l at (ended (clock_row s t d n)) r l' → PutEach l at (ended (clock_row s' t' d' n')) r l'
clock-as e f g h put = rw (← e, ← f, ← g, ← h) put

pub alarm-as : {l l' : List ℕ} {at r v w x y : ℕ} → v ≡ w → x ≡ y
    → PutEach l at (ended (alarm_row v (x / 4 % 4))) r l' → PutEach l at (ended (alarm_row w (bits 3 2 y)) ++ []) r l'
alarm-as {w} {y} e f put = rw (append-nil (ended (alarm_row w (bits 3 2 y))), ← e, ← f) put

-- The rows of differences, whose times are put apart.
pub difference-rows : (m : Model) {l l' : List ℕ} {at r : ℕ}
    → PutEach l at ((ascii "E2 E3  TOF_DIFFInt/Frac         " ∷ pair_texts (pair_word m 0xE2)) ++ (difference_texts (pair_word m 0xE2) (pair_word m 0xD1)
    ++ ((line_feed ∷ (register_row (ascii "E4     TOF_Cycle_Count          ") (read_word m 0xE4) (ascii " good cycles: " ∷ decimal (read_word m 0xE4) ∷ line_feed ∷ ascii "E5 E6  TOF_DIFF_AVGInt/Frac     " ∷ pair_texts (pair_word m 0xE5))))
    ++ (signed_time (pair_word m 0xE5) ++ (line_feed ∷ []))))) r l'
    → PutEach l at (lines (difference_rows m)) r l'
unfolding lines pair_texts register_row pair_row difference_row count_row mean_row difference_rows
difference-rows m put =
    put_as put (joined (ascii "E2 E3  TOF_DIFFInt/Frac         " ∷ pair_texts (pair_word m 0xE2)) (difference_texts (pair_word m 0xE2) (pair_word m 0xD1))
    (count_row (ascii "E4     TOF_Cycle_Count          ") (read_word m 0xE4)) (ascii "E5 E6  TOF_DIFF_AVGInt/Frac     " ∷ pair_texts (pair_word m 0xE5)) (signed_time (pair_word m 0xE5)))
  where
    joined : (a b c d e : Texts) → a ++ (b ++ ((line_feed ∷ (c ++ (line_feed ∷ d))) ++ (e ++ (line_feed ∷ [])))) ≡ lines ((a ++ b) ∷ c ∷ (d ++ e) ∷ [])
    joined a b c d e = simp (append_assoc, append-nil)

-- The rows around the status.
pub last-rows : (m : Model) {l l' : List ℕ} {at r : ℕ}
    → PutEach l at (lines (absent_pair (ascii "F8 F9  CalibrationInt/Frac      ") (pair_word m 0xF8) ∷ absent_pair (ascii "FA FB  Reserved                 ") (pair_word m 0xFA)
    ∷ absent_pair (ascii "FC FD  Reserved                 ") (pair_word m 0xFC) ∷ (ascii "STATUS REGISTERS" ∷ []) ∷ [])
    ++ (lines (status_rows (read_word m 0xFE)) ++ (ended (supply_row (told_value (regulator_on m)))
    ++ lines (absent_row (ascii "FF     Control                  ") (read_word m 0xFF) ∷ [])))) r l'
    → PutEach l at (lines (last_rows m)) r l'
unfolding lines last_rows absent_pair pair_row
last-rows m put =
    rw (lines-append (status_rows (read_word m 0xFE)) (supply_row (told_value (regulator_on m)) ∷ absent_row (ascii "FF     Control                  ") (read_word m 0xFF) ∷ [])) put

-- The parts of the page.
pub register-rows : (m : Model) {l l' : List ℕ} {at r : ℕ}
    → PutEach l at (lines (clock_rows m) ++ (lines (setup_rows m) ++ (lines (more_setup_rows m) ++ (lines (up_rows m) ++ (lines (down_rows m)
    ++ (lines (difference_rows m) ++ (lines (port_rows m) ++ lines (last_rows m)))))))) r l'
    → PutEach l at (lines (register_rows m)) r l'
unfolding register_rows
register-rows m put =
    rw (lines-append, lines-append, lines-append, lines-append, lines-append, lines-append, lines-append) put

nested : (a b c d e f g h i j : List Texts)
    → (a ++ (b ++ (c ++ (d ++ (e ++ (f ++ (g ++ h))))))) ++ (i ++ j) ≡ a ++ (b ++ (c ++ (d ++ (e ++ (f ++ (g ++ (h ++ (i ++ j))))))))
nested a b c d e f g h i j = simp append_assoc

whole-page : (m : Model) → register_rows m ++ (run_rows m ++ command_rows m) ≡ page m
unfolding register_rows page
whole-page m =
    nested (clock_rows m) (setup_rows m) (more_setup_rows m) (up_rows m) (down_rows m) (difference_rows m) (port_rows m) (last_rows m) (run_rows m) (command_rows m)

pub page-rows : (m : Model) {l l' : List ℕ} {at r : ℕ}
    → PutEach l at (lines (register_rows m) ++ (lines (run_rows m) ++ lines (command_rows m))) r l' → PutEach l at (page_texts m) r l'
unfolding page_texts
page-rows m put = rw (← whole-page m, lines-append (register_rows m) (run_rows m ++ command_rows m), lines-append (run_rows m) (command_rows m)) put
