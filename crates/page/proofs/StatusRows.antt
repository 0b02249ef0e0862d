-- The rows of the status, by the names of its bits, and those behind it: the flash's supply and the state of the run. Assumes nothing.
use Prim.Native.Nat.{ℕ, ◌+◌, ◌%◌, ◌^◌, ◌≤◌, ◌<◌}
use Prim.Native.String.{String}
use mathlib.Core.Bool.{Bool, true, false, cond}
use mathlib.Core.List.{List, [], ◌∷◌, ◌++◌, map, append-nil, append_assoc}
use mathlib.Core.Logic.{◌⊎◌, ⊎_elim}
use mathlib.Core.Path.{◌≡◌, refl, sym, ◌∙◌}
use native.Mathlib.Omega.{arith}
use lib.Dec.{ltb, eqb}
use lib.Seq.{get_or-drop}
use lib.ListN.{length, get_or, drop}
use borrow.Author.Tests.{lt-ltb, le-ltb, lt-leb, le-leb, ne_eqb}
use Rattle.unit.specs.Bits.{is_set}
use Rattle.unit.specs.Choice.{either, both}
use Rattle.unit.proofs.Cases.{by-test, by_eqb}
use Rattle.numeral.specs.Read.{read_decimal}
use Rattle.numeral.specs.Digit.{digits, glyph}
use Rattle.numeral.specs.Print.{decimal}
use Rattle.numeral.proofs.PrintLaws.{decimal-reads-back}
use Rattle.device.specs.declared.Model.{Model}
use Rattle.device.specs.Model.{is_sound}
use Rattle.device.specs.Registers.{register_word}
use Rattle.device.specs.Status.{Bit, TO, AF, TOF, TE, LDO, TOF-EVTMG, TEMP-EVTMG, FLASH, HALT, INIT, POR, place, has}
use Rattle.device.proofs.Sound.{ScheduleBounds, bounds_of}
use Rattle.device.specs.declared.Schedule.{Schedule}
use Rattle.device.specs.Event.{in_event, starts_left}
use Rattle.run_state.specs.State.{initialised_told, left_told}
use Rattle.run_state.specs.Event.{next_start, place_of, place_told}
use Rattle.device.specs.Question.{regulator_on}
use Rattle.device.proofs.StatusMeaning.{status-means}
use Rattle.numeral.specs.Ascii.{ascii}
use Rattle.wording.specs.Wording.{Texts, counted, reported_where}
use Rattle.item_state.specs.Told.{told_value, read_word}
use Rattle.page.specs.Row.{register_row, absent_row, plural}
use Rattle.page.specs.Clock.{clock_rows}
use Rattle.page.specs.Setup.{setup_rows, more_setup_rows}
use Rattle.page.specs.Results.{up_rows, down_rows, difference_rows, port_rows, high_names, low_names, takes_two, status_rows, supply_row, last_rows}
use Rattle.page.specs.Run.{initialised_row, left_ticks, awaited_row, place_texts, event_texts, wait_texts, next_texts, run_rows}
use Rattle.page.specs.Commands.{command_rows}
use Rattle.page.specs.Page.{page}
use Rattle.page.proofs.Meaning.{word_read}
use Rattle.page.proofs.Values.{bit-shown}
use Rattle.page.proofs.Rows.{row, one, several, named}
use Rattle.std.specs.Prelude.{Some}

-- ---- the status

-- The bits that have names, those of the high byte before those of the low one.
abbrev high_bits : List Bit
high_bits = TO ∷ AF ∷ TOF ∷ TE ∷ LDO ∷ TOF-EVTMG ∷ TEMP-EVTMG ∷ []

abbrev low_bits : List Bit
low_bits = FLASH ∷ HALT ∷ INIT ∷ POR ∷ []

abbrev name_of : Bit → String
name_of TO = " TO"
name_of AF = " AF"
name_of TOF = " TOF"
name_of TE = " TE"
name_of LDO = " LDO"
name_of TOF-EVTMG = " TOF_EVTMG"
name_of TEMP-EVTMG = " TEMP_EVTMG"
name_of FLASH = " FLASH"
name_of HALT = " HALT"
name_of INIT = " INIT"
name_of POR = " POR"

-- the names of those bits that are 1 in w
abbrev names_in : ℕ → List Bit → Texts
names_in w [] = []
names_in w (b ∷ bs) = named (is_set (place b) w) (name_of b) ++ names_in w bs

high-names : (w : ℕ) → high_names w ≡ names_in w high_bits
unfolding high_names reported_where
high-names w = rw (append-nil (named (is_set 8 w) " TEMP_EVTMG"))

low-names : (w : ℕ) → low_names w ≡ names_in w low_bits
unfolding low_names reported_where
low-names w = rw (append-nil (named (is_set 2 w) " POR"))

names-append : (w : ℕ) (bs cs : List Bit) → names_in w (bs ++ cs) ≡ names_in w bs ++ names_in w cs
names-append w [] cs = refl
names-append w (b ∷ bs) cs =
    rw (names-append w bs cs) (sym (append_assoc (named (is_set (place b) w) (name_of b)) (names_in w bs) (names_in w cs)))

-- whether texts have one that is t
abbrev same : List ℕ → List ℕ → Bool
same [] [] = true
same [] (y ∷ ys) = false
same (x ∷ xs) [] = false
same (x ∷ xs) (y ∷ ys) = both (eqb x y) (same xs ys)

abbrev shows : List ℕ → Texts → Bool
shows t [] = false
shows t (u ∷ us) = either (same t u) (shows t us)

either-none : (a : Bool) → either a false ≡ a
either-none true = refl
either-none false = refl

both-all : (a : Bool) → both a true ≡ a
both-all true = refl
both-all false = refl

both-none : (a : Bool) → both a false ≡ false
both-none true = refl
both-none false = refl

either-three : (a b c : Bool) → either a (either b c) ≡ either (either a b) c
either-three true b c = refl
either-three false b c = refl

shows-append : (t : List ℕ) (us vs : Texts) → shows t (us ++ vs) ≡ either (shows t us) (shows t vs)
shows-append t [] vs = refl
shows-append t (u ∷ us) vs = rw (shows-append t us vs) (either-three (same t u) (shows t us) (shows t vs))

shows-named : (t : List ℕ) (h : Bool) (name : String) → shows t (named h name) ≡ both h (same t (ascii name))
shows-named t true name = either-none (same t (ascii name))
shows-named t false name = refl

shows-bit : (b : Bit) (w : ℕ) (h : Bool) → shows (ascii (name_of b)) (names_in w (high_bits ++ low_bits) ++ named h " none") ≡ is_set (place b) w
unfolding ascii
shows-bit TO w h = simp (shows-append, shows-named, both-all, both-none, either-none)
shows-bit AF w h = simp (shows-append, shows-named, both-all, both-none, either-none)
shows-bit TOF w h = simp (shows-append, shows-named, both-all, both-none, either-none)
shows-bit TE w h = simp (shows-append, shows-named, both-all, both-none, either-none)
shows-bit LDO w h = simp (shows-append, shows-named, both-all, both-none, either-none)
shows-bit TOF-EVTMG w h = simp (shows-append, shows-named, both-all, both-none, either-none)
shows-bit TEMP-EVTMG w h = simp (shows-append, shows-named, both-all, both-none, either-none)
shows-bit FLASH w h = simp (shows-append, shows-named, both-all, both-none, either-none)
shows-bit HALT w h = simp (shows-append, shows-named, both-all, both-none, either-none)
shows-bit INIT w h = simp (shows-append, shows-named, both-all, both-none, either-none)
shows-bit POR w h = simp (shows-append, shows-named, both-all, both-none, either-none)

one-row : (w : ℕ) → (w < 256) ⊎ (w % 256 ≡ 0) → takes_two w ≡ false
unfolding takes_two
one-row w h =
    by_eqb (w % 256) 0 (λ z e. rw e)
    (λ z e. rw e (⊎_elim (λ l. lt-leb 256 w l) (λ y. absurd (z y)) h))

two-rows : (w : ℕ) → 256 ≤ w → ¬ (w % 256 ≡ 0) → takes_two w ≡ true
unfolding takes_two
two-rows w h k = rw (ne_eqb (w % 256) 0 k, le-leb 256 w h)

-- the texts of these rows, whatever rows follow
status-part : (w : ℕ) (others more : List Texts)
    → drop 3 (get_or ((status_rows w ++ others) ++ more) 0 []) ++ cond (takes_two w) (drop 1 (get_or ((status_rows w ++ others) ++ more) 1 [])) []
    ≡ (high_names w ++ low_names w) ++ named (cond (takes_two w) false (eqb w 0)) " none"
unfolding status_rows register_row reported_where
status-part w others more =
    by-test (takes_two w)
    (λ e. rw e (sym (append-nil (high_names w ++ low_names w))))
    (λ e. rw e
    (append-nil (high_names w ++ (low_names w ++ named (eqb w 0) " none")) ∙ sym (append_assoc (high_names w) (low_names w) (named (eqb w 0) " none"))))

-- What the one row or two of the status have behind label, word and blanks.
abbrev status_texts : Model → Texts
status_texts m = drop 3 (row m 56) ++ cond (takes_two (read_word m 0xFE)) (drop 1 (row m 57)) []

module _ (m : Model) (s : is_sound m ≡ true) where
  -- In one row all names, or `none`, where the word has bits in one byte alone,
  pub status-row :
      (register_word m 0xFE < 256) ⊎ (register_word m 0xFE % 256 ≡ 0) →
      row m 56
      ≡ one m "FE     Interrupt Status         " 0xFE
      (names_in (register_word m 0xFE) (high_bits ++ low_bits) ++ named (eqb (register_word m 0xFE) 0) " none")
  unfolding page clock_rows setup_rows more_setup_rows up_rows down_rows difference_rows port_rows last_rows status_rows register_row reported_where
  status-row h =
      let w : ℕ = register_word m 0xFE in
      rw (
        word_read m 0xFE s (omega arith) (omega arith),
        one-row w h,
        high-names w,
        low-names w,
        names-append w high_bits low_bits,
        append_assoc (names_in w high_bits) (names_in w low_bits) (named (eqb w 0) " none"),
      )

  -- else in two rows.
  pub status-rows :
      256 ≤ register_word m 0xFE →
      ¬ (register_word m 0xFE % 256 ≡ 0) →
      (row m 56 ≡ one m "FE     Interrupt Status         " 0xFE (names_in (register_word m 0xFE) high_bits)) ×
      (row m 57 ≡ ascii "                                          " ∷ names_in (register_word m 0xFE) low_bits)
  unfolding page clock_rows setup_rows more_setup_rows up_rows down_rows difference_rows port_rows last_rows status_rows register_row
  status-rows h k =
      let w : ℕ = register_word m 0xFE in
      rw (word_read m 0xFE s (omega arith) (omega arith), two-rows w h k, high-names w, low-names w) (refl, refl)

  -- Either way these are all names of bits that are 1, in their order,
  pub status-texts :
      status_texts m
      ≡ names_in (register_word m 0xFE) (high_bits ++ low_bits)
      ++ named (cond (takes_two (register_word m 0xFE)) false (eqb (register_word m 0xFE) 0)) " none"
  unfolding page clock_rows setup_rows more_setup_rows up_rows down_rows difference_rows port_rows last_rows
  status-texts =
      let w : ℕ = register_word m 0xFE in
      rw (word_read m 0xFE s (omega arith) (omega arith))
      (status-part w _ _ ∙ rw (high-names w, low-names w, names-append w high_bits low_bits))

  -- so that a bit's name stands there exactly where that bit of FEh's word is 1,
  pub named-exactly : (b : Bit) → shows (ascii (name_of b)) (status_texts m) ≡ is_set (place b) (register_word m 0xFE)
  named-exactly b =
      rw status-texts
      (shows-bit b (register_word m 0xFE) (cond (takes_two (register_word m 0xFE)) false (eqb (register_word m 0xFE) 0)))

  -- which is where the status has it.
  pub status-bits : (b : Bit) → is_set (place b) (register_word m 0xFE) ≡ has m.status b
  unfolding register_word
  status-bits TO = bit-shown m.status.timeout _ (status-means m.status).timeout
  status-bits AF = bit-shown m.status.alarm _ (status-means m.status).alarm
  status-bits TOF = bit-shown m.status.tof _ (status-means m.status).tof
  status-bits TE = bit-shown m.status.te _ (status-means m.status).te
  status-bits LDO = bit-shown m.status.ldo _ (status-means m.status).ldo
  status-bits TOF-EVTMG = bit-shown m.status.tofevtmg _ (status-means m.status).tofevtmg
  status-bits TEMP-EVTMG = bit-shown m.status.tempevtmg _ (status-means m.status).tempevtmg
  status-bits FLASH = bit-shown m.status.flash _ (status-means m.status).flash
  status-bits HALT = bit-shown m.status.halt _ (status-means m.status).halt
  status-bits INIT = bit-shown m.status.init _ (status-means m.status).init
  status-bits POR = bit-shown m.status.por _ (status-means m.status).por

-- ---- behind the status

-- Row i behind the status, from 0 on: the status takes one row or two.
abbrev pub after : Model → ℕ → Texts
after m i = row m (cond (takes_two (read_word m 0xFE)) 58 57 + i)

-- what stands behind the status
abbrev rest : Model → List Texts
rest m =
    supply_row (told_value (regulator_on m))
    ∷ absent_row (ascii "FF     Control                  ") (read_word m 0xFF)
    ∷ (run_rows m ++ command_rows m)

-- The page has 77 rows, or 78 where the status takes two.
pub page-length : (m : Model) → length (page m) ≡ cond (takes_two (read_word m 0xFE)) 78 77
unfolding page clock_rows setup_rows more_setup_rows up_rows down_rows difference_rows port_rows last_rows status_rows run_rows command_rows
page-length m = by-test (takes_two (read_word m 0xFE)) (λ e. rw e) (λ e. rw e)

pub behind-status : (m : Model) → drop (cond (takes_two (read_word m 0xFE)) 58 57) (page m) ≡ rest m
unfolding page clock_rows setup_rows more_setup_rows up_rows down_rows difference_rows port_rows last_rows status_rows
behind-status m = by-test (takes_two (read_word m 0xFE)) (λ e. rw e) (λ e. rw e)

pub behind : (m : Model) (i : ℕ) → after m i ≡ get_or (rest m) i []
behind m i =
    let n : ℕ = cond (takes_two (read_word m 0xFE)) 58 57 in
    sym (get_or-drop n (page m) i []) ∙ rw (behind-status m)

-- The headings behind the status.
pub more-headings : (m : Model) → map (after m) (2 ∷ 10 ∷ []) ≡ (ascii "STATE OF THE RUN" ∷ []) ∷ (ascii "COMMANDS NOW" ∷ []) ∷ []
unfolding run_rows command_rows
more-headings m = rw (behind m 2, behind m 10)

-- What a kind's row tells of its event, and of the next start, by its schedule
abbrev event_place : Schedule → Texts
event_place k =
    cond (in_event k)
    (decimal k.started ∷ ascii " of " ∷ decimal k.planned ∷ ascii " started, " ∷ decimal k.settled ∷ ascii " settled, " ∷ decimal k.good ∷ ascii " good" ∷ [])
    (ascii "none" ∷ [])

abbrev next_place : Schedule → Texts
next_place k =
    cond (in_event k)
    (cond (starts_left k) (ascii "in " ∷ several k.wait.0 " tick") (ascii "none" ∷ []) ++ named k.continuous ", continuous")
    (ascii "none" ∷ [])

abbrev awaited_place : Schedule → Texts
awaited_place k = cond (ltb 0 k.left.0) (ascii "awaited, fails in " ∷ several k.left.0 " tick") (ascii "none awaited" ∷ [])

module _ (m : Model) (s : is_sound m ≡ true) where
  -- the user flash's regulator; the control register, which is not carried
  pub supply-row : after m 0 ≡ cond m.regulator (ascii "       Flash supply                        on") (ascii "       Flash supply                        off") ∷ []
  unfolding supply_row told_value regulator_on
  supply-row = behind m 0 ∙ rw s (by-test m.regulator (λ e. rw e) (λ e. rw e))

  pub absent-control : after m 1 ≡ ascii "FF     Control                  " ∷ ascii "0000" ∷ ascii "      " ∷ ascii " not carried" ∷ []
  unfolding absent_row register_row register_word digits glyph ascii
  absent-control = behind m 1 ∙ rw (word_read m 0xFF s (omega arith) (omega arith))

  -- ---- the state of the run

  pub initialised-row : after m 3 ≡ cond m.initialised (ascii "       Initialised                         yes") (ascii "       Initialised                         no") ∷ []
  unfolding run_rows initialised_row told_value initialised_told
  initialised-row = behind m 3 ∙ rw s (by-test m.initialised (λ e. rw e) (λ e. rw e))

  awaited-at : (label : List ℕ) (k : Schedule) → awaited_row label (left_ticks (left_told m k)) ≡ label ∷ awaited_place k
  unfolding awaited_row plural left_ticks left_told
  awaited-at label k =
      rw s (by_eqb k.left.0 0 (λ z e. rw (e, le-ltb 0 k.left.0 (omega arith))) (λ z e. rw (e, lt-ltb 0 k.left.0 (omega arith))))

  event-at : (k : Schedule) → event_texts (place_told m k) ≡ event_place k
  unfolding event_texts place_told place_of place_texts counted
  event-at k = rw s (by-test (in_event k) (λ e. rw e) (λ e. rw e))

  next-at : (k : Schedule) → ScheduleBounds k → next_texts (place_told m k) ≡ next_place k
  unfolding next_texts place_told place_of next_start wait_texts plural reported_where
  next-at k b =
      rw s (by-test (in_event k)
      (λ e. by-test (starts_left k)
      (λ l. let w = b.wait l in rw (e, l, ne_eqb k.wait.0 0 (λ z. omega (arith, w.some))))
      (λ l. rw (e, l)))
      (λ e. rw e))

  -- in how many ticks the awaited measurement fails
  pub flight-awaited-row : after m 4 ≡ ascii "       Flight measurement                  " ∷ awaited_place m.flight.schedule
  unfolding run_rows
  flight-awaited-row = behind m 4 ∙ awaited-at (ascii "       Flight measurement                  ") m.flight.schedule

  pub temperature-awaited-row : after m 5 ≡ ascii "       Temperature measurement             " ∷ awaited_place m.temperature.schedule
  unfolding run_rows
  temperature-awaited-row = behind m 5 ∙ awaited-at (ascii "       Temperature measurement             ") m.temperature.schedule

  -- the place of each event, and its next start
  pub differences-row : after m 6 ≡ ascii "       Event of differences                " ∷ event_place m.flight.schedule
  unfolding run_rows
  differences-row = behind m 6 ∙ rw (event-at m.flight.schedule)

  pub next-difference-row : after m 7 ≡ ascii "       Next difference                     " ∷ next_place m.flight.schedule
  unfolding run_rows
  next-difference-row = behind m 7 ∙ rw (next-at m.flight.schedule (bounds_of m s).flight.schedule)

  pub temperatures-row : after m 8 ≡ ascii "       Event of temperatures               " ∷ event_place m.temperature.schedule
  unfolding run_rows
  temperatures-row = behind m 8 ∙ rw (event-at m.temperature.schedule)

  pub next-temperature-row : after m 9 ≡ ascii "       Next temperature                    " ∷ next_place m.temperature.schedule
  unfolding run_rows
  next-temperature-row = behind m 9 ∙ rw (next-at m.temperature.schedule (bounds_of m s).temperature.schedule)

-- The numbers of these rows read back: the ticks left, the started, planned, settled and good ones, and the ticks to the next start.
module _ (label : List ℕ) (k : Schedule) (b : ScheduleBounds k) where
  pub left-reads : 0 < k.left.0 → read_decimal 8192 (get_or (label ∷ awaited_place k) 2 []) ≡ Some k.left.0
  left-reads h = rw (lt-ltb 0 k.left.0 h) (decimal-reads-back 8192 k.left.0 b.left (omega (arith, b.left)))

  pub place-reads :
      in_event k ≡ true →
      map (λ (i : ℕ). read_decimal 32 (get_or (label ∷ event_place k) i [])) (1 ∷ 3 ∷ 5 ∷ 7 ∷ [])
      ≡ Some k.started ∷ Some k.planned ∷ Some k.settled ∷ Some k.good ∷ []
  place-reads e =
      rw (
        e,
        decimal-reads-back 32 k.started (omega arith) (omega arith),
        decimal-reads-back 32 k.planned (omega arith) (omega arith),
        decimal-reads-back 32 k.settled (omega arith) (omega arith),
        decimal-reads-back 32 k.good (omega arith) (omega arith),
      )

  pub wait-reads : in_event k ≡ true → starts_left k ≡ true → k.wait.0 < 2 ^ 32
      → read_decimal 4294967295 (get_or (label ∷ next_place k) 2 []) ≡ Some k.wait.0
  wait-reads e l h = rw (e, l) (decimal-reads-back 4294967295 k.wait.0 (omega arith) h)
