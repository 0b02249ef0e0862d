-- COMMANDS NOW: each row's answer is that of every frame for which the row stands. Assumes nothing.
use Prim.Native.Nat.{ℕ, zero, suc, ◌+◌, ◌-◌, ◌*◌, ◌/◌, ◌%◌, ◌≤◌, ◌<◌}
use mathlib.Core.Bool.{true, false, cond}
use mathlib.Core.List.{List, [], ◌∷◌, ◌++◌, map, append-nil}
use mathlib.Core.Logic.{◌⊎◌, inl, inr}
use mathlib.Core.Path.{◌≡◌, refl, sym, ◌∙◌}
use native.Mathlib.Omega.{arith}
use lib.Dec.{eqb}
use lib.ListN.{length, replicate}
use borrow.Author.Tests.{le-ltb, ne_eqb}
use Rattle.unit.specs.Choice.{pick}
use Rattle.unit.proofs.Cases.{by-test}
use Rattle.calendar.proofs.RoundTrip.{words-valid}
use Rattle.setup.specs.Setup.{alarm_word, clock_stands}
use Rattle.frame.specs.Frame.{is_command, not_whole, past_end}
use Rattle.flash.specs.Flash.{wrong_size, odd_address, beyond, address_refused, erase_refused, not_erased}
use Rattle.device.specs.declared.Model.{Model}
use Rattle.device.specs.Model.{is_sound, is_busy}
use Rattle.device.specs.Registers.{calendar_word}
use Rattle.device.specs.Write.{covers, written, ticks_after, write_invalid}
use Rattle.device.specs.Bus.{must_be_idle, starts_flight, starts_temperature, is_event, command_busy, before_initialize, flight_side_unset, temperature_side_unset, event_side_unset, command_unset}
use Rattle.device.specs.Call.{Call, transaction, Verdict, accepted, refused, verdict, first_of, table}
use Rattle.device.specs.Call.{no_frame, not_carried, wrong_length, past_registers, short_output, while_busy, supply_off, unreachable, unerased, bad_calendar, not_initialised, bad_setup, not_awaited, miscounted, too_long}
use Rattle.device.specs.Reply.{reply, number_in}
use Rattle.device.proofs.Sound.{bounds_of}
use Rattle.device.proofs.Table.{number-refused, number-accepted}
use Rattle.device.proofs.RegisterMeaning.{setup-kept}
use Rattle.device.proofs.BusMeaning.{is-write}
use Rattle.device.proofs.FlashMeaning.{write-verdict, read-verdict, erase-verdict}
use Rattle.numeral.specs.Print.{decimal}
use Rattle.refusal.specs.declared.Refusal.{Refusal}
use Rattle.refusal.specs.Number.{number}
use Rattle.numeral.specs.Ascii.{ascii}
use Rattle.wording.specs.Wording.{Texts, reported_where, refusal}
use Rattle.page.specs.Row.{binary}
use Rattle.page.specs.Run.{run_rows}
use Rattle.page.specs.Commands.{answer_to, flight_fields, temperature_fields, clock_fields, fields, refused_texts, answer_texts, frame_row, command_row, flash_row, write_row, command_rows}
use Rattle.page.proofs.Rows.{named, pulses_of, divider_of, ports_of}
use Rattle.page.proofs.StatusRows.{after, behind}
use Rattle.page.proofs.Values.{unset-read}

-- What a row tells of a verdict: `ok`, or the refusal, behind number 9 with the fields that are in the command's way.
abbrev told : Model → ℕ → Verdict → Texts
told m op accepted = ascii " ok" ∷ []
told m op (refused r) = refusal (number r) ++ cond (eqb (number r) 9) (ascii ":" ∷ fields m op) []

-- That is what the page's definitions tell of the answer that the call has.
pub answer-told : (m : Model) (op : ℕ) (c : Call) → answer_texts m op (number_in (reply m c).answer) ≡ told m op (verdict m c)
unfolding answer_texts refused_texts
answer-told m op c = go (verdict m c) refl
  where
    go : (v : Verdict) → verdict m c ≡ v → answer_texts m op (number_in (reply m c).answer) ≡ told m op v
    go accepted e = rw (number-accepted m c e)
    go (refused n) e = rw (number-refused m c n e)

-- A row tells the verdict on its own frame.
frame-told : (m : Model) (label : List ℕ) (op : ℕ) (f : List ℕ)
    → frame_row m label op f ≡ label ∷ told m op (verdict m (transaction f (replicate 2 0) (replicate 8192 0)))
unfolding frame_row answer_to
frame-told m label op f = rw (answer-told m op (transaction f (replicate 2 0) (replicate 8192 0)))

-- A command's verdict, whatever output and user flash are lent.
pub command-verdict : (m : Model) (op : ℕ) (o x : List ℕ) → is_command op ≡ true
    → verdict m (transaction (op ∷ []) o x)
    ≡ pick (is_sound m)
    (pick (command_busy m op) (refused Refusal.Busy)
    (pick (before_initialize m op) (refused Refusal.NotInitialised) (pick (command_unset m op) (refused Refusal.SetUp) accepted)))
    (refused Refusal.NotSound)
unfolding verdict table first_of no_frame not_carried wrong_length past_registers short_output while_busy supply_off unreachable unerased bad_calendar not_initialised bad_setup not_awaited miscounted too_long
command-verdict m op o x c =
    rw c
    (by-test (is_sound m) (λ s. rw s
    (by-test (command_busy m op) (λ b. rw b)
    (λ b. rw b (by-test (before_initialize m op) (λ i. rw i) (λ i. rw i (by-test (command_unset m op) (λ u. rw u) (λ u. rw u)))))))
    (λ s. rw s))

-- ---- commands

asked : (m : Model) (label : List ℕ) (op : ℕ) (o x : List ℕ) → is_command op ≡ true
    → command_row m label op ≡ label ∷ told m op (verdict m (transaction (op ∷ []) o x))
unfolding command_row
asked m label op o x c =
    frame-told m label op (op ∷ []) ∙ rw (command-verdict m op (replicate 2 0) (replicate 8192 0) c, command-verdict m op o x c)

told-alike : (m : Model) (a b : ℕ) (v : Verdict) → fields m a ≡ fields m b → told m a v ≡ told m b v
told-alike m a b accepted e = refl
told-alike m a b (refused n) e = rw e

-- 00h, 01h and 02h are judged alike, and so are 0Ch and 0Dh,
pub flight-verdicts : (m : Model) (o x : List ℕ) →
    (verdict m (transaction (0x01 ∷ []) o x) ≡ verdict m (transaction (0x00 ∷ []) o x)) ×
    (verdict m (transaction (0x02 ∷ []) o x) ≡ verdict m (transaction (0x00 ∷ []) o x))
unfolding is_command command_busy must_be_idle before_initialize command_unset event_side_unset flight_side_unset temperature_side_unset starts_flight starts_temperature is_event
flight-verdicts m o x = (
  command-verdict m 1 o x refl ∙ sym (command-verdict m 0 o x refl),
  command-verdict m 2 o x refl ∙ sym (command-verdict m 0 o x refl),
)

pub supply-verdicts : (m : Model) (o x : List ℕ) → verdict m (transaction (0x0D ∷ []) o x) ≡ verdict m (transaction (0x0C ∷ []) o x)
unfolding is_command command_busy must_be_idle before_initialize command_unset event_side_unset flight_side_unset temperature_side_unset starts_flight starts_temperature is_event
supply-verdicts m o x = command-verdict m 0x0D o x refl ∙ sym (command-verdict m 0x0C o x refl)

-- and the same fields are in their way.
fields-alike : (m : Model) → (fields m 0 ≡ fields m 1) × (fields m 0 ≡ fields m 2) × (fields m 0x0C ≡ fields m 0x0D)
unfolding fields starts_flight starts_temperature is_event
fields-alike m = (refl, refl, refl)

flight-alike : (m : Model) (op : ℕ) (o x : List ℕ) → op < 3
    → told m 0 (verdict m (transaction (0 ∷ []) o x)) ≡ told m op (verdict m (transaction (op ∷ []) o x))
flight-alike m zero o x h = refl
flight-alike m (suc zero) o x h = rw (flight-verdicts m o x).0 (told-alike m 0 1 (verdict m (transaction (0 ∷ []) o x)) (fields-alike m).0)
flight-alike m (suc (suc zero)) o x h = rw (flight-verdicts m o x).1 (told-alike m 0 2 (verdict m (transaction (0 ∷ []) o x)) (fields-alike m).1)
flight-alike m (suc (suc (suc n))) o x h = absurd (omega arith)

supply-alike : (m : Model) (o x : List ℕ)
    → told m 0x0C (verdict m (transaction (0x0C ∷ []) o x)) ≡ told m 0x0D (verdict m (transaction (0x0D ∷ []) o x))
supply-alike m o x = rw (supply-verdicts m o x) (told-alike m 0x0C 0x0D (verdict m (transaction (0x0C ∷ []) o x)) (fields-alike m).2)

module _ (m : Model) (o x : List ℕ) where
  -- `00-02`: the answer of each of the three
  pub flight-command-row : (op : ℕ) → op < 3
      → after m 11 ≡ ascii "00-02  TOF_UP, TOF_DOWN, TOF_DIFF         " ∷ told m op (verdict m (transaction (op ∷ []) o x))
  unfolding run_rows command_rows is_command
  flight-command-row op h = behind m 11 ∙ (asked m _ 0 o x refl ∙ rw (← flight-alike m op o x h))

  -- the rows of one command
  pub single-command-rows :
      map (after m) (12 ∷ 13 ∷ 14 ∷ 15 ∷ 16 ∷ [])
      ≡ (ascii "03     Temperature                        " ∷ told m 0x03 (verdict m (transaction (0x03 ∷ []) o x)))
      ∷ (ascii "05     Initialize                         " ∷ told m 0x05 (verdict m (transaction (0x05 ∷ []) o x)))
      ∷ (ascii "07     EVTMG1, both kinds                 " ∷ told m 0x07 (verdict m (transaction (0x07 ∷ []) o x)))
      ∷ (ascii "08     EVTMG2, differences                " ∷ told m 0x08 (verdict m (transaction (0x08 ∷ []) o x)))
      ∷ (ascii "09     EVTMG3, temperatures               " ∷ told m 0x09 (verdict m (transaction (0x09 ∷ []) o x)))
      ∷ []
  unfolding run_rows command_rows is_command
  single-command-rows =
      rw (
        behind m 12,
        behind m 13,
        behind m 14,
        behind m 15,
        behind m 16,
        asked m (ascii "03     Temperature                        ") 0x03 o x refl,
        asked m (ascii "05     Initialize                         ") 0x05 o x refl,
        asked m (ascii "07     EVTMG1, both kinds                 ") 0x07 o x refl,
        asked m (ascii "08     EVTMG2, differences                ") 0x08 o x refl,
        asked m (ascii "09     EVTMG3, temperatures               ") 0x09 o x refl,
      )

  -- `0C 0D`: the answer of each of the two
  pub supply-command-row :
      (after m 17 ≡ ascii "0C 0D  LDO_ON, LDO_OFF                    " ∷ told m 0x0C (verdict m (transaction (0x0C ∷ []) o x))) ×
      (after m 17 ≡ ascii "0C 0D  LDO_ON, LDO_OFF                    " ∷ told m 0x0D (verdict m (transaction (0x0D ∷ []) o x)))
  unfolding run_rows command_rows is_command
  supply-command-row =
      let e : after m 17 ≡ ascii "0C 0D  LDO_ON, LDO_OFF                    " ∷ told m 0x0C (verdict m (transaction (0x0C ∷ []) o x)) =
      behind m 17 ∙ asked m _ 0x0C o x refl in
      (e, rw (← supply-alike m o x) e)

  -- "04h Reset and 0Ah HALT, which have no row, are never refused."
  pub never-refused : is_sound m ≡ true → (verdict m (transaction (0x04 ∷ []) o x) ≡ accepted) × (verdict m (transaction (0x0A ∷ []) o x) ≡ accepted)
  unfolding is_command command_busy must_be_idle before_initialize command_unset event_side_unset flight_side_unset temperature_side_unset starts_flight starts_temperature is_event
  never-refused s =
      rw (command-verdict m 0x04 o x refl, command-verdict m 0x0A o x refl, s)
      (by-test m.initialised (λ e. rw e (refl, refl)) (λ e. rw e (refl, refl)))

-- ---- flash frames and register writes

-- The frames of the row `10 13`: a write, an erase and a read of any address, the read with at least two bytes of output.
abbrev FlashFrames : (Call → Type 0) → Type 0
FlashFrames Meets =
    (high low first second : ℕ) (o x : List ℕ) →
    Meets (transaction (0x10 ∷ high ∷ low ∷ first ∷ second ∷ []) o x) ×
    Meets (transaction (0x13 ∷ high ∷ low ∷ []) o x) ×
    (2 ≤ length o → Meets (transaction (0x90 ∷ high ∷ low ∷ first ∷ second ∷ []) o x))

-- The frames of the row `30-43`: n words, one at least, to registers from 30h to 43h.
abbrev WriteFrames : (Call → Type 0) → Type 0
WriteFrames Meets =
    (op n : ℕ) (bytes o x : List ℕ) → 0x30 ≤ op → 1 ≤ n → op + n ≤ 0x44 → length bytes ≡ 2 * n → Meets (transaction (op ∷ bytes) o x)

unsound : (m : Model) (c : Call) → is_sound m ≡ false → verdict m c ≡ refused Refusal.NotSound
unfolding verdict table first_of
unsound m c e = rw e

-- a write's verdict
write-verdicts : (m : Model) (op n : ℕ) (bytes o x : List ℕ) → is_sound m ≡ true → 0x30 ≤ op → 1 ≤ n → op + n ≤ 0x44 → length bytes ≡ 2 * n
    → verdict m (transaction (op ∷ bytes) o x) ≡ pick (is_busy m) (refused Refusal.Busy) (pick (write_invalid bytes op n m) (refused Refusal.Calendar) accepted)
unfolding verdict table first_of no_frame not_carried wrong_length past_registers short_output while_busy supply_off unreachable unerased bad_calendar not_initialised bad_setup not_awaited miscounted too_long not_whole past_end
write-verdicts m op n bytes o x s low some high e =
    let w = is-write (op ∷ bytes) (low, omega arith) in
    let further : length (op ∷ bytes) - 1 ≡ 2 * n = omega arith in
    let words : 2 * n / 2 ≡ n = omega arith in
    rw (
      s,
      w.0,
      w.1,
      further,
      words,
      ne_eqb (length (op ∷ bytes)) 0 (λ z. omega arith),
      ne_eqb (2 * n) 0 (λ z. omega arith),
      ne_eqb (2 * n % 2) 1 (λ z. omega arith),
      le-ltb 0x44 (op + n) high,
    )
    (by-test (is_busy m) (λ b. rw b) (λ b. rw b (by-test (write_invalid bytes op n m) (λ i. rw i) (λ i. rw i))))

-- 34h, which is stored only, may be written at any time.
stored-fits : (m : Model) → is_sound m ≡ true → write_invalid (0 ∷ 0 ∷ []) 0x34 1 m ≡ false
unfolding write_invalid written covers ticks_after calendar_word alarm_word
stored-fits m s =
    let b = bounds_of m s in
    rw (
      words-valid m.clock b.clock,
      setup-kept (0 ∷ 0 ∷ []) 0x34 m.setup 1 0x35 (omega arith) (inr (omega arith)),
      b.alarm,
    )

-- The row's own frames, by the model.
flash-asked : (m : Model) → is_sound m ≡ true
    → verdict m (transaction (0x90 ∷ 0 ∷ 0 ∷ 0 ∷ 0 ∷ []) (replicate 2 0) (replicate 8192 0))
    ≡ pick (is_busy m) (refused Refusal.Busy) (pick m.regulator accepted (refused Refusal.SupplyOff))
unfolding address_refused wrong_size odd_address beyond
flash-asked m s = read-verdict m s 0 0 0 0 (replicate 2 0) (replicate 8192 0)

write-asked : (m : Model) → is_sound m ≡ true
    → verdict m (transaction (0x34 ∷ 0 ∷ 0 ∷ []) (replicate 2 0) (replicate 8192 0)) ≡ pick (is_busy m) (refused Refusal.Busy) accepted
write-asked m s =
    write-verdicts m 0x34 1 (0 ∷ 0 ∷ []) (replicate 2 0) (replicate 8192 0) s (omega arith) (omega arith) (omega arith) refl
    ∙ rw (stored-fits m s)

-- what the two rows tell of a verdict, where the number is not 9
plain : (m : Model) (label : List ℕ) (op : ℕ) (f : List ℕ) (r : Refusal) → ¬ (number r ≡ 9)
    → verdict m (transaction f (replicate 2 0) (replicate 8192 0)) ≡ refused r
    → frame_row m label op f ≡ label ∷ refusal (number r)
plain m label op f r h e = frame-told m label op f ∙ rw (e, ne_eqb (number r) 9 h, append-nil (refusal (number r)))

fine : (m : Model) (label : List ℕ) (op : ℕ) (f : List ℕ)
    → verdict m (transaction f (replicate 2 0) (replicate 8192 0)) ≡ accepted
    → frame_row m label op f ≡ label ∷ ascii " ok" ∷ []
fine m label op f e = frame-told m label op f ∙ rw e

module _ (m : Model) where
  -- The row `30-43` tells `ok`, and then every write is accepted or meets number 7; or it tells a refusal, which every write meets.
  pub write-row :
      ((after m 19 ≡ ascii "30-43  Register writes                    " ∷ ascii " ok" ∷ [])
      × WriteFrames (λ c. (verdict m c ≡ accepted) ⊎ (verdict m c ≡ refused Refusal.Calendar)))
      ⊎ ((r : Refusal) × (after m 19 ≡ ascii "30-43  Register writes                    " ∷ refusal (number r)) × WriteFrames (λ c. verdict m c ≡ refused r))
  unfolding run_rows command_rows write_row
  write-row =
      let label : List ℕ = ascii "30-43  Register writes                    " in
      let f : List ℕ = 0x34 ∷ 0 ∷ 0 ∷ [] in
      by-test (is_sound m)
      (λ s. by-test (is_busy m)
      (λ b. inr (
        Refusal.Busy,
        behind m 19 ∙ plain m label 0x34 f Refusal.Busy (omega arith) (write-asked m s ∙ rw b),
        λ op n bytes o x low some high e. write-verdicts m op n bytes o x s low some high e ∙ rw b,
      ))
      (λ b. inl (
        behind m 19 ∙ fine m label 0x34 f (write-asked m s ∙ rw b),
        λ op n bytes o x low some high e.
            by-test (write_invalid bytes op n m)
            (λ i. inr (write-verdicts m op n bytes o x s low some high e ∙ rw (b, i)))
            (λ i. inl (write-verdicts m op n bytes o x s low some high e ∙ rw (b, i))),
      )))
      (λ s. inr (
        Refusal.NotSound,
        behind m 19 ∙ plain m label 0x34 f Refusal.NotSound (omega arith) (unsound m _ s),
        λ op n bytes o x low some high e. unsound m _ s,
      ))

  -- So the row `10 13`, of flash frames: by `ok` each is accepted or meets number 16 or 17.
  pub flash-row :
      ((after m 18 ≡ ascii "10 13  Flash write, erase, read (90)      " ∷ ascii " ok" ∷ [])
      × FlashFrames (λ c. (verdict m c ≡ accepted) ⊎ ((verdict m c ≡ refused Refusal.FlashAddress) ⊎ (verdict m c ≡ refused Refusal.NotErased))))
      ⊎ ((r : Refusal) × (after m 18 ≡ ascii "10 13  Flash write, erase, read (90)      " ∷ refusal (number r)) × FlashFrames (λ c. verdict m c ≡ refused r))
  unfolding run_rows command_rows flash_row
  flash-row =
      let label : List ℕ = ascii "10 13  Flash write, erase, read (90)      " in
      let f : List ℕ = 0x90 ∷ 0 ∷ 0 ∷ 0 ∷ 0 ∷ [] in
      by-test (is_sound m)
      (λ s. by-test (is_busy m)
      (λ b. inr (
        Refusal.Busy,
        behind m 18 ∙ plain m label 0x90 f Refusal.Busy (omega arith) (flash-asked m s ∙ rw b),
        λ high low first second o x. (
          write-verdict m s high low first second o x ∙ rw b,
          erase-verdict m s high low first second o x ∙ rw b,
          λ h. read-verdict m s high low first second o x ∙ rw (le-ltb (length o) 2 h, b),
        ),
      ))
      (λ b. by-test m.regulator
      (λ r. inl (
        behind m 18 ∙ fine m label 0x90 f (flash-asked m s ∙ rw (b, r)),
        λ high low first second o x.
            let a : ℕ = high * 256 + low in (
              by-test (address_refused (length x) a)
                  (λ t. inr (inl (write-verdict m s high low first second o x ∙ rw (b, r, t))))
                  (λ t. by-test (not_erased x a)
                  (λ u. inr (inr (write-verdict m s high low first second o x ∙ rw (b, r, t, u))))
                  (λ u. inl (write-verdict m s high low first second o x ∙ rw (b, r, t, u)))),
              by-test (erase_refused (length x) a)
                  (λ t. inr (inl (erase-verdict m s high low first second o x ∙ rw (b, r, t))))
                  (λ t. inl (erase-verdict m s high low first second o x ∙ rw (b, r, t))),
              λ h. by-test (address_refused (length x) a)
                  (λ t. inr (inl (read-verdict m s high low first second o x ∙ rw (le-ltb (length o) 2 h, b, r, t))))
                  (λ t. inl (read-verdict m s high low first second o x ∙ rw (le-ltb (length o) 2 h, b, r, t))),
            ),
      ))
      (λ r. inr (
        Refusal.SupplyOff,
        behind m 18 ∙ plain m label 0x90 f Refusal.SupplyOff (omega arith) (flash-asked m s ∙ rw (b, r)),
        λ high low first second o x. (
          write-verdict m s high low first second o x ∙ rw (b, r),
          erase-verdict m s high low first second o x ∙ rw (b, r),
          λ h. read-verdict m s high low first second o x ∙ rw (le-ltb (length o) 2 h, b, r),
        ),
      ))))
      (λ s. inr (
        Refusal.NotSound,
        behind m 18 ∙ plain m label 0x90 f Refusal.NotSound (omega arith) (unsound m _ s),
        λ high low first second o x. (unsound m _ s, unsound m _ s, λ h. unsound m _ s),
      ))

-- ---- the fields behind number 9

abbrev flight_ways : Model → Texts
flight_ways m = named (eqb (pulses_of m) 0) " PL 0" ++ named (eqb (divider_of m) 0) " DPL 0"

abbrev temperature_ways : Model → Texts
temperature_ways m =
    cond (eqb (ports_of m) 0b11) [] (ascii " TP " ∷ decimal (ports_of m / 2) ∷ decimal (ports_of m % 2) ∷ ascii "b" ∷ [])

abbrev clock_ways : Model → Texts
clock_ways m = named (clock_stands m.setup) " EOSC 1"

-- PL and DPL where a flight measurement is started, TP where a temperature one is, EOSC where it is an event: of 00h to 03h and 07h to
-- 09h
pub fields-named : (m : Model) → is_sound m ≡ true →
    map (fields m) (0x00 ∷ 0x01 ∷ 0x02 ∷ 0x03 ∷ 0x07 ∷ 0x08 ∷ 0x09 ∷ [])
    ≡ flight_ways m
    ∷ flight_ways m
    ∷ flight_ways m
    ∷ temperature_ways m
    ∷ (flight_ways m ++ (temperature_ways m ++ clock_ways m))
    ∷ (flight_ways m ++ clock_ways m)
    ∷ (temperature_ways m ++ clock_ways m)
    ∷ []
unfolding flight_fields temperature_fields clock_fields starts_flight starts_temperature is_event clock_stands reported_where binary
fields-named m s =
    rw (
      unset-read m s 0x00,
      unset-read m s 0x01,
      unset-read m s 0x02,
      unset-read m s 0x03,
      unset-read m s 0x07,
      unset-read m s 0x08,
      unset-read m s 0x09,
      append-nil (flight_ways m),
      append-nil (temperature_ways m),
    )
