-- Which status bits each call sets and clears, bit by bit in the word that FEh reads.
use Prim.Native.Nat.{ℕ, ◌+◌, ◌/◌, ◌%◌, ◌^◌, ◌≤◌, ◌<◌}
use native.Mathlib.Omega.{arith}
use mathlib.Core.Bool.{Bool, true, false}
use mathlib.Core.List.{List, [], ◌∷◌}
use mathlib.Core.Logic.{◌↔◌, ◌⊎◌, inl, inr, ⊎_elim}
use mathlib.Core.Path.{◌≡◌, refl, ap, sym, ◌∙◌}
use lib.ListN.{length, get_or}
use lib.Dec.{ltb, leb, eqb}
use borrow.Author.Tests.{leb-true, ltb-true, eqb-true, lt-ltb, le-leb, lt-leb, eq-eqb, ne_eqb}
use Rattle.unit.specs.Choice.{pick, either, both, negate}
use Rattle.unit.proofs.Joined.{neither}
use Rattle.unit.proofs.Cases.{by-test, by_eqb, by-ltb, refuted}
use Rattle.calendar.specs.Alarm.{alarm_rings}
use Rattle.calendar.specs.Valid.{AlarmTime}
use Rattle.calendar.specs.Words.{minute_in, hour_in}
use Rattle.calendar.proofs.AlarmModes.{alarm-time, mode-00, mode-01, mode-10, mode-11}
use Rattle.setup.specs.Setup.{word_of, alarm_word, alarm_mode, each_interrupt, timeout, port_cycle}
use Rattle.frame.specs.Frame.{is_command, is_write, is_read, is_flash}
use Rattle.frame.proofs.Laws.{command-means, write-means, flash-means, read-means}
use Rattle.hit.specs.Limit.{late_from, open_from, any_from, any_below, any_fault, short_below}
use Rattle.hit.proofs.Meaning.{from-means}
use Rattle.device.specs.declared.Schedule.{Schedule}
use Rattle.device.specs.declared.Status.{Status}
use Rattle.device.specs.declared.Model.{Model}
use Rattle.device.specs.Event.{is_awaited, fails as expires, is_last}
use Rattle.device.specs.Status.{Bit, TO, AF, TOF, TE, LDO, TOF-EVTMG, TEMP-EVTMG, FLASH, HALT, INIT, POR, place, has, is_bit, status_of}
use Rattle.device.specs.Status.{no_bits, joined, sets_own_bit, flight_bits, temperature_bits, alarm_bit, init_bit, halt_bit, ldo_bit, flash_bit, without_ldo}
use Rattle.device.specs.Registers.{register_word}
use Rattle.device.specs.Tick.{clock_ticked, tick_rings, tick_status, tick_model, report_of}
use Rattle.device.specs.Delivery.{flight_status, good_flight_model, failed_flight_model, temperature_status, good_temperature_model, failed_temperature_model}
use Rattle.device.specs.Model.{is_sound, fresh_with, reset_model}
use Rattle.device.specs.Write.{write_model}
use Rattle.device.specs.FlashFrame.{flash_model}
use Rattle.device.specs.Bus.{is_event, started_event, initialised_model, halted_model, single_started, supplied, unsupplied, run_model, read_model}
use Rattle.device.specs.Call.{Call, transaction, tick, flight, temperature, stretch, opcode, words, on_time, not_carried, not_awaited, Verdict, accepted, refused, verdict, first_of, table}
use Rattle.device.specs.Reply.{any_late, any_open, port_fault, accepted_model, reply_by, reply, flag, number_in, values_in}
use Rattle.device.specs.History.{Kind, differences, temperatures}
use Rattle.demands.specs.EventHistory.{is_delivery}
use Rattle.demands.specs.Terms.{Accepts, mode_of, Some, least_late, least_open, failed_in, Settles, Set, own_bit, event_bit, Clears, Rings, TickRings, Sets}
use Rattle.demands.specs.SecondDemand.{BitsClaim}
use Rattle.device.proofs.Table.{none-holds, number-refused, number-accepted}
use Rattle.device.proofs.Stretch.{schedule_of}
use Rattle.device.proofs.Replies.{reply-tick}
use Rattle.device.proofs.RegisterMeaning.{reads-status}
use Rattle.device.proofs.StatusMeaning.{kept, status-means}
use Rattle.refusal.specs.declared.Refusal.{Refusal}
use Rattle.refusal.specs.Number.{number}
use Rattle.refusal.proofs.Number.{number-same}

differ : ◌≡◌ {A = Bool} false true → ⊥
differ e = let z : ◌≡◌ {A = ℕ} 0 1 = cc in omega arith

one-tick : {c : Call} → c ≡ tick → on_time c false true (λ n. false) ≡ true
one-tick e = ap (λ c. on_time c false true (λ n. false)) e

-- A bit of the word that FEh reads is the one of the status.
bit-read : (m : Model) (b : Bit) → register_word m 0xFE / 2 ^ place b % 2 ≡ flag (has m.status b)
bit-read m TO = rw (reads-status m) (status-means m.status).timeout
bit-read m AF = rw (reads-status m) (status-means m.status).alarm
bit-read m TOF = rw (reads-status m) (status-means m.status).tof
bit-read m TE = rw (reads-status m) (status-means m.status).te
bit-read m LDO = rw (reads-status m) (status-means m.status).ldo
bit-read m TOF-EVTMG = rw (reads-status m) (status-means m.status).tofevtmg
bit-read m TEMP-EVTMG = rw (reads-status m) (status-means m.status).tempevtmg
bit-read m FLASH = rw (reads-status m) (status-means m.status).flash
bit-read m HALT = rw (reads-status m) (status-means m.status).halt
bit-read m INIT = rw (reads-status m) (status-means m.status).init
bit-read m POR = rw (reads-status m) (status-means m.status).por

pub flag_one : (t : Bool) → (flag t ≡ 1) ↔ (t ≡ true)
flag_one true = (λ e. refl, λ e. refl)
flag_one false = (λ e. absurd (omega arith), λ e. absurd (differ e))

pub set-means : (m : Model) (b : Bit) → Set b m ↔ (has m.status b ≡ true)
set-means m b =
    let (f, g) = flag_one (has m.status b) in (λ e. f (sym (bit-read m b) ∙ e), λ e. bit-read m b ∙ g e)

-- the bit at a place
bit_at : ℕ → Bit
bit_at n =
    pick (eqb n 15) TO
    (pick (eqb n 14) AF
    (pick (eqb n 12) TOF
    (pick (eqb n 11) TE
    (pick (eqb n 10) LDO
    (pick (eqb n 9) TOF-EVTMG (pick (eqb n 8) TEMP-EVTMG (pick (eqb n 7) FLASH (pick (eqb n 5) HALT (pick (eqb n 3) INIT POR)))))))))

at_place : (b : Bit) → bit_at (place b) ≡ b
unfolding bit_at
at_place TO = refl
at_place AF = refl
at_place TOF = refl
at_place TE = refl
at_place LDO = refl
at_place TOF-EVTMG = refl
at_place TEMP-EVTMG = refl
at_place FLASH = refl
at_place HALT = refl
at_place INIT = refl
at_place POR = refl

same_bit : (a b : Bit) → is_bit a b ≡ true → a ≡ b
same_bit a b e = sym (at_place a) ∙ ap bit_at (eqb-true (place a) (place b) e) ∙ at_place b

-- what a status by a test has
pub has_of : (t : Bit → Bool) (b : Bit) → has (status_of t) b ≡ t b
has_of t TO = refl
has_of t AF = refl
has_of t TOF = refl
has_of t TE = refl
has_of t LDO = refl
has_of t TOF-EVTMG = refl
has_of t TEMP-EVTMG = refl
has_of t FLASH = refl
has_of t HALT = refl
has_of t INIT = refl
has_of t POR = refl

has-joined : (s t : Status) (b : Bit) → has (joined s t) b ≡ either (has s b) (has t b)
unfolding joined
has-joined s t b = has_of (λ b. either (has s b) (has t b)) b

has-none : (b : Bit) → has no_bits b ≡ false
unfolding no_bits
has-none b = has_of (λ b. false) b

-- What settling sets, where one is settled.
abbrev pub of_flight : Schedule → Bool → Bool → Bit → Bool
of_flight k each failed b = pick (is_bit TO b) failed (pick (is_bit TOF b) (sets_own_bit k each) (both (is_bit TOF-EVTMG b) (is_last k)))

abbrev pub of_temperature : Schedule → Bool → Bool → Bit → Bool
of_temperature k each opened b = pick (is_bit TO b) opened (pick (is_bit TE b) (sets_own_bit k each) (both (is_bit TEMP-EVTMG b) (is_last k)))

has-flight : (k : Schedule) (each settles failed : Bool) (b : Bit) → has (flight_bits k each settles failed) b ≡ both settles (of_flight k each failed b)
unfolding flight_bits
has-flight k each true failed b = has_of (of_flight k each failed) b
has-flight k each false failed b = has-none b

has-temperature :
    (k : Schedule) (each settles opened : Bool) (b : Bit) →
    has (temperature_bits k each settles opened) b ≡ both settles (of_temperature k each opened b)
unfolding temperature_bits
has-temperature k each true opened b = has_of (of_temperature k each opened) b
has-temperature k each false opened b = has-none b

has-alarm : (rings : Bool) (b : Bit) → has (alarm_bit rings) b ≡ both (is_bit AF b) rings
unfolding alarm_bit
has-alarm rings b = has_of (λ b. both (is_bit AF b) rings) b

four : (s a f t : Bool) → either (either (either s a) f) t ≡ either s (either a (either f t))
four true a f t = refl
four false true f t = refl
four false false f t = refl

-- All bits after a tick, after a flight delivery and after a temperature delivery.
abbrev pub in_tick : Model → Bit → Bool
in_tick m b =
    either (both (is_bit AF b) (tick_rings m (clock_ticked m)))
    (either
    (both (expires m.flight.schedule) (of_flight m.flight.schedule (each_interrupt m.setup) (expires m.flight.schedule) b))
    (both (expires m.temperature.schedule)
    (of_temperature m.temperature.schedule (each_interrupt m.setup) (expires m.temperature.schedule) b)))

pub tick-bits : (m : Model) (b : Bit) → has (tick_model m).status b ≡ either (has m.status b) (in_tick m b)
unfolding tick_model tick_status
tick-bits m b = rw (has-joined, has-joined, has-joined, has-flight, has-temperature, has-alarm)
    (four (has m.status b) (both (is_bit AF b) (tick_rings m (clock_ticked m)))
    (both (expires m.flight.schedule) (of_flight m.flight.schedule (each_interrupt m.setup) (expires m.flight.schedule) b))
    (both (expires m.temperature.schedule) (of_temperature m.temperature.schedule (each_interrupt m.setup) (expires m.temperature.schedule) b)))

pub flight-bits :
    (m : Model) (u d : List ℕ) (b : Bit) →
    has (accepted_model m (flight u d)).status b
    ≡ either (has m.status b) (of_flight m.flight.schedule (each_interrupt m.setup) (any_late m u d) b)
unfolding accepted_model good_flight_model failed_flight_model flight_status
flight-bits m u d b =
    by-test (any_late m u d) (λ e. rw (e, has-joined, has-flight) refl) (λ e. rw (e, has-joined, has-flight) refl)

whole-not-open : (m : Model) (w : List ℕ) → port_fault m w ≡ false → any_open m w ≡ false
unfolding port_fault any_fault any_open
whole-not-open m w e =
    (neither (any_from (open_from (port_cycle m.setup)) w) (any_below short_below w) e).0

pub temperature-bits :
    (m : Model) (w : List ℕ) (b : Bit) →
    has (accepted_model m (temperature w)).status b
    ≡ either (has m.status b) (of_temperature m.temperature.schedule (each_interrupt m.setup) (any_open m w) b)
unfolding accepted_model good_temperature_model failed_temperature_model temperature_status
temperature-bits m w b =
    by-test (port_fault m w) (λ e. rw (e, has-joined, has-temperature) refl)
    (λ e. rw (e, whole-not-open m w e, has-joined, has-temperature) refl)

pub either-means : (a b : Bool) → (either a b ≡ true) ↔ ((a ≡ true) ⊎ (b ≡ true))
either-means true b = (λ e. inl refl, λ x. refl)
either-means false b = (λ e. inr e, ⊎_elim (λ x. absurd (differ x)) (λ x. x))

pub turned : (a : Bool) → either a true ≡ true
turned true = refl
turned false = refl

both-means : (a b : Bool) → (both a b ≡ true) ↔ ((a ≡ true) × (b ≡ true))
both-means true b = (λ e. (refl, e), λ x. x.1)
both-means false b = (λ e. absurd (differ e), λ x. x.0)

pub both-none : (a : Bool) → both a false ≡ false
both-none true = refl
both-none false = refl

pub both-all : (a : Bool) → both a true ≡ a
both-all true = refl
both-all false = refl

without : (a b : Bool) → both (negate a) b ≡ pick a false b
without true b = refl
without false b = refl

-- What a frame of w words sets and clears, by its first byte.
unfoldable sent_bit : ℕ → Bit → Bool
sent_bit op b =
    either (both (is_bit LDO b) (eqb op 0x0C))
    (either (both (is_bit FLASH b) (either (eqb op 0x10) (eqb op 0x13)))
    (either (both (is_bit HALT b) (eqb op 0x0A)) (both (is_bit INIT b) (eqb op 0x05))))

unfoldable clearing : ℕ → ℕ → Bit → Bool
clearing op w b =
    either (both (leb 0xB0 op) (both (leb op 0xFE) (ltb 0xFE (op + w)))) (either (eqb op 0x04) (both (is_bit LDO b) (eqb op 0x0D)))

unfoldable leaves : ℕ → ℕ → Bit → Bool → Bool
leaves op w b before = pick (clearing op w b) false (either before (sent_bit op b))

module _ (w : ℕ) (b : Bit) (s : Bool) where
  at-04 : leaves 0x04 w b s ≡ false
  unfolding leaves clearing sent_bit
  at-04 = refl

  at-05 : leaves 0x05 w b s ≡ either s (is_bit INIT b)
  unfolding leaves clearing sent_bit
  at-05 = simp (both-none, both-all, kept)

  at-0A : leaves 0x0A w b s ≡ either s (is_bit HALT b)
  unfolding leaves clearing sent_bit
  at-0A = simp (both-none, both-all, kept)

  at-0C : leaves 0x0C w b s ≡ either s (is_bit LDO b)
  unfolding leaves clearing sent_bit
  at-0C = simp (both-none, both-all, kept)

  at-0D : leaves 0x0D w b s ≡ pick (is_bit LDO b) false s
  unfolding leaves clearing sent_bit
  at-0D = simp (both-none, both-all, kept)

  at-10 : leaves 0x10 w b s ≡ either s (is_bit FLASH b)
  unfolding leaves clearing sent_bit
  at-10 = simp (both-none, both-all, kept)

  at-13 : leaves 0x13 w b s ≡ either s (is_bit FLASH b)
  unfolding leaves clearing sent_bit
  at-13 = simp (both-none, both-all, kept)

  -- neither of these
  quiet :
      (op : ℕ) →
      op < 0xB0 →
      ¬ (op ≡ 0x04) →
      ¬ (op ≡ 0x05) →
      ¬ (op ≡ 0x0A) →
      ¬ (op ≡ 0x0C) →
      ¬ (op ≡ 0x0D) →
      ¬ (op ≡ 0x10) →
      ¬ (op ≡ 0x13) →
      leaves op w b s ≡ s
  unfolding leaves clearing sent_bit
  quiet op l n4 n5 n10 n12 n13 n16 n19 =
      rw (
        lt-leb 0xB0 op l,
        ne_eqb op 0x04 n4,
        ne_eqb op 0x05 n5,
        ne_eqb op 0x0A n10,
        ne_eqb op 0x0C n12,
        ne_eqb op 0x0D n13,
        ne_eqb op 0x10 n16,
        ne_eqb op 0x13 n19,
      )
      (simp (both-none, kept))

  reading :
      (op : ℕ) → 0xB0 ≤ op → leaves op w b s ≡ pick (both (leb op 0xFE) (ltb 0xFE (op + w))) false s
  unfolding leaves clearing sent_bit
  reading op l =
      rw (
        le-leb 0xB0 op l,
        ne_eqb op 0x04 (λ x. omega arith),
        ne_eqb op 0x05 (λ x. omega arith),
        ne_eqb op 0x0A (λ x. omega arith),
        ne_eqb op 0x0C (λ x. omega arith),
        ne_eqb op 0x0D (λ x. omega arith),
        ne_eqb op 0x10 (λ x. omega arith),
        ne_eqb op 0x13 (λ x. omega arith),
      )
      (simp (both-none, kept))

has_one : (s : Status) (a b : Bit) → has (joined s (status_of (is_bit a))) b ≡ either (has s b) (is_bit a b)
has_one s a b = has-joined s (status_of (is_bit a)) b ∙ ap (either (has s b)) (has_of (is_bit a) b)

run-bits :
    (m : Model) (op w : ℕ) (b : Bit) →
    is_command op ≡ true →
    has (run_model m op).status b ≡ leaves op w b (has m.status b)
unfolding run_model reset_model fresh_with initialised_model init_bit halted_model halt_bit supplied ldo_bit unsupplied without_ldo started_event single_started
run-bits m op w b c =
    let s : Bool = has m.status b in
    let l : op ≤ 0x0D = ⊎_elim (λ x. omega arith) (⊎_elim (λ x. omega arith) (λ x. x.1)) ((command-means op).0 c) in
    by_eqb op 4 (λ h _. rw h (has-none b ∙ sym (at-04 w b s)))
    (λ n4 e. by_eqb op 5 (λ h _. rw h (has_one m.status INIT b ∙ sym (at-05 w b s)))
    (λ n5 f. by_eqb op 10 (λ h _. rw h (has_one m.status HALT b ∙ sym (at-0A w b s)))
    (λ n10 g. by_eqb op 12 (λ h _. rw h (has_one m.status LDO b ∙ sym (at-0C w b s)))
    (λ n12 i. by_eqb op 13
    (λ h _. rw h (has_of (λ b. both (negate (is_bit LDO b)) (has m.status b)) b ∙ without (is_bit LDO b) s ∙ sym (at-0D w b s)))
    (λ n13 j.
    let q = sym (quiet w b s op (omega arith) n4 n5 n10 n12 n13 (λ x. omega arith) (λ x. omega arith)) in
    rw (e, f, g, i, j) (by-test (is_event op) (λ y. rw y q) (λ y. rw y (by-test (eqb op 3) (λ z. rw z q) (λ z. rw z q)))))))))

flash-bits :
    (m : Model) (op w : ℕ) (b : Bit) →
    is_flash op ≡ true →
    has (flash_model m op).status b ≡ leaves op w b (has m.status b)
unfolding flash_model flash_bit
flash-bits m op w b u =
    let s : Bool = has m.status b in
    ⊎_elim
    (λ h. rw h
    (sym (quiet w b s 0x90 (omega arith) (λ x. omega arith) (λ x. omega arith) (λ x. omega arith) (λ x. omega arith) (λ x. omega arith) (λ x. omega arith) (λ x. omega arith))))
    (⊎_elim
    (λ h. rw h (has_one m.status FLASH b ∙ sym (at-10 w b s)))
    (λ h. rw h (has_one m.status FLASH b ∙ sym (at-13 w b s))))
    ((flash-means op).0 u)

read-bits :
    (m : Model) (op w : ℕ) (b : Bit) →
    is_read op ≡ true →
    has (read_model m op w).status b ≡ leaves op w b (has m.status b)
unfolding read_model
read-bits m op w b r =
    let s : Bool = has m.status b in
    rw (reading w b s op ((read-means op).0 r).0)
    (by-ltb 0xFE op
    (λ h e. rw (e, lt-leb op 0xFE h))
    (λ h e. rw (e, le-leb op 0xFE h)
    (by-ltb 0xFE (op + w)
    (λ i f. rw (f, lt-leb (op + w) 0xFE i) (has-none b))
    (λ i f. rw (f, le-leb (op + w) 0xFE i)))))

carried :
    (f o x : List ℕ) →
    is_command (opcode f) ≡ false →
    is_write (opcode f) ≡ false →
    is_flash (opcode f) ≡ false →
    not_carried (transaction f o x) ≡ false →
    is_read (opcode f) ≡ true
unfolding not_carried
carried f o x c w u = rw (c, w, u) (by-test (is_read (opcode f)) (λ r e. r) (λ r. rw r (λ e. sym e)))

frame-bits :
    (m : Model) (f o x : List ℕ) (b : Bit) →
    verdict m (transaction f o x) ≡ accepted →
    has (accepted_model m (transaction f o x)).status b ≡ leaves (opcode f) (words f) b (has m.status b)
unfolding accepted_model write_model
frame-bits m f o x b v =
    by-test (is_command (opcode f)) (λ c. rw c (run-bits m (opcode f) (words f) b c))
    (λ c. by-test (is_write (opcode f))
    (λ w.
    let (l, u) = (write-means (opcode f)).0 w in
    rw (c, w)
    (sym (quiet (words f) b (has m.status b) (opcode f) (omega arith) (λ y. omega arith) (λ y. omega arith) (λ y. omega arith)
    (λ y. omega arith) (λ y. omega arith) (λ y. omega arith) (λ y. omega arith))))
    (λ w. by-test (is_flash (opcode f))
    (λ u. rw (c, w, u) (flash-bits m (opcode f) (words f) b u))
    (λ u.
    rw (c, w, u)
    (read-bits m (opcode f) (words f) b (carried f o x c w u (none-holds m (transaction f o x) v).row2)))))

clears-means : (f o x : List ℕ) (b : Bit) → Clears b (transaction f o x) ↔ (clearing (opcode f) (words f) b ≡ true)
unfolding clearing
clears-means f o x b =
    let op : ℕ = opcode f in
    let T : Bool = ltb 0xFE (op + words f) in
    let R : Bool = both (leb 0xB0 op) (both (leb op 0xFE) T) in
    let L : Bool = both (is_bit LDO b) (eqb op 0x0D) in
    let (f1, g1) = either-means R (either (eqb op 0x04) L) in
    let (f2, g2) = either-means (eqb op 0x04) L in
    let (f3, g3) = both-means (leb 0xB0 op) (both (leb op 0xFE) T) in
    let (f4, g4) = both-means (leb op 0xFE) T in
    let (f5, g5) = both-means (is_bit LDO b) (eqb op 0x0D) in (
      ⊎_elim (λ (l, h, e). g1 (inl (g3 (le-leb 0xB0 op l, g4 (le-leb op 0xFE h, lt-ltb 0xFE (op + words f) e)))))
          (⊎_elim (λ h. g1 (inr (g2 (inl (eq-eqb op 0x04 h)))))
          (λ (l, h). g1 (inr (g2 (inr (g5 (ap (is_bit LDO) l, eq-eqb op 0x0D h))))))),
      λ t.
          ⊎_elim
          (λ a.
          let (l, e) = f3 a in
          let (h, i) = f4 e in
          inl (leb-true 0xB0 op l, leb-true op 0xFE h, ltb-true 0xFE (op + words f) i))
          (λ a.
          ⊎_elim (λ e. inr (inl (eqb-true op 0x04 e)))
          (λ e. let (l, h) = f5 e in inr (inr (sym (same_bit LDO b l), eqb-true op 0x0D h)))
          (f2 a))
          (f1 t),
    )

sent_means : (m : Model) (f o x : List ℕ) (b : Bit) → Sets m (transaction f o x) b ↔ (sent_bit (opcode f) b ≡ true)
unfolding sent_bit is_delivery
sent_means m f o x TO = (λ e. absurd e, λ e. absurd (differ e))
sent_means m f o x AF = (λ e. absurd (differ (one-tick e.0)), λ e. absurd (differ e))
sent_means m f o x TOF = (⊎_elim (λ e. e) (λ e. absurd (differ (one-tick e.0))), λ e. absurd (differ e))
sent_means m f o x TE = (⊎_elim (λ e. e) (λ e. absurd (differ (one-tick e.0))), λ e. absurd (differ e))
sent_means m f o x LDO = (λ e. kept (eqb (opcode f) 0x0C) ∙ e, λ e. sym (kept (eqb (opcode f) 0x0C)) ∙ e)
sent_means m f o x TOF-EVTMG = (⊎_elim (λ e. e) (λ e. absurd (differ (one-tick e.0))), λ e. absurd (differ e))
sent_means m f o x TEMP-EVTMG = (⊎_elim (λ e. e) (λ e. absurd (differ (one-tick e.0))), λ e. absurd (differ e))
sent_means m f o x FLASH =
    let (g, h) = either-means (eqb (opcode f) 0x10) (eqb (opcode f) 0x13) in
    let k = kept (either (eqb (opcode f) 0x10) (eqb (opcode f) 0x13)) in
    (λ e. k ∙ h e, λ e. g (sym k ∙ e))
sent_means m f o x HALT = (λ e. kept (eqb (opcode f) 0x0A) ∙ e, λ e. sym (kept (eqb (opcode f) 0x0A)) ∙ e)
sent_means m f o x INIT = (λ e. e, λ e. e)
sent_means m f o x POR = (λ e. absurd e, λ e. absurd (differ e))

-- no frame sets one bit and clears another
sent-keeps : (op w : ℕ) (b : Bit) → sent_bit op b ≡ true → clearing op w b ≡ false
unfolding sent_bit clearing
sent-keeps op w b =
    by_eqb op 0x0C (λ h _. rw h (λ e. both-none (is_bit LDO b)))
    (λ a f. by_eqb op 0x10 (λ h _. rw h (λ e. both-none (is_bit LDO b)))
    (λ c g. by_eqb op 0x13 (λ h _. rw h (λ e. both-none (is_bit LDO b)))
    (λ d i. by_eqb op 0x0A (λ h _. rw h (λ e. both-none (is_bit LDO b)))
    (λ j k. by_eqb op 0x05 (λ h _. rw h (λ e. both-none (is_bit LDO b)))
    (λ l n. rw (f, g, i, k, n, both-none (is_bit LDO b), both-none (is_bit FLASH b), both-none (is_bit HALT b), both-none (is_bit INIT b)) (λ e. absurd (differ e)))))))

-- "A word is late when it is at least 512 × 2^k × 65,536, k = TIMOUT (2:0 of 39h), or no hit"; "2^31 or more means no hit"
pub late-word : (m : Model) (u d : List ℕ) → (any_late m u d ≡ true) ↔ (Some (least_late m) u ⊎ Some (least_late m) d)
unfolding any_late late_from timeout
late-word m u d =
    let e = either-means (any_from (late_from (timeout m.setup)) u) (any_from (late_from (timeout m.setup)) d) in
    let f = from-means (late_from (timeout m.setup)) in (
      λ t. ⊎_elim (λ x. inl ((f u).0 x)) (λ x. inr ((f d).0 x)) (e.0 t),
      λ t. e.1 (⊎_elim (λ x. inl ((f u).1 x)) (λ x. inr ((f d).1 x)) t),
    )

-- "A word is open when it is at least (512 × (PORTCYC + 1) − 8) × 65,536"; "PORTCYC is 1:0 of 40h"
pub open-word : (m : Model) (w : List ℕ) → (any_open m w ≡ true) ↔ Some (least_open m) w
unfolding any_open open_from port_cycle
open-word m w = from-means (open_from (port_cycle m.setup)) w

-- "AM (3:2 of 43h): 01b sets AF in a tick where minutes change to the alarm's; 10b where hours change to the alarm's; 11b where minutes
-- change and both match"
pub rings-means :
    (m n : Model) (minute hour : ℕ) →
    AlarmTime (word_of m.setup 0x35) minute hour →
    (alarm_rings m.clock n.clock (word_of m.setup 0x35) (mode_of m) ≡ true) ↔ Rings m n minute hour
rings-means m n minute hour t =
    let w : ℕ = word_of m.setup 0x35 in
    let (f1, g1) = mode-01 m.clock n.clock w minute hour t in
    let (f2, g2) = mode-10 m.clock n.clock w minute hour t in
    let (f3, g3) = mode-11 m.clock n.clock w minute hour t in (
      by_eqb (mode_of m) 1 (λ h _. rw h (λ e. let (x, y) = f1 e in inl (refl, x, y)))
          (λ a _. by_eqb (mode_of m) 2 (λ h _. rw h (λ e. let (x, y) = f2 e in inr (inl (refl, x, y))))
          (λ b _. by_eqb (mode_of m) 3 (λ h _. rw h (λ e. let (x, y, z) = f3 e in inr (inr (refl, x, y, z))))
          (λ c _.
          let z : mode_of m ≡ 0 = omega arith in
          rw (z, mode-00 m.clock n.clock w) (λ e. absurd (differ e))))),
      ⊎_elim (λ (h, x, y). rw h (g1 (x, y))) (⊎_elim (λ (h, x, y). rw h (g2 (x, y))) (λ (h, x, y, z). rw h (g3 (x, y, z)))),
    )

pub tick-rings : (m : Model) → (tick_rings m (clock_ticked m) ≡ true) ↔ TickRings m
unfolding tick_rings alarm_word alarm_mode tick_model
tick-rings m =
    let w : ℕ = word_of m.setup 0x35 in (
      λ e. (minute_in w, hour_in w, alarm-time w, (rings-means m (tick_model m) (minute_in w) (hour_in w) (alarm-time w)).0 e),
      λ (minute, hour, t, x). (rings-means m (tick_model m) minute hour t).1 x,
    )

-- what the answer to a tick says of a failure
pub failed-tick : (k : Kind) (m : Model) → is_sound m ≡ true → failed_in k m tick ≡ flag (expires (schedule_of k m))
unfolding values_in report_of
failed-tick differences m s = rw (reply-tick m s)
failed-tick temperatures m s = rw (reply-tick m s)

pub fails-told : (k : Kind) (m : Model) → is_sound m ≡ true → (failed_in k m tick ≡ 1) ↔ (expires (schedule_of k m) ≡ true)
fails-told k m s =
    let (f, g) = flag_one (expires (schedule_of k m)) in (λ e. f (sym (failed-tick k m s) ∙ e), λ e. failed-tick k m s ∙ g e)

-- only a sound model tells one
pub told-sound : (k : Kind) (m : Model) → failed_in k m tick ≡ 1 → is_sound m ≡ true
unfolding reply reply_by values_in verdict first_of table
told-sound differences m = by-test (is_sound m) (λ s e. s) (λ s. rw s (λ e. absurd (omega arith)))
told-sound temperatures m = by-test (is_sound m) (λ s e. s) (λ s. rw s (λ e. absurd (omega arith)))

module _ (m : Model) (s : is_sound m ≡ true) where
  told : (k : Kind) → expires (schedule_of k m) ≡ true → failed_in k m tick ≡ 1
  told k e = (fails-told k m s).1 e

  -- the first, the second or neither of two kinds
  first : {G : Type 0} (a b c : Bool) → (a ≡ true → G) → either (both a b) (both c false) ≡ true → G
  first true b c f e = f refl
  first false b true f e = absurd (differ e)
  first false b false f e = absurd (differ e)

  some : (a c : Bool) → either (both a a) (both c c) ≡ true → (a ≡ true) ⊎ (c ≡ true)
  some true c e = inl refl
  some false true e = inr refl
  some false false e = absurd (differ e)

  second : {G : Type 0} (a b c : Bool) → (c ≡ true → G) → either (both a false) (both c b) ≡ true → G
  second a b true f e = f refl
  second true b false f e = absurd (differ e)
  second false b false f e = absurd (differ e)

  in-tick : (k : Kind) → expires (schedule_of k m) ≡ true → Settles k m tick
  in-tick k e = inr (refl, told k e)

  none : {G : Type 0} → either (both (expires m.flight.schedule) false) (both (expires m.temperature.schedule) false) ≡ true → G
  none e =
      absurd (differ (sym (ap (λ a. either a (both (expires m.temperature.schedule) false)) (both-none (expires m.flight.schedule)) ∙
      both-none (expires m.temperature.schedule)) ∙ e))

  tick-raises : (b : Bit) → in_tick m b ≡ true → Sets m tick b
  tick-raises TO e =
      ⊎_elim (λ x. (differences, told differences x)) (λ x. (temperatures, told temperatures x))
      (some (expires m.flight.schedule) (expires m.temperature.schedule) e)
  tick-raises AF e =
      ⊎_elim (λ x. (refl, (tick-rings m).0 x)) none
      ((either-means (tick_rings m (clock_ticked m)) (either (both (expires m.flight.schedule) false) (both (expires m.temperature.schedule) false))).0 e)
  tick-raises TOF e = first (expires m.flight.schedule) (sets_own_bit m.flight.schedule (each_interrupt m.setup)) (expires m.temperature.schedule) (in-tick differences) e
  tick-raises TE e = second (expires m.flight.schedule) (sets_own_bit m.temperature.schedule (each_interrupt m.setup)) (expires m.temperature.schedule) (in-tick temperatures) e
  tick-raises LDO e = none e
  tick-raises TOF-EVTMG e = first (expires m.flight.schedule) (is_last m.flight.schedule) (expires m.temperature.schedule) (in-tick differences) e
  tick-raises TEMP-EVTMG e = second (expires m.flight.schedule) (is_last m.temperature.schedule) (expires m.temperature.schedule) (in-tick temperatures) e
  tick-raises FLASH e = none e
  tick-raises HALT e = none e
  tick-raises INIT e = none e
  tick-raises POR e = none e

  tick-sets : (b : Bit) → ((k : Kind) → (¬ (b ≡ own_bit k)) × (¬ (b ≡ event_bit k))) → Sets m tick b → in_tick m b ≡ true
  tick-sets TO n (differences, e) = let x = (fails-told differences m s).0 e in rw x
  tick-sets TO n (temperatures, e) =
      let x = (fails-told temperatures m s).0 e in rw x (turned (both (expires m.flight.schedule) (expires m.flight.schedule)))
  tick-sets AF n (e, x) = (either-means _ _).1 (inl ((tick-rings m).1 x))
  tick-sets TOF n e = absurd ((n differences).0 refl)
  tick-sets TE n e = absurd ((n temperatures).0 refl)
  tick-sets LDO n e = absurd (differ e)
  tick-sets TOF-EVTMG n e = absurd ((n differences).1 refl)
  tick-sets TEMP-EVTMG n e = absurd ((n temperatures).1 refl)
  tick-sets FLASH n e = ⊎_elim (λ x. absurd (differ x)) (λ x. absurd (differ x)) e
  tick-sets HALT n e = absurd (differ e)
  tick-sets INIT n e = absurd (differ e)
  tick-sets POR n e = absurd e

-- A call that clears nothing and sets what the test names.
raising :
    (m : Model) (c : Call) (n : Model) (t : Bit → Bool) →
    ((b : Bit) → ¬ Clears b c) →
    ((b : Bit) → has n.status b ≡ either (has m.status b) (t b)) →
    ((b : Bit) → t b ≡ true → Sets m c b) →
    ((b : Bit) → ((k : Kind) → (¬ (b ≡ own_bit k)) × (¬ (b ≡ event_bit k))) → Sets m c b → t b ≡ true) →
    BitsClaim m c n
raising m c n t keeps left raises sets =
    record {
      kept = λ b _ e. (set-means n b).1 (left b ∙ (either-means _ _).1 (inl ((set-means m b).0 e)));
      cleared = λ b e. absurd (keeps b e);
      raised =
          λ b e.
          ⊎_elim (λ x. inl ((set-means m b).1 x)) (λ x. inr (raises b x))
          ((either-means (has m.status b) (t b)).0 (sym (left b) ∙ (set-means n b).0 e));
      sets = λ b o e. (set-means n b).1 (left b ∙ rw (sets b o e) (turned (has m.status b)));
    }

frame-claim : (m : Model) (f o x : List ℕ) → verdict m (transaction f o x) ≡ accepted → BitsClaim m (transaction f o x) (accepted_model m (transaction f o x))
unfolding leaves
frame-claim m f o x v =
    let n : Model = accepted_model m (transaction f o x) in
    record {
      kept =
          λ b k e.
          let z = refuted (clearing (opcode f) (words f) b) (λ t. k ((clears-means f o x b).1 t)) in
          (set-means n b).1 (frame-bits m f o x b v ∙ rw (z, (set-means m b).0 e));
      cleared =
          λ b k e.
          let z = (clears-means f o x b).0 k in
          differ (sym (frame-bits m f o x b v ∙ rw z) ∙ (set-means n b).0 e);
      raised =
          λ b e.
          let g = sym (frame-bits m f o x b v) ∙ (set-means n b).0 e in
          by-test (clearing (opcode f) (words f) b) (λ t. absurd (differ (rw t at g)))
          (λ t. ⊎_elim (λ y. inl ((set-means m b).1 y)) (λ y. inr ((sent_means m f o x b).1 y)) ((either-means _ _).0 (rw t at g)));
      sets =
          λ b _ e.
          let y = (sent_means m f o x b).0 e in
          (set-means n b).1 (frame-bits m f o x b v ∙ rw (sent-keeps (opcode f) (words f) b y, y) (turned (has m.status b)));
    }

module _ (m : Model) (u d : List ℕ) where
  flight-raises :
      (b : Bit) →
      of_flight m.flight.schedule (each_interrupt m.setup) (any_late m u d) b ≡ true →
      Sets m (flight u d) b
  unfolding is_delivery
  flight-raises TO e = (late-word m u d).0 e
  flight-raises AF e = absurd (differ e)
  flight-raises TOF e = inl refl
  flight-raises TE e = absurd (differ e)
  flight-raises LDO e = absurd (differ e)
  flight-raises TOF-EVTMG e = inl refl
  flight-raises TEMP-EVTMG e = absurd (differ e)
  flight-raises FLASH e = absurd (differ e)
  flight-raises HALT e = absurd (differ e)
  flight-raises INIT e = absurd (differ e)
  flight-raises POR e = absurd (differ e)

  flight-sets :
      (b : Bit) →
      ((k : Kind) → (¬ (b ≡ own_bit k)) × (¬ (b ≡ event_bit k))) →
      Sets m (flight u d) b →
      of_flight m.flight.schedule (each_interrupt m.setup) (any_late m u d) b ≡ true
  unfolding is_delivery
  flight-sets TO n e = (late-word m u d).1 e
  flight-sets AF n e = one-tick e.0
  flight-sets TOF n e = absurd ((n differences).0 refl)
  flight-sets TE n e = absurd ((n temperatures).0 refl)
  flight-sets LDO n e = e
  flight-sets TOF-EVTMG n e = absurd ((n differences).1 refl)
  flight-sets TEMP-EVTMG n e = absurd ((n temperatures).1 refl)
  flight-sets FLASH n e = ⊎_elim (λ x. x) (λ x. x) e
  flight-sets HALT n e = e
  flight-sets INIT n e = e
  flight-sets POR n e = absurd e

module _ (m : Model) (w : List ℕ) where
  temperature-raises :
      (b : Bit) →
      of_temperature m.temperature.schedule (each_interrupt m.setup) (any_open m w) b ≡ true →
      Sets m (temperature w) b
  unfolding is_delivery
  temperature-raises TO e = (open-word m w).0 e
  temperature-raises AF e = absurd (differ e)
  temperature-raises TOF e = absurd (differ e)
  temperature-raises TE e = inl refl
  temperature-raises LDO e = absurd (differ e)
  temperature-raises TOF-EVTMG e = absurd (differ e)
  temperature-raises TEMP-EVTMG e = inl refl
  temperature-raises FLASH e = absurd (differ e)
  temperature-raises HALT e = absurd (differ e)
  temperature-raises INIT e = absurd (differ e)
  temperature-raises POR e = absurd (differ e)

  temperature-sets :
      (b : Bit) →
      ((k : Kind) → (¬ (b ≡ own_bit k)) × (¬ (b ≡ event_bit k))) →
      Sets m (temperature w) b →
      of_temperature m.temperature.schedule (each_interrupt m.setup) (any_open m w) b ≡ true
  unfolding is_delivery
  temperature-sets TO n e = (open-word m w).1 e
  temperature-sets AF n e = one-tick e.0
  temperature-sets TOF n e = absurd ((n differences).0 refl)
  temperature-sets TE n e = absurd ((n temperatures).0 refl)
  temperature-sets LDO n e = e
  temperature-sets TOF-EVTMG n e = absurd ((n differences).1 refl)
  temperature-sets TEMP-EVTMG n e = absurd ((n temperatures).1 refl)
  temperature-sets FLASH n e = ⊎_elim (λ x. x) (λ x. x) e
  temperature-sets HALT n e = e
  temperature-sets INIT n e = e
  temperature-sets POR n e = absurd e

pub accepted-left : (m : Model) (c : Call) → verdict m c ≡ accepted → (reply m c).model ≡ accepted_model m c
unfolding reply reply_by
accepted-left m c e = rw e

call-claim : (m : Model) (c : Call) → verdict m c ≡ accepted → ((n : ℕ) → ¬ (c ≡ stretch n)) → BitsClaim m c (accepted_model m c)
unfolding accepted_model
call-claim m (transaction f o x) v z = frame-claim m f o x v
call-claim m tick v z =
    let s = (none-holds m tick v).row0 in
    raising m tick (tick_model m) (in_tick m) (λ b e. e) (tick-bits m) (tick-raises m s) (tick-sets m s)
call-claim m (flight u d) v z =
    raising m (flight u d) (accepted_model m (flight u d)) (of_flight m.flight.schedule (each_interrupt m.setup) (any_late m u d))
    (λ b e. e) (flight-bits m u d) (flight-raises m u d) (flight-sets m u d)
call-claim m (temperature w) v z =
    raising m (temperature w) (accepted_model m (temperature w))
    (of_temperature m.temperature.schedule (each_interrupt m.setup) (any_open m w)) (λ b e. e) (temperature-bits m w)
    (temperature-raises m w) (temperature-sets m w)
call-claim m (stretch j) v z = absurd (z j refl)

-- no number in the answer, and a number
pub accepted-by : (m : Model) (c : Call) → Accepts m c → verdict m c ≡ accepted
unfolding reply number_in
accepted-by m c = go (verdict m c)
  where
    go : (v : Verdict) → number_in (reply_by v m c).answer ≡ [] → v ≡ accepted
    go accepted e = refl
    go (refused n) e = unfold reply_by in absurd (let z : ◌≡◌ {A = ℕ} 1 0 = ap length e in omega arith)

pub refused-by : (m : Model) (c : Call) (r : Refusal) → (number_in (reply m c).answer ≡ number r ∷ []) ↔ (verdict m c ≡ refused r)
refused-by m c r = (λ e. go (verdict m c) refl e, number-refused m c r)
  where
    go : (v : Verdict) → verdict m c ≡ v → number_in (reply m c).answer ≡ number r ∷ [] → verdict m c ≡ refused r
    go accepted h e = absurd (let z : ◌≡◌ {A = ℕ} 0 1 = ap length (sym (number-accepted m c h) ∙ e) in omega arith)
    go (refused i) h e = h ∙ ap refused (number-same i r (ap (λ l. get_or l 0 0) (sym (number-refused m c i h) ∙ e)))

pub bits-claim : (m : Model) (c : Call) → Accepts m c → ((n : ℕ) → ¬ (c ≡ stretch n)) → BitsClaim m c (reply m c).model
bits-claim m c e z = let v = accepted-by m c e in rw (accepted-left m c v) (call-claim m c v z)

-- What settling one does to the bits of its kind.
pub record SettledBits (k : Kind) (m n : Model) : Type 0 where
  pub awaited : 0 < (schedule_of k m).left.0
  pub own :
      has n.status (own_bit k) ≡ either (has m.status (own_bit k)) (sets_own_bit (schedule_of k m) (each_interrupt m.setup))
  pub last : has n.status (event_bit k) ≡ either (has m.status (event_bit k)) (is_last (schedule_of k m))

failing-left : (k : Schedule) → expires k ≡ true → 0 < k.left.0
unfolding expires
failing-left k e = omega (arith, eqb-true k.left.0 1 e)

awaited-left : (k : Schedule) → negate (is_awaited k) ≡ false → 0 < k.left.0
unfolding is_awaited
awaited-left k = by-ltb 0 k.left.0 (λ h e. rw e (λ x. h)) (λ h e. rw e (λ x. absurd (differ (sym x))))

tick-settles : (k : Kind) (m : Model) → expires (schedule_of k m) ≡ true → SettledBits k m (tick_model m)
tick-settles differences m e =
    record {
      awaited = failing-left m.flight.schedule e;
      own = tick-bits m TOF ∙ rw (e, both-none (expires m.temperature.schedule), kept);
      last = tick-bits m TOF-EVTMG ∙ rw (e, both-none (expires m.temperature.schedule), kept);
    }
tick-settles temperatures m e =
    record {
      awaited = failing-left m.temperature.schedule e;
      own = tick-bits m TE ∙ rw (e, both-none (expires m.flight.schedule));
      last = tick-bits m TEMP-EVTMG ∙ rw (e, both-none (expires m.flight.schedule));
    }

pub settled-bits : (k : Kind) (m : Model) (c : Call) → verdict m c ≡ accepted → Settles k m c → SettledBits k m (accepted_model m c)
unfolding is_delivery not_awaited
settled-bits k m (transaction f o x) v e = ⊎_elim (λ y. absurd (differ y)) (λ y. absurd (differ (one-tick y.0))) e
settled-bits k m tick v e =
    ⊎_elim (λ y. absurd (differ y))
    (λ (z, y). unfold accepted_model in tick-settles k m ((fails-told k m (none-holds m tick v).row0).0 y)) e
settled-bits differences m (flight u d) v e =
    record {
      awaited = awaited-left m.flight.schedule (none-holds m (flight u d) v).row10;
      own = flight-bits m u d TOF;
      last = flight-bits m u d TOF-EVTMG;
    }
settled-bits temperatures m (flight u d) v e = ⊎_elim (λ y. absurd (differ y)) (λ y. absurd (differ (one-tick y.0))) e
settled-bits differences m (temperature w) v e = ⊎_elim (λ y. absurd (differ y)) (λ y. absurd (differ (one-tick y.0))) e
settled-bits temperatures m (temperature w) v e =
    record {
      awaited = awaited-left m.temperature.schedule (none-holds m (temperature w) v).row10;
      own = temperature-bits m w TE;
      last = temperature-bits m w TEMP-EVTMG;
    }
settled-bits k m (stretch j) v e = ⊎_elim (λ y. absurd (differ y)) (λ y. absurd (differ (one-tick y.0))) e
