-- The rows of the definitions' table, each against its row in plain bytes, words and fields.
use Prim.Native.Nat.{ℕ, ◌+◌, ◌*◌, ◌/◌, ◌%◌, ◌≤◌, ◌<◌}
use native.Mathlib.Omega.{arith}
use mathlib.Core.Bool.{Bool, true, false, false≢true}
use mathlib.Core.List.{List, [], ◌∷◌}
use mathlib.Core.Logic.Iff
use mathlib.Core.Logic.{◌↔◌, ◌⊎◌, inl, inr, ⊎_elim}
use mathlib.Core.Path.{◌≡◌, refl, sym, ◌∙◌}
use lib.ListN.{length, get_or, drop}
use lib.Seq.{get_or-drop}
use lib.Dec.{ltb, eqb}
use Rattle.unit.specs.Choice.{either, both, negate}
use Rattle.unit.proofs.Cases.{by-test, by-ltb, by_eqb, holds, fails}
use Rattle.calendar.specs.Valid.{CalendarValid, AlarmValid}
use Rattle.setup.specs.Setup.{word_of, alarm_word, hit_count, flight_unset, temperature_unset, clock_stands}
use Rattle.frame.specs.Frame.{is_command, is_write, is_read, is_flash, flash_further, not_whole, past_end, word_at}
use Rattle.frame.proofs.Laws.{command-means, write-means, read-means, flash-means, flash-alone, whole-means}
use Rattle.flash.specs.Flash.{flash_word, not_erased}
use Rattle.flash.proofs.Refusal.{address-refused, erase-refused, not-erased}
use Rattle.device.specs.declared.Schedule.{Schedule}
use Rattle.device.specs.declared.Model.{Model}
use Rattle.device.specs.Event.{is_awaited}
use Rattle.device.specs.Model.{is_sound}
use Rattle.device.specs.Write.{write_invalid}
use Rattle.device.specs.Delivery.{flight_miscounted}
use Rattle.device.specs.FlashFrame.{flash_address, flash_unreachable, flash_unerased}
use Rattle.device.specs.Bus.{starts_flight, starts_temperature, before_initialize, command_unset, event_side_unset, flight_side_unset, temperature_side_unset}
use Rattle.device.specs.Call.{Call, transaction, tick, flight, temperature, stretch, opcode, further, words, by_sort, on_frame, on_delivery, on_time, Row, row, table}
use Rattle.device.specs.Call.{no_frame, not_carried, wrong_length, past_registers, short_output, while_busy, supply_off, unreachable, unerased, bad_calendar}
use Rattle.device.specs.Call.{not_initialised, bad_setup, not_awaited, miscounted, too_long}
use Rattle.device.specs.Plain.{Command, Write, Read, Flash}
use Rattle.demands.specs.Terms.{hits_of}
use Rattle.demands.specs.FirstDemand.{NotCarried, WholeWords, WrongLength, last_register, PastRegisters, ShortOutput, Busy, SupplyOff, address, BadAddress}
use Rattle.demands.specs.FirstDemand.{NotErased, word_after, alarm_after, BadCalendar, NotInitialised, NoPulses, BadSetup, Miscounted, OnFrame, OnDelivery, OnStretch, Refusal, rows}
use Rattle.device.proofs.Table.{negated}
use Rattle.device.proofs.RefusalMeaning.{busy-means, command-busy-means, event-means}
use Rattle.device.proofs.CallMeaning.{count-means}
use Rattle.device.proofs.WriteMeaning.{calendar-some, judged-after}
use Rattle.device.proofs.BusMeaning.{is-command, is-write, is_read_lem}
use Rattle.refusal.specs.declared.Refusal.{Refusal as Answer·Refusal}
use Rattle.refusal.specs.Number.{number}

-- Tests joined and turned round, by what each of them means.
never : (◌≡◌ {A = Bool} false true) ↔ ⊥
never = (λ e. false≢true e, absurd)

both-means : {A B : Type 0} (a b : Bool) → (a ≡ true) ↔ A → (b ≡ true) ↔ B → (both a b ≡ true) ↔ (A × B)
both-means true b f g = (λ e. (f.0 refl, g.0 e), λ h. g.1 h.1)
both-means false b f g = (λ e. absurd (false≢true e), λ h. f.1 h.0)

either-means : {A B : Type 0} (a b : Bool) → (a ≡ true) ↔ A → (b ≡ true) ↔ B → (either a b ≡ true) ↔ (A ⊎ B)
either-means true b f g = (λ e. inl (f.0 refl), λ h. refl)
either-means false b f g = (λ e. inr (g.0 e), ⊎_elim (λ a. absurd (false≢true (f.1 a))) (λ h. g.1 h))

negate-means : {A : Type 0} (t : Bool) → (t ≡ true) ↔ A → (negate t ≡ true) ↔ (¬ A)
negate-means true f = (λ e. absurd (false≢true e), λ n. absurd (n (f.0 refl)))
negate-means false f = (λ e a. false≢true (f.1 a), λ n. refl)

unless-means : {A : Type 0} (t : Bool) → (t ≡ false) ↔ A → (t ≡ true) ↔ (¬ A)
unless-means true f = (λ e a. false≢true (sym (f.1 a)), λ n. refl)
unless-means false f = (λ e. absurd (false≢true e), λ n. absurd (n (f.0 refl)))

ltb-means : (a b : ℕ) → (ltb a b ≡ true) ↔ (a < b)
ltb-means a b = by-ltb a b (λ h e. rw e (holds h)) (λ h e. rw e (fails false (λ x. omega arith)))

eqb-means : (a b : ℕ) → (eqb a b ≡ true) ↔ (a ≡ b)
eqb-means a b = by_eqb a b (λ h e. rw e (holds h)) (λ h e. rw e (fails false h))

-- A test that frames, deliveries or stretches alone can meet.
on-frame :
    (c : Call) (t : List ℕ → List ℕ → List ℕ → Bool) (P : List ℕ → List ℕ → List ℕ → Type 0) →
    ((f o x : List ℕ) → c ≡ transaction f o x → (t f o x ≡ true) ↔ P f o x) →
    (on_frame c t ≡ true) ↔ OnFrame c P
on-frame (transaction f o x) t P h = h f o x refl
on-frame tick t P h = never
on-frame (flight u d) t P h = never
on-frame (temperature w) t P h = never
on-frame (stretch n) t P h = never

on-delivery :
    (c : Call) (s : List ℕ → List ℕ → Bool) (t : List ℕ → Bool) (P : List ℕ → List ℕ → Type 0) (Q : List ℕ → Type 0) →
    ((u d : List ℕ) → (s u d ≡ true) ↔ P u d) →
    ((w : List ℕ) → (t w ≡ true) ↔ Q w) →
    (on_delivery c false s t ≡ true) ↔ OnDelivery c P Q
on-delivery (transaction f o x) s t P Q g h = never
on-delivery tick s t P Q g h = never
on-delivery (flight u d) s t P Q g h = g u d
on-delivery (temperature w) s t P Q g h = h w
on-delivery (stretch n) s t P Q g h = never

on-stretch :
    (c : Call) (t : ℕ → Bool) (P : ℕ → Type 0) → ((n : ℕ) → (t n ≡ true) ↔ P n) → (on_time c false false t ≡ true) ↔ OnStretch c P
on-stretch (transaction f o x) t P h = never
on-stretch tick t P h = never
on-stretch (flight u d) t P h = never
on-stretch (temperature w) t P h = never
on-stretch (stretch n) t P h = h n

-- The sorts of frames.
is-flash : (f : List ℕ) → Flash f → (is_command (opcode f) ≡ false) × (is_write (opcode f) ≡ false) × (is_flash (opcode f) ≡ true)
is-flash f u =
    let e = (flash-means (opcode f)).1 u in
    let a = flash-alone (opcode f) e in
    (a.0, a.1, e)

by-sort :
    {G : Type 0} (f : List ℕ) →
    (Command f → is_command (opcode f) ≡ true → G) →
    (Write f → is_command (opcode f) ≡ false → is_write (opcode f) ≡ true → G) →
    (Flash f → is_command (opcode f) ≡ false → is_write (opcode f) ≡ false → is_flash (opcode f) ≡ true → G) →
    (is_command (opcode f) ≡ false → is_write (opcode f) ≡ false → is_flash (opcode f) ≡ false → G) →
    G
by-sort f g h i j =
    by-test (is_command (opcode f))
    (λ c. g ((command-means (opcode f)).0 c) c)
    (λ c. by-test (is_write (opcode f))
    (λ w. h ((write-means (opcode f)).0 w) c w)
    (λ w. by-test (is_flash (opcode f)) (λ u. i ((flash-means (opcode f)).0 u) c w u) (λ u. j c w u)))

-- 2 "first byte not carried"
carried-not : (f : List ℕ) → (by_sort f false false false (negate (is_read (opcode f))) ≡ true) ↔ NotCarried f
carried-not f =
    by-sort f
    (λ s c. rw c (fails false (λ n. n (inl s))))
    (λ s c w. rw (c, w) (fails false (λ n. n (inr (inl s)))))
    (λ s c w u. rw (c, w, u) (fails false (λ n. n (inr (inr (inr s))))))
    (λ c w u. rw (c, w, u) (
      λ e. ⊎_elim
          (λ s. clash c (is-command f s))
          (⊎_elim (λ s. clash w (is-write f s).1) (⊎_elim (λ s. clash-negated e ((read-means (opcode f)).1 s)) (λ s. clash u (is-flash f s).2))),
      λ n. by-test (is_read (opcode f)) (λ r. absurd (n (inr (inr (inl ((read-means (opcode f)).0 r)))))) (λ r. rw r),
    ))
  where
    clash : {t : Bool} → t ≡ false → t ≡ true → ⊥
    clash e g = false≢true (sym e ∙ g)

    clash-negated : {t : Bool} → negate t ≡ true → t ≡ true → ⊥
    clash-negated {t} e g = false≢true ((rw g at e))

-- What a command starts, and the fields of the set-up that stand in its way.
starts-flight-means : (op : ℕ) → (starts_flight op ≡ true) ↔ ((op ≤ 0x02) ⊎ (op ≡ 0x07) ⊎ (op ≡ 0x08))
unfolding starts_flight
starts-flight-means op =
    either-means _ _ (Iff.trans (ltb-means op 0x03) (λ h. omega arith, λ h. omega arith))
    (either-means _ _ (eqb-means op 0x07) (eqb-means op 0x08))

starts-temperature-means : (op : ℕ) → (starts_temperature op ≡ true) ↔ ((op ≡ 0x03) ⊎ (op ≡ 0x07) ⊎ (op ≡ 0x09))
unfolding starts_temperature
starts-temperature-means op = either-means _ _ (eqb-means op 0x03) (either-means _ _ (eqb-means op 0x07) (eqb-means op 0x09))

starts-any : (op : ℕ) → (either (starts_flight op) (starts_temperature op) ≡ true) ↔ ((op ≤ 0x03) ⊎ ((0x07 ≤ op) × (op ≤ 0x09)))
starts-any op =
    Iff.trans (either-means _ _ (starts-flight-means op) (starts-temperature-means op)) (
      ⊎_elim
          (⊎_elim (λ h. inl (omega arith)) (⊎_elim (λ h. inr (omega arith)) (λ h. inr (omega arith))))
          (⊎_elim (λ h. inl (omega arith)) (⊎_elim (λ h. inr (omega arith)) (λ h. inr (omega arith)))),
      ⊎_elim
          (λ h. by_eqb op 0x03 (λ e _. inr (inl e)) (λ n _. inl (inl (omega arith))))
          (λ h. by_eqb op 0x07 (λ e _. inl (inr (inl e)))
          (λ n _. by_eqb op 0x08 (λ e _. inl (inr (inr e))) (λ k _. inr (inr (inr (omega arith)))))),
    )

not_yet : (m : Model) → (negate m.initialised ≡ true) ↔ (m.initialised ≡ false)
not_yet m = by-test m.initialised (λ e. rw e (fails false (λ x. false≢true (sym x)))) (λ e. rw e (holds refl))

pulses-mean : (m : Model) → (flight_unset m.setup ≡ true) ↔ NoPulses m
unfolding flight_unset
pulses-mean m =
    either-means _ _ (eqb-means (word_of m.setup 0x38 / 256 % 256) 0) (eqb-means (word_of m.setup 0x38 / 16 % 16) 0)

ports-mean : (m : Model) → (temperature_unset m.setup ≡ true) ↔ (¬ (word_of m.setup 0x40 / 32 % 4 ≡ 3))
unfolding temperature_unset
ports-mean m = negate-means _ (eqb-means (word_of m.setup 0x40 / 32 % 4) 3)

stands-means : (m : Model) → (clock_stands m.setup ≡ true) ↔ (word_of m.setup 0x43 / 16 % 2 ≡ 1)
unfolding clock_stands
stands-means m = eqb-means (word_of m.setup 0x43 / 16 % 2) 1

-- A frame that is carried is tested by its sort.
module _ (f : List ℕ) (k : not_carried (transaction f [] []) ≡ false) where
  read_left : is_command (opcode f) ≡ false → is_write (opcode f) ≡ false → is_flash (opcode f) ≡ false → Read f
  unfolding not_carried
  read_left c w u = (read-means (opcode f)).0 (turned (is_read (opcode f)) (rw (c, w, u) at k))
    where
      turned : (t : Bool) → negate t ≡ false → t ≡ true
      turned true e = refl
      turned false e = sym e

  sorted :
      {C W U R : Type 0} (c w u r : Bool) →
      (Command f → (c ≡ true) ↔ C) →
      (Write f → (w ≡ true) ↔ W) →
      (Flash f → (u ≡ true) ↔ U) →
      (Read f → (r ≡ true) ↔ R) →
      (by_sort f c w u r ≡ true) ↔ ((Command f × C) ⊎ (Write f × W) ⊎ (Flash f × U) ⊎ (Read f × R))
  sorted c w u r g h i j = (
    by-sort f
        (λ s a. rw a (λ e. inl (s, (g s).0 e)))
        (λ s a b. rw (a, b) (λ e. inr (inl (s, (h s).0 e))))
        (λ s a b d. rw (a, b, d) (λ e. inr (inr (inl (s, (i s).0 e)))))
        (λ a b d. rw (a, b, d) (λ e. let s = read_left a b d in inr (inr (inr (s, (j s).0 e))))),
    ⊎_elim (λ (s, p). rw (is-command f s) ((g s).1 p))
        (⊎_elim (λ (s, p). let (a, b) = is-write f s in rw (a, b) ((h s).1 p))
        (⊎_elim (λ (s, p). let (a, b, d) = is-flash f s in rw (a, b, d) ((i s).1 p))
        (λ (s, p). let (a, b, d) = is_read_lem f s in rw (a, b, d) ((j s).1 p)))),
  )

  -- 3 "a command with more bytes, or a read or write whose further bytes are not n ≥ 1 whole words"; "a length other than five bytes,
  -- for erase three" (Note 8)
  whole-not : (not_whole (further f) ≡ true) ↔ (¬ WholeWords f)
  whole-not =
      unless-means (not_whole (further f))
      (Iff.trans (whole-means (further f)) (
        λ h. (further f / 2, h.1, h.0),
        λ (n, one, even). omega arith,
      ))

  more : (negate (eqb (further f) 0) ≡ true) ↔ (1 < length f)
  more = by_eqb (further f) 0 (λ h e. rw e (fails false (λ x. omega arith))) (λ h e. rw e (holds (omega arith)))

  wrong-flash :
      (negate (eqb (further f) (flash_further (opcode f))) ≡ true)
      ↔ (((¬ (opcode f ≡ 0x13)) × (¬ (length f ≡ 5))) ⊎ ((opcode f ≡ 0x13) × (¬ (length f ≡ 3))))
  unfolding flash_further
  wrong-flash =
      by_eqb (opcode f) 0x13
      (λ e t. rw t
      (by_eqb (further f) 2
      (λ h v. rw v (fails false (⊎_elim (λ p. p.0 e) (λ p. p.1 (omega arith)))))
      (λ h v. rw v (holds (inr (e, λ l. h (omega arith)))))))
      (λ n t. rw t
      (by_eqb (further f) 4
      (λ h v. rw v (fails false (⊎_elim (λ p. p.1 (omega arith)) (λ p. n p.0))))
      (λ h v. rw v (holds (inl (n, λ l. h (omega arith)))))))

  length-means : (wrong_length (transaction f [] []) ≡ true) ↔ WrongLength f
  unfolding wrong_length
  length-means =
      Iff.trans
      (sorted _ _ _ _ (λ s. more) (λ s. whole-not) (λ s. wrong-flash) (λ s. whole-not)) (
        ⊎_elim (λ (s, p). inl (s, p))
            (⊎_elim (λ (s, p). inr (inl (inl s, p)))
            (⊎_elim (λ (s, p). ⊎_elim (λ q. inr (inr (inl (word-frame s q.0, q.1)))) (λ q. inr (inr (inr q))) p)
            (λ (s, p). inr (inl (inr s, p))))),
        ⊎_elim (λ (s, p). inl (s, p))
            (⊎_elim
            (λ (s, p). ⊎_elim (λ w. inr (inl (w, p))) (λ r. inr (inr (inr (r, p)))) s)
            (⊎_elim
            (λ (s, p). ⊎_elim
            (λ e. inr (inr (inl (inl e, inl (λ z. omega arith, p)))))
            (λ e. inr (inr (inl (inr (inl e), inl (λ z. omega arith, p))))) s)
            (λ (e, p). inr (inr (inl (inr (inr e), inr (e, p))))))),
      )
    where
      word-frame : Flash f → ¬ (opcode f ≡ 0x13) → (opcode f ≡ 0x90) ⊎ (opcode f ≡ 0x10)
      word-frame s n = ⊎_elim inl (⊎_elim inr (λ e. absurd (n e))) s

  -- 4 "a write past 43h or a read past FFh"
  past-means : (end : ℕ) → 1 ≤ opcode f → (past_end (opcode f) (words f) (end + 1) ≡ true) ↔ (end < last_register f)
  unfolding past_end
  past-means end h =
      by-ltb (end + 1) (opcode f + words f)
      (λ i e. rw e (holds (omega arith)))
      (λ i e. rw e (fails false (λ x. omega arith)))

  registers-mean : (past_registers (transaction f [] []) ≡ true) ↔ PastRegisters f
  unfolding past_registers
  registers-mean =
      Iff.trans
      (sorted _ _ _ _ (λ s. never) (λ s. past-means 0x43 (omega arith)) (λ s. never) (λ s. past-means 0xFF (omega arith))) (
        ⊎_elim (λ p. absurd p.1) (⊎_elim (λ p. inl p) (⊎_elim (λ p. absurd p.1) (λ p. inr p))),
        ⊎_elim (λ p. inr (inl p)) (λ p. inr (inr (inr p))),
      )

  -- 5 "a read with an output buffer below 2n bytes"; "a flash read with an output below two bytes" (Note 8)
  output-means : (o : List ℕ) → (short_output (transaction f o []) ≡ true) ↔ ShortOutput f o
  unfolding short_output
  output-means o =
      Iff.trans
      (sorted _ _ _ _ (λ s. never) (λ s. never)
      (λ s. both-means _ _ (eqb-means (opcode f) 0x90) (ltb-means (length o) 2))
      (λ s. ltb-means (length o) (2 * words f))) (
        ⊎_elim (λ p. absurd p.1) (⊎_elim (λ p. absurd p.1) (⊎_elim (λ p. inr p.1) (λ p. inl p))),
        ⊎_elim (λ p. inr (inr (inr p))) (λ p. inr (inr (inl (inl p.0, p)))),
      )

  -- 6 "a write, or a command but HALT and Reset, while a measurement is awaited or an event runs"; "6 to all five, the flash read
  -- too" (Note 8)
  busy-row : (m : Model) → (while_busy m (transaction f [] []) ≡ true) ↔ Busy m f
  unfolding while_busy
  busy-row m =
      let (there, back) = busy-means m in
      Iff.trans
      (sorted _ _ _ _ (λ s. command-busy-means m (opcode f)) (λ s. busy-means m) (λ s. busy-means m) (λ s. never)) (
        ⊎_elim (λ (s, (b, x, y)). (inr (inr (s, x, y)), there b))
            (⊎_elim (λ (s, b). (inl s, b)) (⊎_elim (λ (s, b). (inr (inl s), b)) (λ p. absurd p.1))),
        λ (s, b). ⊎_elim (λ w. inr (inl (w, b)))
            (⊎_elim (λ u. inr (inr (inl (u, b)))) (λ (c, x, y). inl (c, (back b, x, y)))) s,
      )

  -- 15 "supply off when the regulator isn't on" (Note 8)
  supply-means : (m : Model) → (supply_off m (transaction f [] []) ≡ true) ↔ SupplyOff m f
  unfolding supply_off
  supply-means m =
      Iff.trans (sorted _ _ _ _ (λ s. never) (λ s. never) (λ s. off) (λ s. never)) (
        ⊎_elim (λ p. absurd p.1) (⊎_elim (λ p. absurd p.1) (⊎_elim (λ p. p) (λ p. absurd p.1))),
        λ p. inr (inr (inl p)),
      )
    where
      off : (negate m.regulator ≡ true) ↔ (m.regulator ≡ false)
      off = by-test m.regulator (λ e. rw e (fails false (λ x. false≢true (sym x)))) (λ e. rw e (holds refl))

  -- 16 "flash address for a memory of another size, an odd address in a read or write, or one above 1FFFh" (Note 8)
  address_is : flash_address (drop 1 f) ≡ address f
  unfolding flash_address word_at
  address_is = rw (get_or-drop 1 f 0 0, get_or-drop 1 f 1 0)

  unreachable-means :
      (x : List ℕ) →
      (flash_unreachable (opcode f) (length x) (address f) ≡ true)
      ↔ ((¬ (length x ≡ 8192)) ⊎ ((¬ (opcode f ≡ 0x13)) × (address f % 2 ≡ 1)) ⊎ (0x1FFF < address f))
  unfolding flash_unreachable
  unreachable-means x =
      by_eqb (opcode f) 0x13
      (λ e t. rw t
      (Iff.trans (erase-refused (length x) (address f)) (
        ⊎_elim inl (λ l. inr (inr l)),
        ⊎_elim inl (⊎_elim (λ p. absurd (p.0 e)) inr),
      )))
      (λ n t. rw t
      (Iff.trans (address-refused (length x) (address f)) (
        ⊎_elim inl (⊎_elim (λ o. inr (inl (n, o))) (λ l. inr (inr l))),
        ⊎_elim inl (⊎_elim (λ p. inr (inl p.1)) (λ l. inr (inr l))),
      )))

  address-row : (x : List ℕ) → (unreachable (transaction f [] x) ≡ true) ↔ BadAddress f x
  unfolding unreachable
  address-row x =
      Iff.trans (sorted _ _ _ _ (λ s. never) (λ s. never) (λ s. rw address_is (unreachable-means x)) (λ s. never)) (
        ⊎_elim (λ p. absurd p.1) (⊎_elim (λ p. absurd p.1) (⊎_elim (λ p. p) (λ p. absurd p.1))),
        λ p. inr (inr (inl p)),
      )

  -- 17 "not erased for a write on another word" (Note 8)
  erased-row : (x : List ℕ) → (unerased (transaction f [] x) ≡ true) ↔ NotErased f x
  unfolding unerased flash_unerased
  erased-row x =
      Iff.trans (sorted _ _ _ _ (λ s. never) (λ s. never) (λ s. rw address_is (both-means _ _ (eqb-means (opcode f) 0x10) other)) (λ s. never)) (
        ⊎_elim (λ p. absurd p.1) (⊎_elim (λ p. absurd p.1) (⊎_elim (λ p. p.1) (λ p. absurd p.1))),
        λ p. inr (inr (inl (inr (inl p.0), p))),
      )
    where
      other : (not_erased x (address f) ≡ true) ↔ (¬ (get_or x (address f) 0 * 256 + get_or x (address f + 1) 0 ≡ 0xFFFF))
      other = unfold flash_word in not-erased x (address f)

  -- 7 "the clock after the write, or the alarm, would be invalid"
  calendar-row : (m : Model) → is_sound m ≡ true → (bad_calendar m (transaction f [] []) ≡ true) ↔ BadCalendar m f
  unfolding bad_calendar
  calendar-row m s =
      Iff.trans (sorted _ _ _ _ (λ _. never) (λ _. invalid) (λ _. never) (λ _. never)) (
        ⊎_elim (λ p. absurd p.1) (⊎_elim (λ p. p) (⊎_elim (λ p. absurd p.1) (λ p. absurd p.1))),
        λ p. inr (inl p),
      )
    where
      invalid :
          (write_invalid (drop 1 f) (opcode f) (words f) m ≡ true)
          ↔ (¬ (CalendarValid (word_after m f 0x30) (word_after m f 0x31) (word_after m f 0x32) (word_after m f 0x33) × AlarmValid (alarm_after m f)))
      invalid =
          unless-means (write_invalid (drop 1 f) (opcode f) (words f) m)
          (unfold alarm_word in judged-after (drop 1 f) (opcode f) (words f) m s _ _ _ _ (calendar-some (drop 1 f) (opcode f) (words f) m))

  -- 8 "00h to 03h, 07h to 09h before Initialize"
  before-means : (m : Model) → (not_initialised m (transaction f [] []) ≡ true) ↔ NotInitialised m f
  unfolding not_initialised before_initialize
  before-means m =
      Iff.trans
      (sorted _ _ _ _ (λ s. both-means _ _ (not_yet m) (starts-any (opcode f))) (λ s. never) (λ s. never) (λ s. never)) (
        ⊎_elim (λ (s, (e, a)). (a, e)) (⊎_elim (λ p. absurd p.1) (⊎_elim (λ p. absurd p.1) (λ p. absurd p.1))),
        λ (a, e). inl (⊎_elim (λ h. inl (omega arith)) (λ h. inr (inl (omega arith))) a, (e, a)),
      )

  -- 9 "for flight, PL .. or DPL .. zero; for temperature, TP .. not 11b"; of an event "also: .. EOSC is 1"; "only the kinds run are
  -- judged for PL, DPL and TP"
  setup-row : (m : Model) → (bad_setup m (transaction f [] []) ≡ true) ↔ BadSetup m f
  unfolding bad_setup command_unset event_side_unset flight_side_unset temperature_side_unset
  setup-row m =
      Iff.trans
      (sorted _ _ _ _
      (λ s. either-means _ _ (both-means _ _ (event-means (opcode f)) (stands-means m))
      (either-means _ _ (both-means _ _ (starts-flight-means (opcode f)) (pulses-mean m))
      (both-means _ _ (starts-temperature-means (opcode f)) (ports-mean m))))
      (λ s. never) (λ s. never) (λ s. never)) (
        ⊎_elim (λ (s, p). ⊎_elim (λ e. inr (inr e)) (⊎_elim (λ a. inl a) (λ t. inr (inl t))) p)
            (⊎_elim (λ p. absurd p.1) (⊎_elim (λ p. absurd p.1) (λ p. absurd p.1))),
        ⊎_elim (λ a. inl (of-flight a.0, inr (inl a)))
            (⊎_elim (λ t. inl (of-temperature t.0, inr (inr t))) (λ e. inl (inr (inl (omega (arith, e.0))), inl e))),
      )
    where
      of-flight : (opcode f ≤ 0x02) ⊎ (opcode f ≡ 0x07) ⊎ (opcode f ≡ 0x08) → Command f
      of-flight = ⊎_elim (λ h. inl (omega arith)) (⊎_elim (λ h. inr (inl (omega arith))) (λ h. inr (inl (omega arith))))

      of-temperature : (opcode f ≡ 0x03) ⊎ (opcode f ≡ 0x07) ⊎ (opcode f ≡ 0x09) → Command f
      of-temperature = ⊎_elim (λ h. inl (omega arith)) (⊎_elim (λ h. inr (inl (omega arith))) (λ h. inr (inl (omega arith))))

-- 10 "a delivery of a kind that is not awaited"
awaited-not : (k : Schedule) → (negate (is_awaited k) ≡ true) ↔ (k.left.0 ≡ 0)
unfolding is_awaited
awaited-not k = by-ltb 0 k.left.0 (λ h e. rw e (fails false (λ x. omega arith))) (λ h e. rw e (holds (omega arith)))

-- 11 "a delivery with another number of words"
miscounted-means :
    (m : Model) (u d : List ℕ) →
    (flight_miscounted m.flight (hit_count m.setup) (length u) (length d) ≡ true) ↔ Miscounted m u d
unfolding hit_count
miscounted-means m u d = unless-means _ (count-means m.flight (hits_of m) (length u) (length d))

-- The rows of the definitions against those in plain terms, in the table's order: the numbers are the same, and so are the conditions
-- where those before them do not hold.
abbrev pub Alike : List Row → List Refusal → Type 0
Alike [] [] = Unit {0}
Alike [] (q ∷ qs) = ⊥
Alike (r ∷ rs) [] = ⊥
Alike (r ∷ rs) (q ∷ qs) = (number r.refusal ≡ q.number) × ((r.holds ≡ true) ↔ q.When) × (r.holds ≡ false → Alike rs qs)

carried : (c : Call) (f o x : List ℕ) → c ≡ transaction f o x → not_carried c ≡ false → not_carried (transaction f [] []) ≡ false
unfolding not_carried
carried c f o x e k = rw e at k

module _ (m : Model) (c : Call) where
  alike-deliveries :
      Alike (row Answer·Refusal.NotAwaited (not_awaited m c) ∷ row Answer·Refusal.WordCount (miscounted m c) ∷ row Answer·Refusal.Span (too_long c) ∷ []) (drop 13 (rows m c))
  unfolding not_awaited miscounted too_long
  alike-deliveries = (
    refl,
    on-delivery c _ _ _ _ (λ u d. awaited-not m.flight.schedule) (λ w. awaited-not m.temperature.schedule),
    λ _. (
      refl,
      on-delivery c _ _ _ _ (miscounted-means m) (λ w. negate-means _ (eqb-means (length w) 4)),
      λ _. (refl, on-stretch c _ _ (λ n. ltb-means 16384 n), λ _. tt),
    ),
  )

  alike-frames :
      is_sound m ≡ true →
      not_carried c ≡ false →
      Alike (drop 3 (table m c)) (drop 3 (rows m c))
  unfolding table wrong_length past_registers short_output while_busy supply_off unreachable unerased bad_calendar not_initialised bad_setup
  alike-frames s k = (
    refl,
    on-frame c _ _ (λ f o x e. length-means f (carried c f o x e k)),
    λ _. (
      refl,
      on-frame c _ _ (λ f o x e. registers-mean f (carried c f o x e k)),
      λ _. (
        refl,
        on-frame c _ _ (λ f o x e. output-means f (carried c f o x e k) o),
        λ _. (
          refl,
          on-frame c _ _ (λ f o x e. busy-row f (carried c f o x e k) m),
          λ _. (
            refl,
            on-frame c _ _ (λ f o x e. supply-means f (carried c f o x e k) m),
            λ _. (
              refl,
              on-frame c _ _ (λ f o x e. address-row f (carried c f o x e k) x),
              λ _. (
                refl,
                on-frame c _ _ (λ f o x e. erased-row f (carried c f o x e k) x),
                λ _. (
                  refl,
                  on-frame c _ _ (λ f o x e. calendar-row f (carried c f o x e k) m s),
                  λ _. (
                    refl,
                    on-frame c _ _ (λ f o x e. before-means f (carried c f o x e k) m),
                    λ _. (
                      refl,
                      on-frame c _ _ (λ f o x e. setup-row f (carried c f o x e k) m),
                      λ _. alike-deliveries,
                    ),
                  ),
                ),
              ),
            ),
          ),
        ),
      ),
    ),
  )

  pub alike : Alike (table m c) (rows m c)
  unfolding table no_frame not_carried
  alike = (
    refl,
    by-test (is_sound m) (λ e. rw e (fails false (λ x. false≢true (sym x)))) (λ e. rw e (holds refl)),
    λ s. (
      refl,
      on-frame c _ _ (λ f o x e. eqb-means (length f) 0),
      λ _. (refl, on-frame c _ _ (λ f o x e. carried-not f), λ k. alike-frames (negated (is_sound m) s) k),
    ),
  )
