-- What a write leaves of the calendar: the words that B0h to B3h read afterwards, the second's ticks, and when a write is
-- number 7.
use Prim.Native.Nat.{ℕ, ◌+◌, ◌-◌, ◌*◌, ◌/◌, ◌%◌, ◌≤◌, ◌<◌}
use native.Mathlib.Omega.{arith}
use mathlib.Core.Bool.{Bool, true, false}
use mathlib.Core.List.{List}
use mathlib.Core.Logic.{◌↔◌, inl, inr, ⊎_elim}
use mathlib.Core.Path.{◌≡◌, refl, sym, ◌∙◌}
use lib.ListN.{length}
use borrow.Author.Tests.{le-leb, lt-leb}
use Rattle.unit.specs.Choice.{both, negate}
use Rattle.unit.proofs.Cases.{by-ltb}
use Rattle.calendar.specs.Words.{ticks_in, hundredths_of, clock_from, words_valid, alarm_valid}
use Rattle.calendar.proofs.Laws.{bounds}
use Rattle.calendar.proofs.Facts.{hundredths_in, ticks-read, ticks-below}
use Rattle.calendar.specs.Valid.{CalendarValid, AlarmValid}
use Rattle.calendar.proofs.Validity.{words-mean, alarm-means}
use Rattle.calendar.proofs.Places.{words_back, hundredths-held, own-words}
use Rattle.setup.specs.Setup.{alarm_word}
use Rattle.frame.specs.Frame.{word_at}
use Rattle.device.specs.declared.Model.{Model}
use Rattle.device.specs.Model.{is_sound}
use Rattle.device.specs.Registers.{calendar_word, register_word}
use Rattle.device.specs.Write.{covers, written, setup_after, ticks_after, clock_after, write_invalid, write_model}
use Rattle.device.specs.Plain.{LeftOut, After, CalendarAfter}
use Rattle.device.proofs.Sound.{bounds_of}
use Rattle.device.proofs.RegisterMeaning.{setup-kept, setup-means}

not-both : {G : Type 0} (op n a : ℕ) → LeftOut op n a → op ≤ a → a < op + n → G
not-both op n a o h k = absurd (⊎_elim (λ x. omega arith) (λ x. omega arith) o)

by-cover :
    {G : Type 0} (op n a : ℕ) →
    (op ≤ a → a < op + n → covers op n a ≡ true → G) →
    (LeftOut op n a → covers op n a ≡ false → G) →
    G
unfolding covers
by-cover op n a f g =
    by-ltb a op
    (λ h e. g (inl h) (rw (lt-leb op a h)))
    (λ h e. by-ltb a (op + n) (λ k d. f h k (rw (le-leb op a h, d))) (λ k d. g (inr k) (rw (le-leb op a h, d))))

both_hold : (a b : Bool) → (negate (both a b) ≡ false) ↔ ((a ≡ true) × (b ≡ true))
both_hold true true = (λ e. (refl, refl), λ h. refl)
both_hold true false = (λ e. (refl, sym e), λ h. sym h.1)
both_hold false b = (λ e. (sym e, cc), λ h. sym h.0)

-- Each register has one such word.
abbrev pub word_after : List ℕ → ℕ → ℕ → Model → ℕ → ℕ
word_after bytes op n m a = written bytes op n a (register_word m (a + 0x80))

module _ (bytes : List ℕ) (op n : ℕ) (m : Model) where
  pub after-some : (a : ℕ) → After bytes op n m a (word_after bytes op n m a)
  unfolding written
  after-some a =
      by-cover op n a
      (λ h k e. rw e (record { covered = λ _ _. refl; left_out = λ o. not-both op n a o h k }))
      (λ o e. rw e (record { covered = λ h k. not-both op n a o h k; left_out = λ _. refl }))

  pub after_one : (a w : ℕ) → After bytes op n m a w → word_after bytes op n m a ≡ w
  unfolding written
  after_one a w r = by-cover op n a (λ h k e. rw e (sym (r.covered h k))) (λ o e. rw e (sym (r.left_out o)))

  pub calendar-some :
      CalendarAfter bytes op n m
      (word_after bytes op n m 0x30)
      (word_after bytes op n m 0x31)
      (word_after bytes op n m 0x32)
      (word_after bytes op n m 0x33)
  calendar-some =
      record { at30 = after-some 0x30; at31 = after-some 0x31; at32 = after-some 0x32; at33 = after-some 0x33 }

  -- "A write that covers 30h sets s to c × 32,768 ÷ 100 rounded up, c being 10 × its tenths + its hundredths"
  pub ticks-set :
      op ≤ 0x30 →
      0x30 < op + n →
      let w : ℕ = word_at bytes (0x30 - op) in
      let c : ℕ = 10 * (w / 4096 % 16) + w / 256 % 16 in
      let s : ℕ = (write_model bytes op n m).clock.ticks.0 in
      (c * 32768 ≤ s * 100) × (s * 100 < c * 32768 + 100)
  unfolding write_model clock_after clock_from ticks_after ticks_in
  ticks-set h k = by-cover op n 0x30 (λ _ _ e. rw e (omega arith)) (λ o e. not-both op n 0x30 o h k)

  -- "any other write keeps s"
  pub ticks-kept : LeftOut op n 0x30 → (write_model bytes op n m).clock.ticks ≡ m.clock.ticks
  unfolding write_model clock_after clock_from ticks_after
  ticks-kept o = by-cover op n 0x30 (λ h k e. not-both op n 0x30 o h k) (λ _ e. rw e)

alarm-after :
    (bytes : List ℕ) (op n : ℕ) (m : Model) (w35 : ℕ) →
    length m.setup ≡ 16 →
    After bytes op n m 0x35 w35 →
    alarm_word (setup_after bytes op m.setup n) ≡ w35
unfolding alarm_word register_word
alarm-after bytes op n m w35 l q =
    setup-means bytes op m.setup n 0x35 l (omega arith) (omega arith) ∙ after_one bytes op n m 0x35 w35 q

module _
    (bytes : List ℕ) (op n : ℕ) (m : Model) (s : is_sound m ≡ true)
    (w30 w31 w32 w33 : ℕ) (r : CalendarAfter bytes op n m w30 w31 w32 w33) where
  -- the ticks after the write give the hundredths of 30h after it
  hundredths-after : hundredths_of (ticks_after bytes op n m) ≡ hundredths_in w30
  unfolding ticks_after register_word calendar_word
  hundredths-after =
      by-cover op n 0x30
      (λ h k e. rw (e, r.at30.covered h k) (ticks-read (word_at bytes (0x30 - op))))
      (λ o e. rw (e, r.at30.left_out o) (hundredths-held m.clock (bounds_of m s).clock))

  ticks-fit : hundredths_in w30 ≤ 99 → (ticks_after bytes op n m).0 ≤ 32767
  unfolding ticks_after
  ticks-fit l =
      by-cover op n 0x30
      (λ h k e. rw e (ticks-below (word_at bytes (0x30 - op)) (rw (r.at30.covered h k) at l)))
      (λ o e. rw e (bounds m.clock (bounds_of m s).clock).ticks)

  judged-words :
      words_valid w30 w31 w32 w33 (ticks_after bytes op n m) ≡ true ↔ CalendarValid w30 w31 w32 w33
  judged-words =
      let (f, g) = words-mean w30 w31 w32 w33 (ticks_after bytes op n m) in
      (λ e. (f e).0, λ v. g (v, ticks-fit (omega (arith, v.digits))))

  -- clock and judgement, by the four words
  by-words :
      (clock_after bytes op n m ≡ clock_from w30 w31 w32 w33 (ticks_after bytes op n m)) ×
      (write_invalid bytes op n m
      ≡ negate
      (both (words_valid w30 w31 w32 w33 (ticks_after bytes op n m)) (alarm_valid (alarm_word (setup_after bytes op m.setup n)))))
  unfolding clock_after write_invalid register_word
  by-words =
      rw (
        after_one bytes op n m 0x30 w30 r.at30,
        after_one bytes op n m 0x31 w31 r.at31,
        after_one bytes op n m 0x32 w32 r.at32,
        after_one bytes op n m 0x33 w33 r.at33,
      )
      (refl, refl)

  -- "calendar: the clock after the write, or the alarm, would be invalid", both ways; "30h to 33h are judged together after the
  -- whole write"
  pub judged-after :
      (write_invalid bytes op n m ≡ false)
      ↔ (CalendarValid w30 w31 w32 w33 × AlarmValid (alarm_word (setup_after bytes op m.setup n)))
  judged-after =
      let w35 : ℕ = alarm_word (setup_after bytes op m.setup n) in
      let (f, g) = judged-words in
      let (i, j) = alarm-means w35 in
      let (h, k) = both_hold (words_valid w30 w31 w32 w33 (ticks_after bytes op n m)) (alarm_valid w35) in
      rw by-words.1 (λ e. let (c, a) = h e in (f c, i a), λ (c, a). k (g c, j a))

  pub write-judged :
      (w35 : ℕ) →
      length m.setup ≡ 16 →
      After bytes op n m 0x35 w35 →
      (write_invalid bytes op n m ≡ false) ↔ (CalendarValid w30 w31 w32 w33 × AlarmValid w35)
  write-judged w35 l q = rw (alarm-after bytes op n m w35 l q) at judged-after

  -- "Reserved bits are .. ignored and read 0" in 30h to 33h: bit 7 of 30h, bits 15 and 7 of 31h, 15:11 and 7:6 of 32h, 15:13
  -- of 33h. Every other bit reads as the write leaves it.
  pub write-reads :
      write_invalid bytes op n m ≡ false →
      let left : Model = write_model bytes op n m in
      (register_word left 0xB0 ≡ w30 / 256 % 256 * 256 + w30 % 128) ×
      (register_word left 0xB1 ≡ w31 / 256 % 128 * 256 + w31 % 128) ×
      (register_word left 0xB2 ≡ w32 / 256 % 8 * 256 + w32 % 64) ×
      (register_word left 0xB3 ≡ w33 % 8192)
  unfolding write_model register_word calendar_word
  write-reads =
      rw (by-words.1, by-words.0)
      (λ e.
      let a = alarm_valid (alarm_word (setup_after bytes op m.setup n)) in
      let (v, _) = (both_hold (words_valid w30 w31 w32 w33 (ticks_after bytes op n m)) a).0 e in
      let b = words_back w30 w31 w32 w33 (ticks_after bytes op n m) v hundredths-after in
      (b.seconds, b.time, b.date, b.year))

-- A write changes the clock and the set-up alone.
pub write_keeps :
    (bytes : List ℕ) (op n : ℕ) (m : Model) →
    let left : Model = write_model bytes op n m in
    (left.status ≡ m.status) ×
    (left.initialised ≡ m.initialised) ×
    (left.regulator ≡ m.regulator) ×
    (left.flight ≡ m.flight) ×
    (left.temperature ≡ m.temperature)
unfolding write_model
write_keeps bytes op n m = (refl, refl, refl, refl, refl)

-- A write past 35h leaves a sound model's alarm valid.
pub alarm-kept :
    (m : Model) (bytes : List ℕ) (op n : ℕ) →
    is_sound m ≡ true →
    0x36 ≤ op →
    negate (alarm_valid (alarm_word (setup_after bytes op m.setup n))) ≡ false
alarm-kept m bytes op n s h = rw (kept_word, (bounds_of m s).alarm)
  where
    kept_word : alarm_word (setup_after bytes op m.setup n) ≡ alarm_word m.setup
    kept_word = unfold alarm_word in setup-kept bytes op m.setup n 0x35 (omega arith) (inl (omega arith))

-- A register that an accepted write leaves out reads as before.
module _ (bytes : List ℕ) (op n : ℕ) (m : Model) (s : is_sound m ≡ true) (e : write_invalid bytes op n m ≡ false) where
  pub left-out-reads :
      let left : Model = write_model bytes op n m in
      (LeftOut op n 0x30 → register_word left 0xB0 ≡ register_word m 0xB0) ×
      (LeftOut op n 0x31 → register_word left 0xB1 ≡ register_word m 0xB1) ×
      (LeftOut op n 0x32 → register_word left 0xB2 ≡ register_word m 0xB2) ×
      (LeftOut op n 0x33 → register_word left 0xB3 ≡ register_word m 0xB3)
  unfolding register_word calendar_word
  left-out-reads =
      let r = calendar-some bytes op n m in
      let (b0, b1, b2, b3) = write-reads bytes op n m s _ _ _ _ r e in
      let w = own-words m.clock (bounds_of m s).clock in (
        (λ o. b0 ∙ rw (r.at30.left_out o) (sym w.seconds)),
        (λ o. b1 ∙ rw (r.at31.left_out o) (sym w.time)),
        (λ o. b2 ∙ rw (r.at32.left_out o) (sym w.date)),
        (λ o. b3 ∙ rw (r.at33.left_out o) (sym w.year)),
      )
