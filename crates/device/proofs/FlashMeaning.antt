-- What the commands of the regulator and the frames of the user flash mean: each field and byte, and each number.
use Prim.Native.Nat.{ℕ, ◌+◌, ◌-◌, ◌*◌, ◌/◌, ◌%◌, ◌≤◌, ◌<◌}
use native.Mathlib.Omega.{arith}
use mathlib.Core.Bool.{Bool, true, false}
use mathlib.Core.List.{List, [], ◌∷◌, map}
use mathlib.Core.Logic.{◌↔◌}
use mathlib.Core.Path.{◌≡◌, refl, ◌∙◌}
use lib.ListN.{length, get_or}
use lib.Dec.{ltb, eqb}
use borrow.Author.Tests.{ne_eqb}
use Rattle.unit.specs.Choice.{pick}
use Rattle.unit.proofs.Cases.{by-test}
use Rattle.frame.specs.Frame.{is_command, is_write, is_read, is_flash, flash_further, word_at}
use Rattle.frame.proofs.Laws.{flash-alone}
use Rattle.flash.specs.Flash.{flash_word, flash_written, flash_erased, address_refused, erase_refused, not_erased}
use Rattle.flash.proofs.Bytes.{written-high, written_low, written-kept, erased-block, kept-blocks, first-written}
use Rattle.device.specs.declared.Status.{Status}
use Rattle.device.specs.declared.Model.{Model}
use Rattle.device.specs.Status.{joined, ldo_bit, flash_bit, without_ldo}
use Rattle.device.specs.Model.{is_sound, is_busy, fresh_model, fresh_with, reset_model}
use Rattle.device.specs.FlashFrame.{flash_address, flash_data, flash_unreachable, flash_unerased, flash_model, flash_output, flash_memory}
use Rattle.device.specs.Bus.{must_be_idle, starts_flight, starts_temperature, is_event, command_busy, before_initialize, command_unset, event_side_unset, flight_side_unset, temperature_side_unset}
use Rattle.device.specs.Bus.{initialised_model, halted_model, supplied, unsupplied, run_model}
use Rattle.device.specs.Call.{transaction, opcode, Verdict, refused, accepted, verdict, table, first_of}
use Rattle.device.specs.Question.{regulator_on}
use Rattle.device.specs.Call.{no_frame, not_carried, wrong_length, past_registers, short_output, while_busy, supply_off, unreachable, unerased, bad_calendar, not_initialised, bad_setup, not_awaited, miscounted, too_long}
use Rattle.device.specs.Reply.{reply, reply_by, accepted_answer, accepted_model, output, output_by, accepted_output, buffer_of, memory, memory_by, memory_of, accepted_memory}
use Rattle.flash.proofs.Refusal.{address-accepted, erase-accepted}
use Rattle.device.proofs.Table.{none-holds}
use Rattle.device.proofs.StatusMeaning.{kept}
use Rattle.refusal.specs.declared.Refusal.{Refusal}
use Rattle.std.specs.Prelude.{Result, Ok, Err}

-- a status with the two bits given, and the others as they were
abbrev pub other_bits : Status → Bool → Bool → Status
other_bits s ldo flash =
    record {
      timeout = s.timeout;
      alarm = s.alarm;
      tof = s.tof;
      te = s.te;
      ldo = ldo;
      tofevtmg = s.tofevtmg;
      tempevtmg = s.tempevtmg;
      flash = flash;
      halt = s.halt;
      init = s.init;
      por = s.por;
    }

abbrev pub only_these : Model → Status → Bool → Model
only_these m s on =
    record {
      clock = m.clock;
      setup = m.setup;
      status = s;
      initialised = m.initialised;
      regulator = on;
      flight = m.flight;
      temperature = m.temperature;
    }

module _ (m : Model) where
  -- "LDO_ON sets status bit 10", whether or not the regulator was on; nothing else changes
  pub ldo-on : run_model m 0x0C ≡ only_these m (other_bits m.status true m.status.flash) true
  unfolding run_model supplied joined ldo_bit
  ldo-on = by-test m.status.ldo (λ e. rw e (simp kept)) (λ e. rw e (simp kept))

  -- 000: "the internal regulator is disabled and the Interrupt Status register LDO bit is cleared"
  pub ldo-off : run_model m 0x0D ≡ only_these m (other_bits m.status false m.status.flash) false
  unfolding run_model unsupplied without_ldo
  ldo-off = refl

  -- "a write or erase sets bit 7", and a read sets nothing
  pub flash-sets :
      map (flash_model m) (0x10 ∷ 0x13 ∷ 0x90 ∷ [])
      ≡ only_these m (other_bits m.status m.status.ldo true) m.regulator ∷
      only_these m (other_bits m.status m.status.ldo true) m.regulator ∷
      m ∷
      []
  unfolding flash_model joined flash_bit
  flash-sets = by-test m.status.flash (λ e. rw e (simp kept)) (λ e. rw e (simp kept))

  -- "A fresh model and Reset have the regulator off."; HALT and Initialize leave it as it is
  pub regulator-kept :
      (fresh_model.regulator ≡ false) ×
      ((run_model m 0x04).regulator ≡ false) ×
      ((run_model m 0x05).regulator ≡ m.regulator) ×
      ((run_model m 0x0A).regulator ≡ m.regulator)
  unfolding fresh_model fresh_with run_model reset_model initialised_model halted_model
  regulator-kept = (refl, refl, refl, refl)

  pub regulator-told : is_sound m ≡ true → (regulator_on m ≡ Ok 1) ↔ (m.regulator ≡ true)
  unfolding regulator_on
  regulator-told s =
      rw s
      (by-test m.regulator
      (λ e. rw e (λ x. refl, λ x. refl))
      (λ e. rw e (
        λ x. let z : ◌≡◌ {A = ℕ} 0 1 = cc in absurd (omega arith),
        λ x. let z : ◌≡◌ {A = ℕ} 0 1 = cc in absurd (omega arith),
      )))

  -- "any other frame leaves the whole memory as it was", and no other frame looks at it
  module _ (f o x y : List ℕ) (n : is_flash (opcode f) ≡ false) where
    same-verdict : verdict m (transaction f o x) ≡ verdict m (transaction f o y)
    unfolding verdict table no_frame not_carried wrong_length past_registers short_output while_busy supply_off unreachable unerased bad_calendar not_initialised bad_setup not_awaited miscounted too_long
    same-verdict = rw n

    pub memory-unseen :
        (reply m (transaction f o x) ≡ reply m (transaction f o y)) ×
        (output m (transaction f o x) ≡ output m (transaction f o y))
    unfolding reply output
    memory-unseen = rw same-verdict (by-verdict (verdict m (transaction f o y)))
      where
        by-verdict :
            (v : Verdict) →
            (reply_by v m (transaction f o x) ≡ reply_by v m (transaction f o y)) ×
            (output_by v m (transaction f o x) ≡ output_by v m (transaction f o y))
        by-verdict accepted = unfold reply_by output_by accepted_answer accepted_model accepted_output in rw n (refl, refl)
        by-verdict (refused k) = unfold reply_by output_by buffer_of in (refl, refl)

    pub memory-left : memory m (transaction f o x) ≡ x
    unfolding memory
    memory-left = by-verdict (verdict m (transaction f o x))
      where
        by-verdict : (v : Verdict) → memory_by v (transaction f o x) ≡ x
        by-verdict accepted =
            unfold memory_by accepted_memory in
            rw n
            (by-test (is_command (opcode f)) (λ c. rw c)
            (λ c. rw c (by-test (is_write (opcode f)) (λ w. rw w) (λ w. rw w))))
        by-verdict (refused k) = unfold memory_by memory_of in refl

-- The numbers in their order: 6, 15, 16, and 17 for a write alone; 5 before them for a read.
module _ (m : Model) (s : is_sound m ≡ true) (high low first second : ℕ) (o x : List ℕ) where
  pub write-verdict :
      verdict m (transaction (0x10 ∷ high ∷ low ∷ first ∷ second ∷ []) o x)
      ≡ pick (is_busy m) (refused Refusal.Busy)
      (pick m.regulator
      (pick (address_refused (length x) (high * 256 + low)) (refused Refusal.FlashAddress)
      (pick (not_erased x (high * 256 + low)) (refused Refusal.NotErased) accepted))
      (refused Refusal.SupplyOff))
  unfolding verdict table first_of no_frame not_carried wrong_length past_registers short_output while_busy supply_off unreachable unerased bad_calendar not_initialised bad_setup not_awaited miscounted too_long is_command is_write is_flash flash_further flash_unreachable flash_unerased flash_address word_at
  write-verdict =
      rw s
      (by-test (is_busy m) (λ b. rw b)
      (λ b. rw b
      (by-test m.regulator
      (λ r. rw r)
      (λ r. rw r))))

  pub read-verdict :
      verdict m (transaction (0x90 ∷ high ∷ low ∷ first ∷ second ∷ []) o x)
      ≡ pick (ltb (length o) 2) (refused Refusal.ShortOutput)
      (pick (is_busy m) (refused Refusal.Busy)
      (pick m.regulator (pick (address_refused (length x) (high * 256 + low)) (refused Refusal.FlashAddress) accepted) (refused Refusal.SupplyOff)))
  unfolding verdict table first_of no_frame not_carried wrong_length past_registers short_output while_busy supply_off unreachable unerased bad_calendar not_initialised bad_setup not_awaited miscounted too_long is_command is_write is_flash flash_further flash_unreachable flash_unerased flash_address word_at
  read-verdict =
      rw s
      (by-test (ltb (length o) 2) (λ t. rw t)
      (λ t. rw t
      (by-test (is_busy m) (λ b. rw b)
      (λ b. rw b
      (by-test m.regulator (λ r. rw r) (λ r. rw r))))))

  pub erase-verdict :
      verdict m (transaction (0x13 ∷ high ∷ low ∷ []) o x)
      ≡ pick (is_busy m) (refused Refusal.Busy)
      (pick m.regulator (pick (erase_refused (length x) (high * 256 + low)) (refused Refusal.FlashAddress) accepted) (refused Refusal.SupplyOff))
  unfolding verdict table first_of no_frame not_carried wrong_length past_registers short_output while_busy supply_off unreachable unerased bad_calendar not_initialised bad_setup not_awaited miscounted too_long is_command is_write is_flash flash_further flash_unreachable flash_unerased flash_address word_at
  erase-verdict =
      rw s
      (by-test (is_busy m) (λ b. rw b)
      (λ b. rw b (by-test m.regulator (λ r. rw r) (λ r. rw r))))

-- "3 is given exactly for a length other than five bytes, for erase three"
pub flash-length :
    (m : Model) (f o x : List ℕ) →
    is_sound m ≡ true →
    is_flash (opcode f) ≡ true →
    ¬ (length f ≡ 0) →
    ¬ (length f ≡ pick (eqb (opcode f) 0x13) 3 5) →
    verdict m (transaction f o x) ≡ refused Refusal.FrameLength
unfolding verdict table first_of no_frame not_carried wrong_length flash_further
flash-length m f o x s u some n =
    let (c, w, _) = flash-alone (opcode f) u in
    let l : eqb (length f - 1) (pick (eqb (opcode f) 0x13) 2 4) ≡ false =
    by-test (eqb (opcode f) 0x13)
    (λ e. rw e (ne_eqb (length f - 1) 2 (λ q. (rw e at n) (omega arith))))
    (λ e. rw e (ne_eqb (length f - 1) 4 (λ q. (rw e at n) (omega arith)))) in
    rw (s, ne_eqb (length f) 0 some, c, w, u, l)

-- What an accepted frame leaves in the memory and in the output, byte by byte: "Words lie high byte first."; "Every byte outside the
-- word or block keeps its value".
module _ (m : Model) (high low first second : ℕ) (o x : List ℕ) where
  write-left :
      verdict m (transaction (0x10 ∷ high ∷ low ∷ first ∷ second ∷ []) o x) ≡ accepted →
      memory m (transaction (0x10 ∷ high ∷ low ∷ first ∷ second ∷ []) o x)
      ≡ flash_written x (high * 256 + low) (first * 256 + second)
  unfolding memory memory_by accepted_memory is_command is_write is_flash flash_memory flash_address flash_data word_at
  write-left e = rw e

  write-range :
      verdict m (transaction (0x10 ∷ high ∷ low ∷ first ∷ second ∷ []) o x) ≡ accepted → high * 256 + low + 1 < length x
  unfolding unreachable is_command is_write is_flash flash_unreachable flash_address word_at
  write-range e =
      let (size, even, most) =
      (address-accepted (length x) (high * 256 + low)).0
      (none-holds m (transaction (0x10 ∷ high ∷ low ∷ first ∷ second ∷ []) o x) e).row16 in
      omega arith

  pub write_bytes :
      verdict m (transaction (0x10 ∷ high ∷ low ∷ first ∷ second ∷ []) o x) ≡ accepted →
      (first < 256) × (second < 256) →
      (get_or (memory m (transaction (0x10 ∷ high ∷ low ∷ first ∷ second ∷ []) o x)) (high * 256 + low) 0 ≡ first) ×
      (get_or (memory m (transaction (0x10 ∷ high ∷ low ∷ first ∷ second ∷ []) o x)) (high * 256 + low + 1) 0 ≡ second)
  write_bytes e h =
      let a : ℕ = high * 256 + low in
      let w : ℕ = first * 256 + second in
      let p : w / 256 % 256 ≡ first = omega arith in
      let q : w % 256 ≡ second = omega arith in
      let r = write-range e in
      rw (write-left e) (written-high x a w r ∙ p, written_low x a w r ∙ q)

  pub write_keeps :
      verdict m (transaction (0x10 ∷ high ∷ low ∷ first ∷ second ∷ []) o x) ≡ accepted →
      (i : ℕ) →
      ¬ (i ≡ high * 256 + low) →
      ¬ (i ≡ high * 256 + low + 1) →
      get_or (memory m (transaction (0x10 ∷ high ∷ low ∷ first ∷ second ∷ []) o x)) i 0 ≡ get_or x i 0
  write_keeps e i n k = rw (write-left e) (written-kept x (high * 256 + low) (first * 256 + second) i n k)

  erase-left :
      verdict m (transaction (0x13 ∷ high ∷ low ∷ []) o x) ≡ accepted →
      memory m (transaction (0x13 ∷ high ∷ low ∷ []) o x) ≡ flash_erased x (high * 256 + low)
  unfolding memory memory_by accepted_memory is_command is_write is_flash flash_memory flash_address word_at
  erase-left e = rw e

  -- "A block of 128 words (256 bytes)" (000): FFh where the address lies in the block, and every other byte as it was
  erase-range :
      verdict m (transaction (0x13 ∷ high ∷ low ∷ []) o x) ≡ accepted → (length x ≡ 8192) × (high * 256 + low ≤ 0x1FFF)
  unfolding unreachable is_command is_write is_flash flash_unreachable flash_address word_at
  erase-range e =
      (erase-accepted (length x) (high * 256 + low)).0 (none-holds m (transaction (0x13 ∷ high ∷ low ∷ []) o x) e).row16

  pub erase-bytes :
      verdict m (transaction (0x13 ∷ high ∷ low ∷ []) o x) ≡ accepted →
      (i : ℕ) →
      i / 256 ≡ (high * 256 + low) / 256 →
      get_or (memory m (transaction (0x13 ∷ high ∷ low ∷ []) o x)) i 0 ≡ 0xFF
  erase-bytes e i b =
      let (size, most) = erase-range e in rw (erase-left e) (erased-block x (high * 256 + low) i size most b)

  pub erase-keeps :
      verdict m (transaction (0x13 ∷ high ∷ low ∷ []) o x) ≡ accepted →
      (i : ℕ) →
      ¬ (i / 256 ≡ (high * 256 + low) / 256) →
      get_or (memory m (transaction (0x13 ∷ high ∷ low ∷ []) o x)) i 0 ≡ get_or x i 0
  erase-keeps e i n = rw (erase-left e) (kept-blocks x (high * 256 + low) i n)

  -- "5 for a flash read with an output below two bytes, of which it fills the first two"
  pub read-fills :
      verdict m (transaction (0x90 ∷ high ∷ low ∷ first ∷ second ∷ []) o x) ≡ accepted →
      (output m (transaction (0x90 ∷ high ∷ low ∷ first ∷ second ∷ []) o x)
      ≡ flash_written o 0 (get_or x (high * 256 + low) 0 * 256 + get_or x (high * 256 + low + 1) 0)) ×
      (memory m (transaction (0x90 ∷ high ∷ low ∷ first ∷ second ∷ []) o x) ≡ x)
  unfolding output output_by accepted_output memory memory_by accepted_memory is_command is_write is_flash flash_memory flash_output flash_address flash_word word_at
  read-fills e = rw (e, first-written) (refl, refl)

-- The commands of the regulator: accepted while the model is idle, number 6 else; one byte, else number 3.
pub ldo-verdict :
    (m : Model) (o x : List ℕ) →
    is_sound m ≡ true →
    map (λ (op : ℕ). verdict m (transaction (op ∷ []) o x)) (0x0C ∷ 0x0D ∷ [])
    ≡ pick (is_busy m) (refused Refusal.Busy) accepted ∷ pick (is_busy m) (refused Refusal.Busy) accepted ∷ []
unfolding verdict table first_of no_frame not_carried wrong_length past_registers short_output while_busy supply_off unreachable unerased bad_calendar not_initialised bad_setup not_awaited miscounted too_long is_command command_busy must_be_idle before_initialize command_unset event_side_unset flight_side_unset temperature_side_unset starts_flight starts_temperature is_event
ldo-verdict m o x s =
    rw s
    (by-test (is_busy m) (λ b. rw b) (λ b. rw b (by-test m.initialised (λ r. rw r) (λ r. rw r))))

pub ldo-length :
    (m : Model) (b : ℕ) (rest o x : List ℕ) →
    is_sound m ≡ true →
    map (λ (op : ℕ). verdict m (transaction (op ∷ b ∷ rest) o x)) (0x0C ∷ 0x0D ∷ []) ≡ refused Refusal.FrameLength ∷ refused Refusal.FrameLength ∷ []
unfolding verdict table first_of no_frame not_carried wrong_length is_command
ldo-length m b rest o x s =
    rw (s, ne_eqb (length (0x0C ∷ b ∷ rest) - 1) 0 (λ e. omega arith), ne_eqb (length (0x0C ∷ b ∷ rest)) 0 (λ e. omega arith))

-- "Number 2 is not given for these opcodes."; 06h and 0Bh have it
pub carried :
    map (λ (op : ℕ). not_carried (transaction (op ∷ []) [] [])) (0x0C ∷ 0x0D ∷ 0x10 ∷ 0x13 ∷ 0x90 ∷ 0x06 ∷ 0x0B ∷ [])
    ≡ false ∷ false ∷ false ∷ false ∷ false ∷ true ∷ true ∷ []
unfolding not_carried is_command is_write is_flash is_read
carried = refl
