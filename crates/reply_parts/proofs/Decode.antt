-- A decoded frame: what is known of it, and that its parts give the reply and the output of the whole transaction.
use Prim.Native.Nat.{ℕ, ◌+◌, ◌-◌, ◌*◌, ◌/◌, ◌≤◌}
use native.Mathlib.Omega.{arith}
use mathlib.Core.Bool.{Bool, true, false}
use mathlib.Core.List.{List}
use mathlib.Core.Path.{◌≡◌, refl, sym}
use lib.ListN.{length, get_or, take, drop, length-drop}
use lib.Seq.{take_all}
use lib.Dec.{ltb, leb, eqb}
use borrow.Author.Tests.{ltb-false, le-leb, leb-true, eqb-true, eq-eqb, ne_eqb}
use Rattle.unit.specs.Choice.{both}
use Rattle.unit.proofs.Cases.{by-test}
use Rattle.frame.specs.Frame.{is_command, is_write, is_read, is_flash, flash_further, not_whole, past_end}
use Rattle.frame.specs.Decoding.{write_frame, read_frame, flash_frame, decode_frame}
use Rattle.frame.specs.declared.Decoded.{Decoded}
use Rattle.frame.specs.declared.Decoded.TheVariants.{Command, Read, Write, Flash, Refused}
use Rattle.frame.proofs.Laws.{write-means, read-means, whole-means, end-means}
use Rattle.device.specs.declared.Model.{Model}
use Rattle.device.specs.declared.Reply.{Reply}
use Rattle.device.specs.Model.{is_sound, is_busy}
use Rattle.device.specs.Write.{write_invalid}
use Rattle.device.specs.Bus.{command_busy, before_initialize, command_unset}
use Rattle.device.specs.Call.{Call, transaction, opcode, further, words, verdict, table, first_of}
use Rattle.device.specs.Reply.{refuse, buffer_of, memory_of, reply, reply_by, output, output_by, memory, memory_by}
use Rattle.device.specs.Call.{no_frame, not_carried, wrong_length, past_registers, short_output, while_busy, supply_off, unreachable, unerased, bad_calendar, not_initialised, bad_setup, not_awaited, miscounted, too_long}
use Rattle.device.specs.Reply.{accepted_answer, accepted_model, accepted_output, accepted_memory}
use Rattle.device.specs.Parts.{command_reply, write_reply, read_reply, read_output, read_fits, frame_fits}
use Rattle.device.specs.Parts.{erase_reply, erase_left, program_reply, program_left, load_reply, load_out, flash_reply, flash_out, flash_left, flash_fits, flash_frame_reply, flash_frame_output, flash_frame_memory, words_reply}
use Rattle.flash.specs.Flash.{address_refused, erase_refused, not_erased}
use Rattle.device.specs.FlashFrame.{flash_address, flash_unreachable, flash_unerased, flash_model, flash_output, flash_memory}
use Rattle.device.proofs.Table.{picked}
use Rattle.refusal.specs.declared.Refusal.{Refusal}

-- The bytes after the opcode, as a slice has them.
pub tail-whole : (f : List ℕ) → drop 1 f ≡ take (length f - 1) (drop 1 f)
tail-whole f = sym (take_all (length f - 1) (drop 1 f) (rw length-drop (omega arith)))

-- What is known of an accepted frame.
pub record CommandFacts (f : List ℕ) (op : ℕ) : Type 0 where
  pub opcode : op ≡ get_or f 0 0
  pub carried : is_command op ≡ true

pub record WriteFacts (f : List ℕ) (op n : ℕ) : Type 0 where
  pub first : 0x30 ≤ op
  pub last : op + n ≤ 0x44
  pub some : 1 ≤ n
  pub whole : 2 * n ≡ length f - 1
  pub opcode : op ≡ get_or f 0 0
  pub words : n ≡ (length f - 1) / 2

pub record ReadFacts (f : List ℕ) (room op n : ℕ) : Type 0 where
  pub first : 0xB0 ≤ op
  pub last : op + n ≤ 0x100
  pub some : 1 ≤ n
  pub whole : 2 * n ≡ length f - 1
  pub fits : 2 * n ≤ room
  pub opcode : op ≡ get_or f 0 0
  pub words : n ≡ (length f - 1) / 2

pub record FlashFacts (f : List ℕ) (room op : ℕ) : Type 0 where
  pub opcode : op ≡ get_or f 0 0
  pub carried : is_flash op ≡ true
  pub whole : length f - 1 ≡ flash_further op
  pub fits : op ≡ 0x90 → 2 ≤ room

abbrev Facts : List ℕ → ℕ → Decoded → Type 0
Facts f room (Command op) = CommandFacts f op
Facts f room (Write op n) = WriteFacts f op n
Facts f room (Read op n) = ReadFacts f room op n
Facts f room (Flash op) = FlashFacts f room op
Facts f room (Refused r) = Unit {0}

facts : (f : List ℕ) (room : ℕ) → Facts f room (decode_frame f room)
unfolding decode_frame write_frame read_frame flash_frame
facts f room =
    let op : ℕ = opcode f in
    let n : ℕ = words f in
    let P : Decoded → Type 0 = Facts f room in
    picked P (eqb (length f) 0) (λ z. tt)
    (λ z. picked P (is_command op)
    (λ c. picked P (eqb (further f) 0) (λ l. record { opcode = refl; carried = c }) (λ l. tt))
    (λ c. picked P (is_write op)
    (λ w. picked P (not_whole (further f)) (λ l. tt)
    (λ l. picked P (past_end op n 0x44) (λ p. tt)
    (λ p. omega (arith, (write-means op).0 w, (whole-means (further f)).0 l, (end-means op n 0x44).0 p))))
    (λ w. picked P (is_flash op)
    (λ u. picked P (eqb (further f) (flash_further op))
    (λ l. picked P (eqb op 0x90)
    (λ e. picked P (ltb room 2) (λ v. tt)
    (λ v. record { opcode = refl; carried = u; whole = eqb-true (further f) (flash_further op) l; fits = λ _. ltb-false room 2 v }))
    (λ e. record {
      opcode = refl;
      carried = u;
      whole = eqb-true (further f) (flash_further op) l;
      fits = λ q. let z : ◌≡◌ {A = ℕ} 0 1 = cc (eq-eqb op 0x90 q) in absurd (omega arith);
    }))
    (λ l. tt))
    (λ u. picked P (is_read op)
    (λ r. picked P (not_whole (further f)) (λ l. tt)
    (λ l. picked P (past_end op n 0x100) (λ p. tt)
    (λ p. picked P (ltb room (2 * n)) (λ v. tt)
    (λ v.
    omega (
      arith,
      (read-means op).0 r,
      (whole-means (further f)).0 l,
      (end-means op n 0x100).0 p,
      ltb-false room (2 * n) v,
    )))))
    (λ r. tt)))))

pub command-facts : (f : List ℕ) (room op : ℕ) → decode_frame f room ≡ Command op → CommandFacts f op
command-facts f room op e = rw e at (facts f room)

pub write-facts : (f : List ℕ) (room op n : ℕ) → decode_frame f room ≡ Write op n → WriteFacts f op n
write-facts f room op n e = rw e at (facts f room)

pub read-facts : (f : List ℕ) (room op n : ℕ) → decode_frame f room ≡ Read op n → ReadFacts f room op n
read-facts f room op n e = rw e at (facts f room)

pub flash-facts : (f : List ℕ) (room op : ℕ) → decode_frame f room ≡ Flash op → FlashFacts f room op
flash-facts f room op e = rw e at (facts f room)

-- A read that was accepted fits its registers and the buffer.
fits : (f : List ℕ) (room : ℕ) (d : Decoded) → Facts f room d → read_fits d room ≡ true
unfolding read_fits
fits f room (Command op) h = refl
fits f room (Read op n) h = rw (le-leb 0xB0 op h.first, le-leb (op + n) 0x100 h.last, le-leb (2 * n) room h.fits)
fits f room (Write op n) h = refl
fits f room (Flash op) h = refl
fits f room (Refused r) h = refl

pub read_fits_lem : (f : List ℕ) (room : ℕ) → read_fits (decode_frame f room) room ≡ true
read_fits_lem f room = fits f room (decode_frame f room) (facts f room)

-- The opcodes of the flash are apart.
apart : (op a b : ℕ) → eqb op a ≡ true → ¬ (a ≡ b) → eqb op b ≡ false
apart op a b e n = ne_eqb op b (λ q. n (omega (arith, eqb-true op a e)))

third : (op : ℕ) → is_flash op ≡ true → eqb op 0x13 ≡ false → eqb op 0x10 ≡ false → eqb op 0x90 ≡ true
unfolding is_flash
third op u e h = by-test (eqb op 0x90) (λ r. r) (λ r. let z : ◌≡◌ {A = ℕ} 0 1 = cc (rw (r, h, e) at u) in absurd (omega arith))

-- A write and a flash frame have the bytes that they need, and a flash read the room.
flash-fits : (f : List ℕ) (room op : ℕ) → FlashFacts f room op → flash_fits op (length f - 1) room ≡ true
unfolding flash_fits
flash-fits f room op = fit
  where
    fit : FlashFacts f room op → flash_fits op (length f - 1) room ≡ true
    fit h =
        unfold flash_further in
        by-test (eqb op 0x13)
        (λ a. let l = rw a at h.whole in rw (a, l))
        (λ a. by-test (eqb op 0x10)
        (λ b. let l = rw a at h.whole in rw (a, b, l))
        (λ b.
        let l = rw a at h.whole in
        let r = h.fits (eqb-true op 0x90 (third op h.carried a b)) in
        rw (a, b, l, le-leb 2 room r)))

frame-fits-of : (f : List ℕ) (room : ℕ) (d : Decoded) → Facts f room d → frame_fits d (length f - 1) room ≡ true
unfolding frame_fits
frame-fits-of f room (Command op) h = refl
frame-fits-of f room (Read op n) h = refl
frame-fits-of f room (Write op n) h =
    rw (le-leb 0x30 op h.first, le-leb (op + n) 0x44 h.last, le-leb (2 * n) (length f - 1) (omega (arith, h.whole)))
frame-fits-of f room (Flash op) h = flash-fits f room op h
frame-fits-of f room (Refused r) h = refl

pub frame-fits : (f : List ℕ) (room : ℕ) → frame_fits (decode_frame f room) (length f - 1) room ≡ true
frame-fits f room = frame-fits-of f room (decode_frame f room) (facts f room)

-- The parts of a reply, by what the frame asks for.
unfoldable pub reply_of : Model → List ℕ → List ℕ → Decoded → Reply
reply_of m f x (Command op) = command_reply m op
reply_of m f x (Write op n) = words_reply m (drop 1 f) x (Write op n)
reply_of m f x (Read op n) = words_reply m (drop 1 f) x (Read op n)
reply_of m f x (Flash op) = words_reply m (drop 1 f) x (Flash op)
reply_of m f x (Refused r) = words_reply m (drop 1 f) x (Refused r)

-- The reply, the output and the memory of a decoded frame are those of the transaction.
abbrev pub Answers : Model → List ℕ → List ℕ → List ℕ → Decoded → Type 0
Answers m f o x d =
    (reply_of m f x d ≡ reply m (transaction f o x)) ×
    (flash_frame_output m (drop 1 f) o x d ≡ output m (transaction f o x)) ×
    (flash_frame_memory m (drop 1 f) x d ≡ memory m (transaction f o x))

module _ (m : Model) (f o x : List ℕ) (s : is_sound m ≡ true) (z : eqb (length f) 0 ≡ false) where
  command-answers : is_command (opcode f) ≡ true → Answers m f o x (decode_frame f (length o))
  unfolding reply_of decode_frame reply reply_by output output_by buffer_of memory memory_by memory_of verdict table first_of no_frame not_carried wrong_length past_registers short_output while_busy supply_off unreachable unerased bad_calendar not_initialised bad_setup not_awaited miscounted too_long accepted_answer accepted_model accepted_output accepted_memory command_reply words_reply flash_frame_reply flash_frame_output flash_frame_memory read_reply read_output
  command-answers c =
      by-test (eqb (further f) 0)
      (λ l. by-test (command_busy m (opcode f))
      (λ b. simp (s, z, c, l, b) (refl, refl, refl))
      (λ b. by-test (before_initialize m (opcode f))
      (λ r. simp (s, z, c, l, b, r) (refl, refl, refl))
      (λ r. by-test (command_unset m (opcode f))
      (λ u. simp (s, z, c, l, b, r, u) (refl, refl, refl))
      (λ u. simp (s, z, c, l, b, r, u) (refl, refl, refl)))))
      (λ l. simp (s, z, c, l) (refl, refl, refl))

  module _ (c : is_command (opcode f) ≡ false) where
    write-answers : is_write (opcode f) ≡ true → Answers m f o x (decode_frame f (length o))
    unfolding reply_of decode_frame write_frame reply reply_by output output_by buffer_of memory memory_by memory_of verdict table first_of no_frame not_carried wrong_length past_registers short_output while_busy supply_off unreachable unerased bad_calendar not_initialised bad_setup not_awaited miscounted too_long accepted_answer accepted_model accepted_output accepted_memory write_reply words_reply flash_frame_reply flash_frame_output flash_frame_memory read_reply read_output
    write-answers w =
        by-test (not_whole (further f))
        (λ l. simp (s, z, c, w, l) (refl, refl, refl))
        (λ l. by-test (past_end (opcode f) (words f) 0x44)
        (λ p. simp (s, z, c, w, l, p) (refl, refl, refl))
        (λ p. by-test (is_busy m)
        (λ b. simp (s, z, c, w, l, p, b) (refl, refl, refl))
        (λ b. by-test (write_invalid (drop 1 f) (opcode f) (words f) m)
        (λ v. simp (s, z, c, w, l, p, b, v) (refl, refl, refl))
        (λ v. simp (s, z, c, w, l, p, b, v) (refl, refl, refl)))))

    module _ (w : is_write (opcode f) ≡ false) where
      read-answers : is_flash (opcode f) ≡ false → Answers m f o x (decode_frame f (length o))
      unfolding reply_of decode_frame read_frame reply reply_by output output_by buffer_of memory memory_by memory_of verdict table first_of no_frame not_carried wrong_length past_registers short_output while_busy supply_off unreachable unerased bad_calendar not_initialised bad_setup not_awaited miscounted too_long accepted_answer accepted_model accepted_output accepted_memory words_reply flash_frame_reply flash_frame_output flash_frame_memory read_reply read_output
      read-answers u =
          by-test (is_read (opcode f))
          (λ r. by-test (not_whole (further f))
          (λ l. simp (s, z, c, w, u, r, l) (refl, refl, refl))
          (λ l. by-test (past_end (opcode f) (words f) 0x100)
          (λ p. simp (s, z, c, w, u, r, l, p) (refl, refl, refl))
          (λ p. by-test (ltb (length o) (2 * words f))
          (λ v. simp (s, z, c, w, u, r, l, p, v) (refl, refl, refl))
          (λ v. simp (s, z, c, w, u, r, l, p, v) (refl, refl, refl)))))
          (λ r. simp (s, z, c, w, u, r) (refl, refl, refl))

      module _ (u : is_flash (opcode f) ≡ true) where
        -- a flash frame that decoding lets pass
        flash-answers :
            eqb (further f) (flash_further (opcode f)) ≡ true →
            both (eqb (opcode f) 0x90) (ltb (length o) 2) ≡ false →
            decode_frame f (length o) ≡ Flash (opcode f) →
            Answers m f o x (decode_frame f (length o))
        unfolding reply_of reply reply_by output output_by buffer_of memory memory_by memory_of verdict table first_of no_frame not_carried wrong_length past_registers short_output while_busy supply_off unreachable unerased bad_calendar not_initialised bad_setup not_awaited miscounted too_long accepted_answer accepted_model accepted_output accepted_memory words_reply flash_frame_reply flash_frame_output flash_frame_memory flash_reply erase_reply erase_left program_reply program_left load_reply load_out flash_out flash_left flash_unreachable flash_unerased flash_model flash_output flash_memory
        flash-answers l t d =
            by-test (is_busy m)
            (λ b. simp (s, z, c, w, u, l, t, d, b) (refl, refl, refl))
            (λ b. by-test m.regulator
            (λ g. by-test (eqb (opcode f) 0x13)
            (λ e. by-test (erase_refused (length x) (flash_address (drop 1 f)))
            (λ a. simp (s, z, c, w, u, l, t, d, b, g, e, a) (refl, refl, refl))
            (λ a.
            let h = apart (opcode f) 0x13 0x10 e (λ q. omega arith) in
            let r = apart (opcode f) 0x13 0x90 e (λ q. omega arith) in
            simp (s, z, c, w, u, l, t, d, b, g, e, h, r, a) (refl, refl, refl)))
            (λ e. by-test (address_refused (length x) (flash_address (drop 1 f)))
            (λ a. by-test (eqb (opcode f) 0x10)
            (λ h. simp (s, z, c, w, u, l, t, d, b, g, e, a, h) (refl, refl, refl))
            (λ h. simp (s, z, c, w, u, l, t, d, b, g, e, a, h) (refl, refl, refl)))
            (λ a. by-test (eqb (opcode f) 0x10)
            (λ h. by-test (not_erased x (flash_address (drop 1 f)))
            (λ n. simp (s, z, c, w, u, l, t, d, b, g, e, a, h, n) (refl, refl, refl))
            (λ n.
            let r = apart (opcode f) 0x10 0x90 h (λ q. omega arith) in
            simp (s, z, c, w, u, l, t, d, b, g, e, a, h, r, n) (refl, refl, refl)))
            (λ h.
            let r = third (opcode f) u e h in
            let v = rw r at t in
            simp (s, z, c, w, u, l, v, d, b, g, e, a, h, r) (refl, refl, refl)))))
            (λ g. simp (s, z, c, w, u, l, t, d, b, g) (refl, refl, refl)))

        decoded :
            eqb (further f) (flash_further (opcode f)) ≡ true →
            both (eqb (opcode f) 0x90) (ltb (length o) 2) ≡ false →
            decode_frame f (length o) ≡ Flash (opcode f)
        unfolding decode_frame flash_frame
        decoded l =
            by-test (eqb (opcode f) 0x90) (λ e. rw e (λ t. rw (z, c, w, u, l, t))) (λ e. rw e (λ t. rw (z, c, w, u, l)))

        short-answers :
            eqb (further f) (flash_further (opcode f)) ≡ true →
            both (eqb (opcode f) 0x90) (ltb (length o) 2) ≡ true →
            Answers m f o x (decode_frame f (length o))
        unfolding reply_of decode_frame flash_frame reply reply_by output output_by buffer_of memory memory_by memory_of verdict table first_of no_frame not_carried wrong_length past_registers short_output words_reply flash_frame_reply flash_frame_output flash_frame_memory read_reply read_output
        short-answers l =
            by-test (eqb (opcode f) 0x90)
            (λ e. rw e (λ t. simp (s, z, c, w, u, l, t) (refl, refl, refl)))
            (λ e. rw e (λ t. let k : ◌≡◌ {A = ℕ} 0 1 = cc in absurd (omega arith)))

        long-answers :
            eqb (further f) (flash_further (opcode f)) ≡ false → Answers m f o x (decode_frame f (length o))
        unfolding reply_of decode_frame flash_frame reply reply_by output output_by buffer_of memory memory_by memory_of verdict table first_of no_frame not_carried wrong_length words_reply flash_frame_reply flash_frame_output flash_frame_memory read_reply read_output
        long-answers l = simp (s, z, c, w, u, l) (refl, refl, refl)

no_bytes : (m : Model) (f o x : List ℕ) → is_sound m ≡ true → eqb (length f) 0 ≡ true → Answers m f o x (decode_frame f (length o))
unfolding reply_of decode_frame reply reply_by output output_by buffer_of memory memory_by memory_of verdict table first_of no_frame words_reply flash_frame_reply flash_frame_output flash_frame_memory read_reply read_output
no_bytes m f o x s z = simp (s, z) (refl, refl, refl)

pub answers : (m : Model) (f o x : List ℕ) → is_sound m ≡ true → Answers m f o x (decode_frame f (length o))
answers m f o x s =
    by-test (eqb (length f) 0) (no_bytes m f o x s)
    (λ z. by-test (is_command (opcode f)) (command-answers m f o x s z)
    (λ c. by-test (is_write (opcode f)) (write-answers m f o x s z c)
    (λ w. by-test (is_flash (opcode f))
    (λ u. by-test (eqb (further f) (flash_further (opcode f)))
    (λ l. by-test (both (eqb (opcode f) 0x90) (ltb (length o) 2)) (short-answers m f o x s z c w u l)
    (λ t. flash-answers m f o x s z c w u l t (decoded m f o x s z c w u l t)))
    (long-answers m f o x s z c w u))
    (read-answers m f o x s z c w))))

-- The reply, the output and the memory of a sound model: of no bytes, of a command, and of any other frame.
module _ (m : Model) (f o x : List ℕ) (s : is_sound m ≡ true) where
  pub reply-empty :
      length f ≡ 0 →
      (refuse Refusal.NoFrame m ≡ reply m (transaction f o x)) ×
      (o ≡ output m (transaction f o x)) ×
      (x ≡ memory m (transaction f o x))
  unfolding reply reply_by output output_by buffer_of memory memory_by memory_of verdict table first_of no_frame
  reply-empty e = let z = eq-eqb (length f) 0 e in rw (s, z) (refl, refl, refl)

  pub reply-command :
      (op : ℕ) →
      decode_frame f (length o) ≡ Command op →
      (command_reply m op ≡ reply m (transaction f o x)) ×
      (o ≡ output m (transaction f o x)) ×
      (x ≡ memory m (transaction f o x))
  unfolding reply_of flash_frame_output flash_frame_memory read_output
  reply-command op e = rw e at (answers m f o x s)

  pub reply-write :
      (op n : ℕ) →
      decode_frame f (length o) ≡ Write op n →
      write_reply m (drop 1 f) op n ≡ reply m (transaction f o x)
  unfolding reply_of words_reply
  reply-write op n e = (rw e at (answers m f o x s)).0

  pub reply-other :
      (d : Decoded) →
      decode_frame f (length o) ≡ d →
      ((op : ℕ) → d ≡ Command op → ⊥) →
      (words_reply m (drop 1 f) x d ≡ reply m (transaction f o x)) ×
      (flash_frame_output m (drop 1 f) o x d ≡ output m (transaction f o x)) ×
      (flash_frame_memory m (drop 1 f) x d ≡ memory m (transaction f o x))
  unfolding reply_of
  reply-other (Command op) e c = absurd (c op refl)
  reply-other (Write op n) e c = rw e at (answers m f o x s)
  reply-other (Read op n) e c = rw e at (answers m f o x s)
  reply-other (Flash op) e c = rw e at (answers m f o x s)
  reply-other (Refused r) e c = rw e at (answers m f o x s)

-- "a call of any sort is handed a model that isn't sound"
pub reply-unsound :
    (m : Model) (c : Call) →
    is_sound m ≡ false →
    (refuse Refusal.NotSound m ≡ reply m c) × (buffer_of c ≡ output m c) × (memory_of c ≡ memory m c)
unfolding reply reply_by output output_by memory memory_by verdict table first_of
reply-unsound m c s = rw s (refl, refl, refl)

-- Both tests held.
both_hold : (a b : Bool) → both a b ≡ true → (a ≡ true) × (b ≡ true)
both_hold true b e = (refl, e)
both_hold false b e = (e, cc)

-- What a decoded read keeps to.
pub read-bounds :
    (d : Decoded) (op n room : ℕ) →
    d ≡ Read op n →
    read_fits d room ≡ true →
    (0xB0 ≤ op) × (op + n ≤ 0x100) × (2 * n ≤ room)
unfolding read_fits
read-bounds d op n room e f =
    let (a, r) = both_hold (leb 0xB0 op) (both (leb (op + n) 0x100) (leb (2 * n) room)) (rw e at f) in
    let (b, x) = both_hold (leb (op + n) 0x100) (leb (2 * n) room) r in
    (leb-true _ _ a, leb-true _ _ b, leb-true _ _ x)

-- What a decoded write keeps to.
pub write-bounds :
    (d : Decoded) (op n further room : ℕ) →
    d ≡ Write op n →
    frame_fits d further room ≡ true →
    (0x30 ≤ op) × (op + n ≤ 0x44) × (2 * n ≤ further)
unfolding frame_fits
write-bounds d op n further room e f =
    let (a, r) = both_hold (leb 0x30 op) (both (leb (op + n) 0x44) (leb (2 * n) further)) (rw e at f) in
    let (b, x) = both_hold (leb (op + n) 0x44) (leb (2 * n) further) r in
    (leb-true _ _ a, leb-true _ _ b, leb-true _ _ x)

pub flash-bounds :
    (d : Decoded) (op further room : ℕ) → d ≡ Flash op → frame_fits d further room ≡ true → flash_fits op further room ≡ true
unfolding frame_fits
flash-bounds d op further room e f = rw e at f
