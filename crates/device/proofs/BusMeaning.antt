-- Words over the bus, by the frame in plain numbers: what an accepted read puts into the output buffer, what an accepted write or
-- command makes of the model, and when numbers 3 to 5 are given for these frames.
use Prim.Native.Nat.{ℕ, ◌+◌, ◌-◌, ◌*◌, ◌/◌, ◌%◌, ◌≤◌, ◌<◌}
use native.Mathlib.Omega.{arith}
use mathlib.Core.Bool.{Bool, true, false}
use mathlib.Core.List.{List}
use mathlib.Core.Logic.{◌↔◌, ◌⊎◌, inl, inr, ⊎_elim}
use mathlib.Core.Path.{◌≡◌, sym, ◌∙◌}
use lib.ListN.{length, get_or, drop}
use lib.Dec.{ltb, leb}
use borrow.Author.Tests.{ltb-false}
use Rattle.unit.proofs.Cases.{by-test, by_eqb, by-ltb, holds, fails}
use Rattle.frame.specs.Frame.{is_command, is_write, is_read, is_flash}
use Rattle.frame.proofs.Laws.{command-means, write-means, flash-means, write_alone, read-means, read-alone, whole-means, end-means}
use Rattle.device.specs.declared.Model.{Model}
use Rattle.device.specs.Model.{with_status}
use Rattle.device.specs.Registers.{register_word, fill_words}
use Rattle.device.specs.Write.{write_model}
use Rattle.device.specs.Bus.{run_model, read_model}
use Rattle.device.specs.Call.{transaction, opcode, further, words, accepted, verdict, not_carried, wrong_length, past_registers, short_output}
use Rattle.device.specs.Reply.{accepted_model, accepted_output, reply, reply_by, output, output_by}
use Rattle.device.specs.Plain.{Command, Write, Read, Flash}
use Rattle.device.proofs.Table.{none-holds}
use Rattle.device.proofs.RegisterMeaning.{fill-bytes, fill-rest}

-- the sort of an opcode
pub is-command : (f : List ℕ) → Command f → is_command (opcode f) ≡ true
is-command f c = (command-means (opcode f)).1 c

pub is-write : (f : List ℕ) → Write f → (is_command (opcode f) ≡ false) × (is_write (opcode f) ≡ true)
is-write f w = let e = (write-means (opcode f)).1 w in ((write_alone (opcode f) e).0, e)

pub is_read_lem :
    (f : List ℕ) →
    Read f →
    (is_command (opcode f) ≡ false) × (is_write (opcode f) ≡ false) × (is_flash (opcode f) ≡ false)
is_read_lem f r = read-alone (opcode f) ((read-means (opcode f)).1 r)

-- 2 "first byte not carried", both ways
pub carried-sorts : (f o x : List ℕ) → (not_carried (transaction f o x) ≡ false) ↔ (Command f ⊎ Write f ⊎ Flash f ⊎ Read f)
unfolding not_carried
carried-sorts f o x =
    let op : ℕ = opcode f in
    by-test (is_command op) (λ c. rw c (holds (inl ((command-means op).0 c))))
    (λ c. by-test (is_write op) (λ w. rw (c, w) (holds (inr (inl ((write-means op).0 w)))))
    (λ w. by-test (is_flash op) (λ u. rw (c, w, u) (holds (inr (inr (inl ((flash-means op).0 u))))))
    (λ u. by-test (is_read op) (λ r. rw (c, w, u, r) (holds (inr (inr (inr ((read-means op).0 r))))))
    (λ r.
    rw (c, w, u, r)
    (fails true
    (⊎_elim (λ y. apart (sym c ∙ (command-means op).1 y))
    (⊎_elim (λ y. apart (sym w ∙ (write-means op).1 y))
    (⊎_elim (λ y. apart (sym u ∙ (flash-means op).1 y)) (λ y. apart (sym r ∙ (read-means op).1 y))))))))))
  where
    apart : ◌≡◌ {A = Bool} false true → ⊥
    apart e = let z : ◌≡◌ {A = ℕ} 0 1 = cc in omega arith

module _ (m : Model) (f o x : List ℕ) (v : verdict m (transaction f o x) ≡ accepted) where
  read-filled : Read f → output m (transaction f o x) ≡ fill_words m (opcode f) o (words f)
  unfolding output output_by accepted_output
  read-filled r = let (c, w, u) = is_read_lem f r in rw (v, c, w, u)

  read-room : Read f → 2 * words f ≤ length o
  unfolding short_output
  read-room r =
      let (c, w, u) = is_read_lem f r in
      ltb-false (length o) (2 * words f) (rw (c, w, u) at (none-holds m (transaction f o x) v).row5)

  -- "the first 2n bytes of the output buffer are filled from consecutive registers"; "Words go high byte first."
  pub read-bytes :
      Read f →
      (i : ℕ) →
      i < (length f - 1) / 2 →
      (get_or (output m (transaction f o x)) (2 * i) 0 ≡ register_word m (get_or f 0 0 + i) / 256 % 256) ×
      (get_or (output m (transaction f o x)) (2 * i + 1) 0 ≡ register_word m (get_or f 0 0 + i) % 256)
  read-bytes r i h = rw (read-filled r) (fill-bytes m (opcode f) o (words f) i h (read-room r))

  -- "the rest of it stays"
  pub read-rest :
      Read f → (j : ℕ) → 2 * ((length f - 1) / 2) ≤ j → get_or (output m (transaction f o x)) j 0 ≡ get_or o j 0
  read-rest r j h = rw (read-filled r) (fill-rest m (opcode f) o (words f) j h)

  -- reading "clears it after the word is taken", and leaves all else
  pub read_keeps : Read f → let n : Model = (reply m (transaction f o x)).model in n ≡ with_status m n.status
  unfolding reply reply_by accepted_model read_model
  read_keeps r =
      let (c, w, u) = is_read_lem f r in
      rw (v, c, w, u)
      (by-test (ltb 0xFE (opcode f)) (λ e. rw e)
      (λ e. rw e (by-test (leb (opcode f + words f) 0xFE) (λ g. rw g) (λ g. rw g))))

  -- "n ≥ 1 words follow, to consecutive registers": those of the frame from its second byte; no byte of the output is touched
  pub write-leaves : Write f → (reply m (transaction f o x)).model ≡ write_model (drop 1 f) (get_or f 0 0) ((length f - 1) / 2) m
  unfolding reply reply_by accepted_model
  write-leaves w = let (c, e) = is-write f w in rw (v, c, e)

  pub write-output : Write f → output m (transaction f o x) ≡ o
  unfolding output output_by accepted_output
  write-output w = let (c, e) = is-write f w in rw (v, c, e)

  -- "A command is one byte."
  pub command-leaves : Command f → (reply m (transaction f o x)).model ≡ run_model m (get_or f 0 0)
  unfolding reply reply_by accepted_model
  command-leaves c = rw (v, is-command f c)

  pub command-output : Command f → output m (transaction f o x) ≡ o
  unfolding output output_by accepted_output
  command-output c = rw (v, is-command f c)

module _ (f o x : List ℕ) where
  -- 3 "a command with more bytes, or a read or write whose further bytes are not n ≥ 1 whole words"
  pub command-length : Command f → (wrong_length (transaction f o x) ≡ false) ↔ (length f - 1 ≡ 0)
  unfolding wrong_length
  command-length c =
      rw (is-command f c)
      (by_eqb (further f) 0 (λ h e. rw e (holds h)) (λ h e. rw e (fails true h)))

  pub words-length :
      Write f ⊎ Read f →
      (wrong_length (transaction f o x) ≡ false) ↔ ((length f - 1 ≡ 2 * ((length f - 1) / 2)) × (1 ≤ (length f - 1) / 2))
  unfolding wrong_length
  words-length =
      ⊎_elim (λ w. let (c, e) = is-write f w in rw (c, e) (whole-means (further f)))
      (λ r. let (c, w, u) = is_read_lem f r in rw (c, w, u) (whole-means (further f)))

  -- 4 "a write past 43h or a read past FFh"
  pub write-end : Write f → (past_registers (transaction f o x) ≡ false) ↔ (get_or f 0 0 + (length f - 1) / 2 ≤ 0x44)
  unfolding past_registers
  write-end w = let (c, e) = is-write f w in rw (c, e) (end-means (opcode f) (words f) 0x44)

  pub read-end : Read f → (past_registers (transaction f o x) ≡ false) ↔ (get_or f 0 0 + (length f - 1) / 2 ≤ 0x100)
  unfolding past_registers
  read-end r = let (c, w, u) = is_read_lem f r in rw (c, w, u) (end-means (opcode f) (words f) 0x100)

  -- 5 "a read with an output buffer below 2n bytes"
  pub read_short : Read f → (short_output (transaction f o x) ≡ false) ↔ (2 * ((length f - 1) / 2) ≤ length o)
  unfolding short_output
  read_short r =
      let (c, w, u) = is_read_lem f r in
      rw (c, w, u)
      (by-ltb (length o) (2 * words f) (λ h e. rw e (fails true (λ l. omega arith))) (λ h e. rw e (holds h)))
