-- What the tests of a frame mean in plain numbers.
use Prim.Native.Nat.{ℕ, ◌+◌, ◌-◌, ◌*◌, ◌/◌, ◌%◌, ◌≤◌, ◌<◌}
use native.Mathlib.Omega.{arith}
use mathlib.Core.Path.{◌≡◌, refl, sym}
use mathlib.Core.Logic.{◌↔◌, ◌⊎◌, inl, inr, ⊎_elim}
use mathlib.Core.Bool.{true, false}
use mathlib.Core.List.{List, [], ◌∷◌}
use lib.ListN.{get_or}
use lib.Dec.{ltb, leb}
use borrow.Author.Tests.{lt-ltb, le-ltb}
use Rattle.unit.specs.Choice.{both}
use Rattle.unit.proofs.Cases.{by-test, by-ltb, by-leb, by_eqb, holds, fails, refuted}
use Rattle.frame.specs.Frame.{is_command, is_write, is_read, is_flash, flash_further, not_whole, past_end, word_at}
use Rattle.frame.specs.Decoding.{write_frame, read_frame}
use Rattle.frame.specs.declared.Decoded.TheVariants.{Read, Write}

-- "commands 00h to 05h and 07h to 0Ah"; "LDO_ON (0Ch), LDO_OFF (0Dh)" (Note 8)
pub command-means :
    (op : ℕ) →
    (is_command op ≡ true) ↔ ((op ≤ 0x05) ⊎ ((0x07 ≤ op) × (op ≤ 0x0A)) ⊎ ((0x0C ≤ op) × (op ≤ 0x0D)))
unfolding is_command
command-means op =
    by-ltb 0x0D op
    (λ h t. rw t (fails false (⊎_elim (λ l. omega arith) (⊎_elim (λ m. omega arith) (λ m. omega arith)))))
    (λ h t. by_eqb op 0x06
    (λ e u. rw (t, u) (fails false (⊎_elim (λ l. omega arith) (⊎_elim (λ m. omega arith) (λ m. omega arith)))))
    (λ n u. by_eqb op 0x0B
    (λ e v. rw (t, u, v) (fails false (⊎_elim (λ l. omega arith) (⊎_elim (λ m. omega arith) (λ m. omega arith)))))
    (λ k v. rw (t, u, v)
    (holds
    (by-ltb op 0x06 (λ l _. inl (omega arith))
    (λ l _. by-ltb op 0x0B (λ i _. inr (inl (omega arith))) (λ i _. inr (inr (omega arith)))))))))

-- "read (90h), write (10h) and block erase (13h)" (Note 8)
pub flash-means : (op : ℕ) → (is_flash op ≡ true) ↔ ((op ≡ 0x90) ⊎ (op ≡ 0x10) ⊎ (op ≡ 0x13))
unfolding is_flash
flash-means op =
    by_eqb op 0x90
    (λ e t. rw t (holds (inl e)))
    (λ n t. by_eqb op 0x10
    (λ e u. rw (t, u) (holds (inr (inl e))))
    (λ k u. by_eqb op 0x13
    (λ e v. rw (t, u, v) (holds (inr (inr e))))
    (λ j v. rw (t, u, v) (fails false (⊎_elim n (⊎_elim k j))))))

-- "a length other than five bytes, for erase three" (Note 8), the opcode among them
pub flash-lengths : (1 + flash_further 0x90) ∷ (1 + flash_further 0x10) ∷ (1 + flash_further 0x13) ∷ [] ≡ 5 ∷ 5 ∷ 3 ∷ []
unfolding flash_further
flash-lengths = refl

within : (low high op : ℕ) → (both (leb low op) (leb op high) ≡ true) ↔ ((low ≤ op) × (op ≤ high))
within low high op =
    by-leb low op
    (λ h t. by-leb op high
    (λ k u. rw (t, u) (holds (omega arith)))
    (λ k u. rw (t, u) (fails false (λ m. omega arith))))
    (λ h t. rw t (fails false (λ m. omega arith)))

-- "30h to 43h write"
pub write-means : (op : ℕ) → (is_write op ≡ true) ↔ ((0x30 ≤ op) × (op ≤ 0x43))
unfolding is_write
write-means op = within 0x30 0x43 op

-- "B0h to FFh read"
pub read-means : (op : ℕ) → (is_read op ≡ true) ↔ ((0xB0 ≤ op) × (op ≤ 0xFF))
unfolding is_read
read-means op = within 0xB0 0xFF op

-- an opcode is of one sort
command-most : (op : ℕ) → is_command op ≡ true → op ≤ 0x0D
command-most op c = ⊎_elim (λ l. omega arith) (⊎_elim (λ m. omega arith) (λ m. m.1)) ((command-means op).0 c)

flash-least : (op : ℕ) → is_flash op ≡ true → (0x10 ≤ op) × (op ≤ 0x90)
flash-least op f = ⊎_elim (λ e. omega arith) (⊎_elim (λ e. omega arith) (λ e. omega arith)) ((flash-means op).0 f)

not-write : (op : ℕ) → is_flash op ≡ true → is_write op ≡ true → ⊥
not-write op f w =
    ⊎_elim (λ e. omega (arith, (write-means op).0 w))
    (⊎_elim (λ e. omega (arith, (write-means op).0 w)) (λ e. omega (arith, (write-means op).0 w)))
    ((flash-means op).0 f)

pub flash-alone : (op : ℕ) → is_flash op ≡ true → (is_command op ≡ false) × (is_write op ≡ false) × (is_read op ≡ false)
flash-alone op f = (
  refuted (is_command op) (λ c. omega (arith, command-most op c, flash-least op f)),
  refuted (is_write op) (not-write op f),
  refuted (is_read op) (λ r. omega (arith, flash-least op f, (read-means op).0 r)),
)

pub command-alone : (op : ℕ) → is_command op ≡ true → (is_write op ≡ false) × (is_read op ≡ false)
command-alone op c = (
  refuted (is_write op) (λ w. omega (arith, command-most op c, (write-means op).0 w)),
  refuted (is_read op) (λ r. omega (arith, command-most op c, (read-means op).0 r)),
)

pub write_alone : (op : ℕ) → is_write op ≡ true → (is_command op ≡ false) × (is_read op ≡ false)
write_alone op w = (
  refuted (is_command op) (λ c. omega (arith, command-most op c, (write-means op).0 w)),
  refuted (is_read op) (λ r. omega (arith, (read-means op).0 r, (write-means op).0 w)),
)

pub read-alone : (op : ℕ) → is_read op ≡ true → (is_command op ≡ false) × (is_write op ≡ false) × (is_flash op ≡ false)
read-alone op r = (
  refuted (is_command op) (λ c. omega (arith, command-most op c, (read-means op).0 r)),
  refuted (is_write op) (λ w. omega (arith, (write-means op).0 w, (read-means op).0 r)),
  refuted (is_flash op) (λ f. omega (arith, flash-least op f, (read-means op).0 r)),
)

-- "n ≥ 1 whole words"
pub whole-means : (further : ℕ) → (not_whole further ≡ false) ↔ ((further ≡ 2 * (further / 2)) × (1 ≤ further / 2))
unfolding not_whole
whole-means further =
    by_eqb further 0
    (λ e t. rw t (fails true (λ m. omega arith)))
    (λ n t. by_eqb (further % 2) 1
    (λ e u. rw (t, u) (fails true (λ m. omega arith)))
    (λ k u. rw (t, u) (holds (omega arith))))

pub end-means : (op words end : ℕ) → (past_end op words end ≡ false) ↔ (op + words ≤ end)
unfolding past_end
end-means op words end =
    by-ltb end (op + words) (λ h t. rw t (fails true (λ m. omega arith))) (λ h t. rw t (holds (omega arith)))

-- the same by a difference, so that no sum can overflow
pub past_all : (op words end : ℕ) → end < words → true ≡ past_end op words end
unfolding past_end
past_all op words end h = sym (lt-ltb end (op + words) (omega arith))

pub past-rest : (op words end : ℕ) → words ≤ end → ltb (end - words) op ≡ past_end op words end
unfolding past_end
past-rest op words end h =
    by-ltb end (op + words)
    (λ l t. rw (t, lt-ltb (end - words) op (omega arith)))
    (λ l t. rw (t, le-ltb (end - words) op (omega arith)))

-- an accepted write or read: "n ≥ 1 words", no "write past 43h" or "read past FFh", no "output buffer below 2n bytes"
pub write-accepted :
    (op further r n : ℕ) →
    write_frame op further ≡ Write r n →
    (r ≡ op) × (further ≡ 2 * n) × (1 ≤ n) × (op + n ≤ 0x44)
unfolding write_frame
write-accepted op further r n =
    by-test (not_whole further)
    (λ t. rw t (λ e. let z : ◌≡◌ {A = ℕ} 0 1 = cc in absurd (omega arith)))
    (λ t. by-test (past_end op (further / 2) 0x44)
    (λ u. rw (t, u) (λ e. let z : ◌≡◌ {A = ℕ} 0 1 = cc in absurd (omega arith)))
    (λ u. rw (t, u) (λ e.
    let first : op ≡ r = cc in
    let words : further / 2 ≡ n = cc in
    omega (arith, (whole-means further).0 t, (end-means op (further / 2) 0x44).0 u))))

pub read-accepted :
    (op further room r n : ℕ) →
    read_frame op further room ≡ Read r n →
    (r ≡ op) × (further ≡ 2 * n) × (1 ≤ n) × (op + n ≤ 0x100) × (2 * n ≤ room)
unfolding read_frame
read-accepted op further room r n =
    by-test (not_whole further)
    (λ t. rw t (λ e. let z : ◌≡◌ {A = ℕ} 0 1 = cc in absurd (omega arith)))
    (λ t. by-test (past_end op (further / 2) 0x100)
    (λ u. rw (t, u) (λ e. let z : ◌≡◌ {A = ℕ} 0 1 = cc in absurd (omega arith)))
    (λ u. by-ltb room (2 * (further / 2))
    (λ h v. rw (t, u, v) (λ e. let z : ◌≡◌ {A = ℕ} 0 1 = cc in absurd (omega arith)))
    (λ h v. rw (t, u, v) (λ e.
    let first : op ≡ r = cc in
    let words : further / 2 ≡ n = cc in
    omega (arith, (whole-means further).0 t, (end-means op (further / 2) 0x100).0 u)))))

-- "Words go high byte first"
pub word-means :
    (bytes : List ℕ) (i : ℕ) →
    get_or bytes (2 * i + 1) 0 < 256 →
    (word_at bytes i / 256 ≡ get_or bytes (2 * i) 0) × (word_at bytes i % 256 ≡ get_or bytes (2 * i + 1) 0)
unfolding word_at
word-means bytes i h = omega arith
