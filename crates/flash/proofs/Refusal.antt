-- What the tests of numbers 16 and 17 mean in plain numbers.
use Prim.Native.Nat.{ℕ, ◌%◌, ◌≤◌, ◌<◌}
use native.Mathlib.Omega.{arith}
use mathlib.Core.Path.{◌≡◌, refl}
use mathlib.Core.Logic.{◌↔◌, ◌⊎◌, inl, inr, ⊎_elim}
use mathlib.Core.Bool.{true, false}
use mathlib.Core.List.{List}
use Rattle.unit.proofs.Cases.{by-ltb, by_eqb, holds, fails}
use Rattle.flash.specs.Flash.{flash_word, wrong_size, odd_address, beyond, address_refused, erase_refused, not_erased}
use Rattle.flash.specs.Operation.{write, erase, InRange}

-- "16 flash address for a memory of another size, an odd address in a read or write, or one above 1FFFh"
pub address-refused :
    (size a : ℕ) →
    (address_refused size a ≡ true) ↔ ((¬ (size ≡ 8192)) ⊎ ((a % 2 ≡ 1) ⊎ (0x1FFF < a)))
unfolding wrong_size odd_address beyond address_refused
address-refused size a =
    by_eqb size 8192
    (λ e t. by_eqb (a % 2) 1
    (λ o u. rw (t, u) (holds (inr (inl o))))
    (λ o u. by-ltb 0x1FFF a
    (λ h v. rw (t, u, v) (holds (inr (inr h))))
    (λ h v. rw (t, u, v) (fails false (⊎_elim (λ n. n e) (⊎_elim o (λ l. omega arith)))))))
    (λ n t. rw t (holds (inl n)))

pub erase-refused : (size a : ℕ) → (erase_refused size a ≡ true) ↔ ((¬ (size ≡ 8192)) ⊎ (0x1FFF < a))
unfolding wrong_size beyond erase_refused
erase-refused size a =
    by_eqb size 8192
    (λ e t. by-ltb 0x1FFF a
    (λ h u. rw (t, u) (holds (inr h)))
    (λ h u. rw (t, u) (fails false (⊎_elim (λ n. n e) (λ l. omega arith)))))
    (λ n t. rw t (holds (inl n)))

-- what is left: an even address of a whole word for a read or a write, any address for an erase
pub address-accepted :
    (size a : ℕ) →
    (address_refused size a ≡ false) ↔ ((size ≡ 8192) × (a % 2 ≡ 0) × (a ≤ 0x1FFE))
unfolding wrong_size odd_address beyond address_refused
address-accepted size a =
    by_eqb size 8192
    (λ e t. by_eqb (a % 2) 1
    (λ o u. rw (t, u) (fails true (λ m. omega arith)))
    (λ o u. by-ltb 0x1FFF a
    (λ h v. rw (t, u, v) (fails true (λ m. omega arith)))
    (λ h v. rw (t, u, v) (holds (omega arith)))))
    (λ n t. rw t (fails true (λ m. n m.0)))

pub erase-accepted : (size a : ℕ) → (erase_refused size a ≡ false) ↔ ((size ≡ 8192) × (a ≤ 0x1FFF))
unfolding wrong_size beyond erase_refused
erase-accepted size a =
    by_eqb size 8192
    (λ e t. by-ltb 0x1FFF a
    (λ h u. rw (t, u) (fails true (λ m. omega arith)))
    (λ h u. rw (t, u) (holds (omega arith))))
    (λ n t. rw t (fails true (λ m. n m.0)))

-- an operation in range is one that number 16 does not refuse, with a word of 16 bits
pub write-in-range : (a w : ℕ) → InRange (write a w) ↔ ((address_refused 8192 a ≡ false) × (w < 65536))
write-in-range a w = (
  λ r. ((address-accepted 8192 a).1 (refl, r.0, r.1), r.2),
  λ m. let t = (address-accepted 8192 a).0 m.0 in (t.1, t.2, m.1),
)

pub erase-in-range : (a : ℕ) → InRange (erase a) ↔ (erase_refused 8192 a ≡ false)
erase-in-range a = (λ r. (erase-accepted 8192 a).1 (refl, r), λ t. ((erase-accepted 8192 a).0 t).1)

-- "A write lands only on FFFFh"
pub not-erased : (mem : List ℕ) (a : ℕ) → (not_erased mem a ≡ true) ↔ (¬ (flash_word mem a ≡ 0xFFFF))
unfolding not_erased
not-erased mem a =
    by_eqb (flash_word mem a) 0xFFFF
    (λ e t. rw t (fails false (λ n. n e)))
    (λ n t. rw t (holds n))
