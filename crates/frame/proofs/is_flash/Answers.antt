-- `frame::is_flash` meets its contract.
use Prim.Native.Nat.{ℕ}
use mathlib.Core.Path.{◌≡◌, refl}
use mathlib.Core.Logic.{◌⊎◌, inl, inr}
use mathlib.Core.Bool.{true, false}
use borrow.Author.Tests.{ne_eqb}
use Rattle.frame.specs.Frame.{is_flash}
use Rattle.frame.proofs.is_flash.Goals as goal

named : (op : ℕ) → (op ≡ 0x10) ⊎ ((op ≡ 0x13) ⊎ (op ≡ 0x90)) → true ≡ is_flash op
unfolding is_flash
named op (inl e) = rw e refl
named op (inr (inl e)) = rw e refl
named op (inr (inr e)) = rw e refl

other : (op : ℕ) → ¬ ((op ≡ 0x10) ⊎ ((op ≡ 0x13) ⊎ (op ≡ 0x90))) → false ≡ is_flash op
unfolding is_flash
other op n =
    rw (ne_eqb op 0x90 (λ e. n (inr (inr e))), ne_eqb op 0x10 (λ e. n (inl e)), ne_eqb op 0x13 (λ e. n (inr (inl e)))) refl

pub returns-in-144 : goal.returns-in-144
returns-in-144 c = named _ c.in-144.is

pub returns-in_default : goal.returns-in_default
returns-in_default c = other _ c.in_default.in_default-own.rest.1
