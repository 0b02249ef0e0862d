-- `frame::is_command` meets its contract.
use Prim.Native.Nat.{ℕ}
use mathlib.Core.Path.{◌≡◌, refl}
use mathlib.Core.Logic.{◌⊎◌, inl, inr}
use mathlib.Core.Bool.{false}
use lib.Dec.{leb}
use borrow.Author.Tests.{lt-leb, le-leb}
use Rattle.unit.proofs.Cases.{by-ltb, by_eqb}
use Rattle.frame.specs.Frame.{is_command}
use Rattle.frame.proofs.is_command.Goals as goal

aside : (op : ℕ) → (op ≡ 6) ⊎ (op ≡ 11) → false ≡ is_command op
unfolding is_command
aside op (inl e) = rw e refl
aside op (inr e) = rw e refl

kept : (op : ℕ) → ¬ ((op ≡ 6) ⊎ (op ≡ 11)) → leb op 13 ≡ is_command op
unfolding is_command
kept op n =
    by-ltb 13 op
    (λ h t. rw (t, lt-leb op 13 h) refl)
    (λ h t. by_eqb op 6 (λ e u. absurd (n (inl e))) (λ k u. by_eqb op 11 (λ e v. absurd (n (inr e))) (λ j v. rw (t, u, v, le-leb op 13 h) refl)))

pub returns-in-6 : goal.returns-in-6
returns-in-6 c = aside _ c.in-6.is

pub returns-in_default : goal.returns-in_default
returns-in_default c = kept _ c.in_default.in_default-own.rest.1
