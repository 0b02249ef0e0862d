-- Ticks that are cut where a stretch ends are the same ticks. Assumes nothing.
use Prim.Native.Nat.{ℕ, zero, suc, ◌+◌, ◌-◌, ◌*◌, ◌≤◌, min}
use mathlib.Core.Path.{◌≡◌, refl, sym, ap, ◌∙◌}
use mathlib.Core.List.{append_assoc}
use native.Mathlib.Nat.{zero-add, add-zero}
use native.Mathlib.Omega.{arith}
use borrow.Author.Tests.{eq-eqb, ne_eqb}
use Rattle.unit.proofs.Cases.{by_eqb}
use Rattle.device.specs.declared.Model.{Model}
use Rattle.device.specs.declared.Reply.{Reply}
use Rattle.device.specs.Call.{Call}
use Rattle.device.specs.Reply.{reply}
use Rattle.item_calls.specs.Lines.{Ticks, onward, ticked}
use Rattle.tick_parts.specs.Ticks.{afterwards}

-- As many turns as ticks are enough.
pub ticked-enough : (k j n before : ℕ) (m : Model) → n ≤ k → n ≤ j → ticked k n before m ≡ ticked j n before m
unfolding ticked
ticked-enough zero zero n before m h l = refl
ticked-enough zero (suc j) n before m h l = rw (eq-eqb n 0 (omega arith))
ticked-enough (suc k) zero n before m h l = rw (eq-eqb n 0 (omega arith))
ticked-enough (suc k) (suc j) n before m h l =
    let span : ℕ = min n 16384 in
    let r : Reply = reply m (Call.stretch span) in
    by_eqb n 0 (λ none e. rw e)
    (λ some e. rw e (ap (onward r before) (ticked-enough k j (n - span) (before + span) r.model (omega arith) (omega arith))))

-- The first stretch, of ticks that have a whole one.
module _ (before : ℕ) (m : Model) where
  abbrev first : Reply
  first = reply m (Call.stretch 16384)

  abbrev later : ℕ → Ticks
  later n = ticked n n (before + 16384) first.model

  stretch-first : (turns n : ℕ) → n ≤ turns → 16384 ≤ n → ticked turns n before m ≡ onward first before (later (n - 16384))
  unfolding ticked
  stretch-first zero n h whole = absurd (omega arith)
  stretch-first (suc turns) n h whole =
      let span : min n 16384 ≡ 16384 = omega arith in
      rw (ne_eqb n 0 (λ e. omega arith), span)
      (ap (onward first before) (ticked-enough turns (n - 16384) (n - 16384) (before + 16384) first.model (omega arith) (omega arith)))

onward-afterwards : (r : Reply) (start b before : ℕ) (t : Ticks) → onward r start (afterwards t b before) ≡ afterwards (onward r start t) b before
unfolding onward
onward-afterwards r start b before t = rw append_assoc

cut-none : (b before : ℕ) (m : Model) → ticked (0 + b) (0 + b) before m ≡ afterwards (ticked 0 0 before m) b (before + 0)
unfolding ticked
cut-none b before m = rw (zero-add b, add-zero before)

-- Ticks that are cut behind whole stretches.
pub ticked-cut : (k a b before : ℕ) (m : Model) → a ≡ 16384 * k
    → ticked (a + b) (a + b) before m ≡ afterwards (ticked a a before m) b (before + a)
ticked-cut zero a b before m e = let none : a ≡ 0 = omega arith in rw none (cut-none b before m)
ticked-cut (suc k) a b before m e =
    let c : ℕ = a - 16384 in
    let r : Reply = first before m in
    let fewer : a + b - 16384 ≡ c + b = omega arith in
    let there : before + 16384 + c ≡ before + a = omega arith in
    stretch-first before m (a + b) (a + b) (omega arith) (omega arith)
    ∙ (ap (λ (n : ℕ). onward r before (later before m n)) fewer
    ∙ (ap (onward r before) (ticked-cut k c b (before + 16384) r.model (omega arith))
    ∙ (onward-afterwards r before b (before + 16384 + c) (later before m c)
    ∙ (ap (afterwards (onward r before (later before m c)) b) there
    ∙ ap (λ (t : Ticks). afterwards t b (before + a)) (sym (stretch-first before m a a (omega arith) (omega arith)))))))

-- A part of a line, and what is left of it.
pub part_cut : (n before : ℕ) (m : Model) → 1048576 ≤ n
    → ticked n n before m ≡ afterwards (ticked 1048576 1048576 before m) (n - 1048576) (before + 1048576)
part_cut n before m h =
    let whole : 1048576 + (n - 1048576) ≡ n = omega arith in
    rw whole at (ticked-cut 64 1048576 (n - 1048576) before m refl)
