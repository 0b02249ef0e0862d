-- What a stretch means: its end, the ticks that it names, and when it is turned away.
use Prim.Native.Nat.{ℕ, zero, suc, ◌+◌, ◌≤◌, ◌<◌}
use native.Mathlib.Omega.{arith}
use mathlib.Core.Path.{◌≡◌, refl, ap, sym, ◌∙◌}
use mathlib.Core.Bool.{Bool, true, false}
use borrow.Author.Tests.{le-ltb, lt-ltb}
use Rattle.unit.proofs.Cases.{by-test, by_eqb}
use Rattle.device.specs.declared.Schedule.{Schedule}
use Rattle.device.specs.declared.Model.{Model}
use Rattle.device.specs.declared.Reply.{Reply}
use Rattle.device.specs.Model.{is_sound}
use Rattle.device.specs.Tick.{tick_model}
use Rattle.device.specs.Stretch.{model_ticked, schedule_ticked, last_tick}
use Rattle.device.specs.StretchSteps.{progress}
use Rattle.device.specs.Call.{tick, stretch}
use Rattle.device.specs.Reply.{refuse, reply}
use Rattle.device.specs.History.{after}
use Rattle.device.specs.Plain.{single_ticks}
use Rattle.device.proofs.Sound.{keeps-sound}
use Rattle.device.proofs.Replies.{reply-tick, reply-stretch}
use Rattle.device.proofs.Stretch.{ticked-later}
use Rattle.refusal.specs.declared.Refusal.{Refusal}

-- "with the same end as n single ticks"
after-singles : (n : ℕ) (m : Model) → is_sound m ≡ true → after m (single_ticks n) ≡ model_ticked n m
unfolding after single_ticks model_ticked
after-singles zero m s = refl
after-singles (suc n) m s =
    let e : (reply m tick).model ≡ tick_model m = ap (λ (r : Reply). r.model) (reply-tick m s) in
    let o : 1 + n ≡ suc n = omega arith in
    after-singles n (reply m tick).model (keeps-sound m tick s) ∙ ap (model_ticked n) e ∙ ticked-later n 1 m ∙
    ap (λ i. model_ticked i m) o

pub same_end :
    (n : ℕ) (m : Model) →
    is_sound m ≡ true →
    n ≤ 16384 →
    (reply m (stretch n)).model ≡ after m (single_ticks n)
unfolding progress
same_end n m s l = rw (reply-stretch m s n, le-ltb 16384 n l) (sym (after-singles n m s))

-- "number 12, span, for a larger n, after number 0"
pub span-refused : (n : ℕ) (m : Model) → is_sound m ≡ true → 16384 < n → reply m (stretch n) ≡ refuse Refusal.Span m
span-refused n m s l = rw (reply-stretch m s n, lt-ltb 16384 n l)

-- A tick that is named is one of the n, and does what the test asks; where none is named, none does.
pub named-happens :
    (test : Schedule → Bool) (k : Schedule) (n i : ℕ) →
    last_tick test k n ≡ i + 1 →
    (i < n) × (test (schedule_ticked i k) ≡ true)
unfolding last_tick
named-happens test k zero i e = absurd (omega arith)
named-happens test k (suc n) i e =
    by-test (test (schedule_ticked n k))
    (λ t.
    let q : n + 1 ≡ i + 1 = rw t at e in
    let p : i ≡ n = omega arith in
    (omega arith, rw p t))
    (λ t. let (l, h) = named-happens test k n i (rw t at e) in (omega arith, h))

pub none-happens :
    (test : Schedule → Bool) (k : Schedule) (n i : ℕ) →
    last_tick test k n ≡ 0 →
    i < n →
    test (schedule_ticked i k) ≡ false
unfolding last_tick
none-happens test k zero i e l = absurd (omega arith)
none-happens test k (suc n) i e l =
    by-test (test (schedule_ticked n k))
    (λ t. let q : n + 1 ≡ 0 = rw t at e in absurd (omega arith))
    (λ t. by_eqb i n (λ p _. rw p t) (λ d _. none-happens test k n i (rw t at e) (omega arith)))
