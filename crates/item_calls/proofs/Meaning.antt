-- "N single ticks": the stretches of a line of ticks end as so many single ticks do. Assumes nothing.
use Prim.Native.Nat.{ℕ, zero, suc, ◌+◌, ◌-◌, ◌≤◌, min}
use mathlib.Core.Bool.{true}
use mathlib.Core.Path.{◌≡◌, ap, ◌∙◌}
use native.Mathlib.Omega.{arith}
use borrow.Author.Tests.{le-ltb}
use Rattle.unit.proofs.Cases.{by_eqb}
use Rattle.device.specs.declared.Model.{Model}
use Rattle.device.specs.Model.{is_sound}
use Rattle.device.specs.Call.{Call}
use Rattle.device.specs.Reply.{reply}
use Rattle.device.specs.Stretch.{model_ticked}
use Rattle.device.specs.StretchSteps.{progress}
use Rattle.device.proofs.Replies.{reply-stretch}
use Rattle.device.proofs.Sound.{keeps-sound}
use Rattle.device.proofs.Stretch.{ticked-later}
use Rattle.item_calls.specs.Lines.{onward, ticked}

stretch-end : (n : ℕ) (m : Model) → is_sound m ≡ true → n ≤ 16384 → (reply m (Call.stretch n)).model ≡ model_ticked n m
unfolding progress
stretch-end n m sound short = rw (reply-stretch m sound n, le-ltb 16384 n short)

all-turns : (turns n before : ℕ) (m : Model) → n ≤ turns → is_sound m ≡ true → (ticked turns n before m).model ≡ model_ticked n m
unfolding ticked onward model_ticked
all-turns zero n before m enough sound = let none : n ≡ 0 = omega arith in rw none
all-turns (suc turns) n before m enough sound =
    let span = min n 16384 in
    let r = reply m (Call.stretch span) in
    by_eqb n 0 (λ none e. rw (e, none))
    (λ some e.
    let there : r.model ≡ model_ticked span m = stretch-end span m sound (omega arith) in
    let whole : span + (n - span) ≡ n = omega arith in
    let rest = all-turns turns (n - span) (before + span) r.model (omega arith) (keeps-sound m (Call.stretch span) sound) in
    rw e (rest ∙ (ap (model_ticked (n - span)) there ∙ (ticked-later (n - span) span m ∙ ap (λ (k : ℕ). model_ticked k m) whole))))

-- Of a sound model, n ticks of a line leave what n single ticks leave.
pub ticks-end : (n before : ℕ) (m : Model) → is_sound m ≡ true → (ticked n n before m).model ≡ model_ticked n m
ticks-end n before m sound = all-turns n n before m (omega arith) sound
