-- Lists of calls with long stretches, computed by the steps that the code takes: the same answers, outputs and end as tick by tick.
use Prim.Native.Nat.{ℕ, zero, suc, ◌-◌}
use mathlib.Core.Bool.{true}
use mathlib.Core.List.{List, [], ◌∷◌, ◌++◌}
use mathlib.Core.Path.{◌≡◌, refl, ap, sym, ◌∙◌}
use lib.Dec.{ltb, leb, eqb}
use borrow.Author.Tests.{leb-true, le-ltb, eqb-true}
use Rattle.unit.specs.Choice.{pick, both}
use Rattle.unit.proofs.Cases.{by-test}
use Rattle.unit.proofs.Joined.{both_true}
use Rattle.device.specs.declared.Model.{Model}
use Rattle.device.specs.declared.Reply.{Reply}
use Rattle.device.specs.declared.Progress.{Progress}
use Rattle.device.specs.declared.Answer.TheVariants.{Stretched}
use Rattle.device.specs.Model.{is_sound}
use Rattle.device.specs.StretchSteps.{progress, moved}
use Rattle.device.specs.Call.{Call, transaction, tick, flight, temperature, stretch}
use Rattle.device.specs.Reply.{reply, output}
use Rattle.device.specs.History.{Entry, after, log}
use Rattle.device.proofs.Sound.{keeps-sound}
use Rattle.device.proofs.Replies.{reply-stretch}
use Rattle.ticking.proofs.Quiet.{step-moves}

-- A stretch moved on towards its n ticks, in so many steps.
unfoldable pub moves : ℕ → ℕ → Progress → Progress
moves zero n p = p
moves (suc steps) n p = pick (ltb p.done.0 n) (moves steps n (moved (n - p.done.0) p)) p

moves-on :
    (m : Model) (steps n : ℕ) (p : Progress) → p ≡ progress m p.done.0 → moves steps n p ≡ progress m (moves steps n p).done.0
unfolding moves progress
moves-on m zero n p e = e
moves-on m (suc steps) n p e =
    let q = ap (moved (n - p.done.0)) e ∙ step-moves m p.done.0 (n - p.done.0) in
    by-test (ltb p.done.0 n)
    (λ l. rw l
    (moves-on m steps n (moved (n - p.done.0) p) (q ∙ ap (progress m) (sym (ap (λ (r : Progress). r.done.0) q)))))
    (λ l. rw l e)

-- The reply to a call: to a stretch by the steps, where they reach its end.
unfoldable pub reply_to : Progress → ℕ → Reply → Reply
reply_to p n r =
    pick (both (leb n 16384) (eqb p.done.0 n)) (record { answer = Stretched p.flight p.temperature; model = p.model }) r

unfoldable pub quick_reply : Model → Call → Reply
quick_reply m (transaction f o x) = reply m (transaction f o x)
quick_reply m tick = reply m tick
quick_reply m (flight u d) = reply m (flight u d)
quick_reply m (temperature w) = reply m (temperature w)
quick_reply m (stretch n) = reply_to (moves 8 n (progress m 0)) n (reply m (stretch n))

same-reply : (m : Model) (c : Call) → is_sound m ≡ true → quick_reply m c ≡ reply m c
unfolding quick_reply reply_to progress
same-reply m (transaction f o x) s = refl
same-reply m tick s = refl
same-reply m (flight u d) s = refl
same-reply m (temperature w) s = refl
same-reply m (stretch n) s =
    let p : Progress = moves 8 n (progress m 0) in
    by-test (both (leb n 16384) (eqb p.done.0 n))
    (λ e.
    let (l, d) = both_true _ _ e in
    let q : p ≡ progress m n = moves-on m 8 n (progress m 0) refl ∙ ap (progress m) (eqb-true p.done.0 n d) in
    rw (e, q, reply-stretch m s n, le-ltb 16384 n (leb-true n 16384 l)))
    (λ e. rw e)

-- What the transactions of a list put out, one after another; and a list's log, outputs and end.
unfoldable pub outputs : Model → List Call → List ℕ
outputs m [] = []
outputs m (c ∷ cs) = output m c ++ outputs (reply m c).model cs

pub record Run : Type 0 where
  pub log : List Entry
  pub outputs : List ℕ
  pub end : Model

unfoldable pub quick_run : Model → List Call → Run
quick_run m [] = record { log = []; outputs = []; end = m }
quick_run m (c ∷ cs) =
    let r : Reply = quick_reply m c in
    let later : Run = quick_run r.model cs in
    record {
      log = record { call = c; answer = r.answer } ∷ later.log;
      outputs = output m c ++ later.outputs;
      end = later.end;
    }

pub same-run :
    (m : Model) (cs : List Call) →
    is_sound m ≡ true →
    record { log = log m cs; outputs = outputs m cs; end = after m cs } ≡ quick_run m cs
unfolding log outputs after quick_run
same-run m [] s = refl
same-run m (c ∷ cs) s = rw (same-reply m c s, ← same-run (reply m c).model cs (keeps-sound m c s))
