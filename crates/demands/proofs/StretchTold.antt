-- What is told of a stretch against what is told of its single ticks.
use Prim.Native.Nat.{ℕ, zero, suc, ◌≤◌}
use native.Mathlib.Omega.{arith}
use mathlib.Core.Path.{◌≡◌}
use mathlib.Core.Bool.{true}
use Rattle.device.specs.declared.Model.{Model}
use Rattle.device.specs.Event.{begins, fails}
use Rattle.device.specs.Tick.{tick_model}
use Rattle.device.specs.Stretch.{model_ticked, last_tick}
use Rattle.device.specs.Model.{is_sound}
use Rattle.device.specs.History.{Kind}
use Rattle.demands.specs.EventHistory.{Plan, History, note_tick, note_ticks}
use Rattle.device.proofs.Stretch.{schedule_of, start-named, failure-named}

-- What each tick keeps of what was told, a stretch keeps: up to tick j of its n.
pub over-ticks :
    (k : Kind) (p : Plan) (P : History → Model → Type 0) →
    ((h : History) (m : Model) → P h m → is_sound m ≡ true) →
    ((h : History) (m : Model) → P h m → P (note_tick p (begins (schedule_of k m)) (fails (schedule_of k m)) h) (tick_model m)) →
    (m : Model) (h : History) (n j : ℕ) →
    n ≤ 16384 →
    j ≤ n →
    P h m →
    P (note_ticks p j (last_tick begins (schedule_of k m) n) (last_tick fails (schedule_of k m) n) h) (model_ticked j m)
unfolding note_ticks model_ticked
over-ticks k p P sound each m h n zero l u i = i
over-ticks k p P sound each m h n (suc j) l u i =
    let s = sound h m i in
    rw (start-named m s k n j (omega arith) l, failure-named m s k n j (omega arith) l)
    (each _ (model_ticked j m) (over-ticks k p P sound each m h n j l (omega arith) i))
