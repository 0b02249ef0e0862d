-- The ticks of a line that is under way. Assumes nothing.
use Prim.Native.Nat.{ℕ, ◌+◌, ◌-◌, ◌≤◌}
use native.Mathlib.Omega.{arith}
use mathlib.Core.Bool.{Bool}
use mathlib.Core.List.{List}
use mathlib.Core.Path.{◌≡◌, refl}
use lib.ListN.{length}
use Rattle.text.specs.OwnPut.{Puts}
use Rattle.text.proofs.Putting.{puts_then}
use Rattle.item_line.specs.Line.{Expected}
use Rattle.item_answer.specs.declared.Carried.{Carried}
use Rattle.item_ticks_code.specs.declared.RanTicks.{RanTicks}
use Rattle.item_ticks_code.specs.OwnRan.{Ran}
use Rattle.item_replay_code.specs.OwnRest.{ending_of, RestRuns}

pub rest-runs :
    (c : Carried) (left first : ℕ) (differs : Bool) (x : Expected) (l k l' : List ℕ) (at end : ℕ) (r : RanTicks) →
    Ran c.model left first l at (length l - 1100) r k →
    Puts k r.end (ending_of r.left.0 differs x) end l' →
    1100 ≤ length l →
    RestRuns c left first differs x l at
    record {
      carried = record { model = r.model; moment = c.moment + (left - r.left.0); recorded = c.recorded; probes = c.probes };
      left = r.left;
      next = r.next;
      end = end;
    }
    l'
rest-runs c left first differs x l k l' at end r t e long =
    let g = t.going in
    let n = g.count in
    let ran : left - r.left.0 ≡ g.ran = omega arith in
    record {
      ran = g.ran;
      count = g.count;
      next = g.next;
      model = g.model;
      sound = g.sound;
      moment = rw ran;
      recorded = refl;
      probes = refl;
      text = puts_then g.reports e;
      room = λ h. let s = g.room (omega arith) (omega arith) in omega arith;
      some = λ h f. t.some h (omega arith);
    }
