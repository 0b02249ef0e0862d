-- The numbers of a state stay within their types. Assumes nothing.
use Prim.Native.Nat.{ℕ, ◌+◌}
use native.Mathlib.Omega.{arith}
use mathlib.Core.Path.{sym, subst}
use Rattle.item_answer.specs.declared.Carried.{Carried}
use Rattle.item_answer.specs.declared.Counts.{Counts}
use Rattle.item_replay_code.specs.declared.State.{State}
use Rattle.item_replay_code.specs.declared.Turn.{Turn}
use Rattle.item_replay_code.specs.OwnState.{Few}
use Rattle.item_replay_code.specs.OwnTurn.{LineDone}

pub few-add : (s t : Counts) (n : ℕ) → Few s n → Few t 80
    → Few
    record {
      calls = s.calls + t.calls;
      refused = s.refused + t.refused;
      unannounced = s.unannounced + t.unannounced;
      bad = s.bad + t.bad;
      expectations = s.expectations + t.expectations;
      differ = s.differ + t.differ;
    }
    (n + 80)
few-add s t n f g = record {
  calls = omega (arith, f.calls, g.calls);
  refused = omega (arith, f.refused, g.refused);
  unannounced = omega (arith, f.unannounced, g.unannounced);
  bad = omega (arith, f.bad, g.bad);
  expectations = omega (arith, f.expectations, g.expectations);
  differ = omega (arith, f.differ, g.differ);
}

-- What a line added is told by the turn.
pub done-own : {s : State} {to end : ℕ} {c : Carried} {more : Counts} {t : Turn} → LineDone s to c more end t → LineDone s to c t.adds end t
done-own {s} {to} {end} {c} {more} {t} d = subst (λ a. LineDone s to c a end t) (sym d.adds) d
