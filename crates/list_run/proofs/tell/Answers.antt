-- `list_run::tell` meets its contract.
use Prim.Native.Nat.{◌+◌, ◌-◌}
use native.Mathlib.Omega.{arith}
use mathlib.Core.Path.{◌≡◌, refl}
use Rattle.call_list.specs.CallList.{answers_after}
use Rattle.list_run.proofs.tell.Goals as goal

pub returns : goal.returns
unfolding answers_after
returns c =
    let start = c.args in
    let f : start.at + 5 - (start.at + 1) ≡ 4 = omega arith in
    let k = rw f at c.put_answer-code.ensures in
    rw (k.0, k.1, f) refl
