-- `list_run::transact` meets its contract.
use Prim.Native.Nat.{◌+◌, ◌-◌}
use native.Mathlib.Omega.{arith}
use mathlib.Core.Path.{◌≡◌, refl}
use Rattle.list_run.proofs.transact.Goals as goal

pub sound_transaction-requires : goal.sound_transaction-requires
sound_transaction-requires c = c.requires.0

pub returns : goal.returns
returns c =
    let start = c.args in
    let f : start.p.frames + start.e.first - start.p.frames ≡ start.e.first = omega arith in
    let o : start.p.output + start.e.second - start.p.output ≡ start.e.second = omega arith in
    let k = rw (f, o) at c.sound_transaction.ensures in
    (k.0, rw (k.1, o) refl, k.2)
