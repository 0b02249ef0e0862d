use Prim.Native.Nat.{◌+◌, ◌-◌}
use native.Mathlib.Omega.{arith}
use Rattle.quietest.proofs.Join.{extremes-join}
use Rattle.quietest.proofs.search.shared_by_second.Goals as goal

pub returns : goal.returns
returns c =
    let args = c.args in
    extremes-join args.values.now (args.from + args.count - 1) (args.width + 1 - args.count) args.half
    (args.from + args.width) (args.width + 1 - (args.count - args.half)) (omega arith) (omega arith) (omega arith)
    c.requires.shared_value c.extremes_of.ensures c.joined.ensures
