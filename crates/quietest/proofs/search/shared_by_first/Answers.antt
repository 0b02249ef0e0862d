use Prim.Native.Nat.{◌+◌, ◌-◌}
use native.Mathlib.Omega.{arith}
use Rattle.quietest.proofs.Join.{extremes-join}
use Rattle.quietest.proofs.search.shared_by_first.Goals as goal

pub returns : goal.returns
returns c =
    let args = c.args in
    extremes-join args.values.now (args.from + args.half - 1) (args.count - args.half) (args.width + 1 - args.count)
    (args.from + args.count - 1) (args.width + 1 - args.half) (omega arith) (omega arith) (omega arith)
    c.extremes_of.ensures c.requires.shared_value c.joined.ensures
