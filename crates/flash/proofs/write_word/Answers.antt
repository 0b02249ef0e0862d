-- `flash::write_word` meets its contract.
use Prim.Native.Nat.{◌+◌, ◌-◌}
use native.Mathlib.Omega.{arith}
use mathlib.Core.Path.{◌≡◌}
use Rattle.flash.proofs.Bytes.{part-written}
use Rattle.flash.proofs.write_word.Goals as goal

pub returns : goal.returns
returns c =
    let start = c in
    let two : c.args.a + 2 - c.args.a ≡ 2 = omega arith in
    rw (c.put_word.ensures, two)
    (part-written c.args.mem.now c.args.a c.args.w c.requires.0)
