-- `flash::erase_block` meets its contract.
use Prim.Native.Nat.{◌+◌, ◌-◌, ◌*◌, ◌/◌}
use native.Mathlib.Omega.{arith}
use mathlib.Core.Path.{◌≡◌}
use lib.ListN.{length, take, drop, length-take}
use Rattle.std.proofs.Common.{length-drop}
use Rattle.flash.proofs.Bytes.{part-erased}
use Rattle.flash.proofs.erase_block.Goals as goal

pub returns : goal.returns
returns c =
    let start = c.args.a / 256 * 256 in
    let size : start + 256 - start ≡ 256 = omega arith in
    let part : length (take (start + 256 - start) (drop start c.args.mem.now)) ≡ 256 = simp (length-take, length-drop) (omega arith) in
    rw (c.fill.ensures.after (λ y k. k), part, size) (part-erased c.args.mem.now c.args.a (omega arith))
