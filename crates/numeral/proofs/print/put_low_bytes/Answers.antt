-- `numeral::print::put_low_bytes` meets its contract.
-- Assumes nothing.
use Prim.Native.Nat.{◌+◌, ◌≤◌}
use mathlib.Core.Path.{sym, ◌∙◌}
use native.Mathlib.Omega.{arith}
use lib.ListN.{length}
use borrow.Author.Tests.{leb-true}
use Rattle.numeral.proofs.PrintLaws.{length-low-bytes}
use Rattle.numeral.proofs.PlaceLaws.{put-done, put_refused}
use Rattle.numeral.proofs.print.put_low_bytes.Goals as goal

pub fill_low_bytes-requires : goal.fill_low_bytes-requires
fill_low_bytes-requires c = leb-true _ _ (sym c.has_room.ensures ∙ c.if-has_room.true)

pub overflow_add-result : goal.overflow_add-result
overflow_add-result c =
    let a = c.args in
    let room : a.at + length a.words.now ≤ length a.buf.now = leb-true _ _ (sym c.has_room.ensures ∙ c.if-has_room.true) in
    omega arith

pub returns-then-has_room : goal.returns-then-has_room
returns-then-has_room c = put-done _ _ _ _ (length-low-bytes _) (sym c.has_room.ensures ∙ c.if-has_room.true) c.fill_low_bytes.ensures

pub returns-else-has_room : goal.returns-else-has_room
returns-else-has_room c = put_refused _ _ _ _ (length-low-bytes _) (sym c.has_room.ensures ∙ c.if-has_room.false)
