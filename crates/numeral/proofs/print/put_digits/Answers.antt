-- `numeral::print::put_digits` meets its contract.
-- Assumes nothing.
use Prim.Native.Nat.{◌+◌, ◌≤◌}
use mathlib.Core.Path.{sym, ◌∙◌}
use native.Mathlib.Omega.{arith}
use lib.ListN.{length}
use borrow.Author.Tests.{leb-true}
use Rattle.numeral.proofs.DigitLaws.{length_digits}
use Rattle.numeral.proofs.PlaceLaws.{put-done, put_refused}
use Rattle.numeral.proofs.print.put_digits.Goals as goal

pub fill_digits-requires : goal.fill_digits-requires
fill_digits-requires c =
    (c.requires.0, c.requires.1, leb-true _ _ (sym c.has_room.ensures ∙ c.if-has_room.true))

pub overflow_add-result : goal.overflow_add-result
overflow_add-result c =
    let a = c.args in
    let room : a.at + a.count ≤ length a.buf.now = leb-true _ _ (sym c.has_room.ensures ∙ c.if-has_room.true) in
    omega arith

pub returns-then-has_room : goal.returns-then-has_room
returns-then-has_room c = put-done _ _ _ _ (length_digits _ _ _) (sym c.has_room.ensures ∙ c.if-has_room.true) c.fill_digits.ensures

pub returns-else-has_room : goal.returns-else-has_room
returns-else-has_room c =
    put_refused _ _ _ _ (length_digits _ _ _) (sym c.has_room.ensures ∙ c.if-has_room.false)
