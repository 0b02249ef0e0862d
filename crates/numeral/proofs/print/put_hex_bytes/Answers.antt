-- `numeral::print::put_hex_bytes` meets its contract.
-- Assumes nothing.
use Prim.Native.Nat.{ℕ, ◌+◌, ◌*◌, ◌<◌}
use mathlib.Core.List.{List}
use native.Mathlib.Omega.{arith}
use lib.ListN.{length}
use borrow.Author.Tests.{le-leb, lt-leb}
use Rattle.numeral.specs.Place.{no_room, Put}
use Rattle.numeral.specs.Print.{hex_bytes}
use Rattle.numeral.proofs.PlaceLaws.{put-done, put_refused}
use Rattle.numeral.proofs.PrintLaws.{length-hex-bytes}
use Rattle.numeral.proofs.print.put_hex_bytes.Goals as goal
use Rattle.numeral.proofs.print.put_hex_bytes.Goals.{else-at-buf-via-then-at-buf+else-bytes-buf, else-at-buf-via-else-at-buf}

refused : (l : List ℕ) (at : ℕ) (bs : List ℕ) → length l < at + 2 * length bs → Put l at (hex_bytes bs) no_room l
refused l at bs h = put_refused l at (hex_bytes bs) (2 * length bs) (length-hex-bytes bs) (lt-leb (at + 2 * length bs) (length l) h)

pub returns-then-bytes-buf : goal.returns-then-bytes-buf
returns-then-bytes-buf c =
    let a = c.args in
    put-done _ _ _ _ (length-hex-bytes _) (le-leb (a.at + 2 * length a.bytes.now) (length a.buf.now) (omega arith)) c.fill_hex_bytes.ensures

pub returns-else-at-buf : goal.returns-else-at-buf
returns-else-at-buf c =
    let a = c.args in
    elim c.else-at-buf.branch [
      | else-at-buf-via-then-at-buf+else-bytes-buf w ↦ refused a.buf.now a.at a.bytes.now (omega arith)
      | else-at-buf-via-else-at-buf w ↦ refused a.buf.now a.at a.bytes.now (omega arith)
    ]
