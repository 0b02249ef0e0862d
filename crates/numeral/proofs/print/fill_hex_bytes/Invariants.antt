-- `numeral::print::fill_hex_bytes` meets its contract. The invariant: the digits of the first i bytes are in their places.
use Rattle.std.proofs.Common.{◌≡◌, ◌*◌, length, take}
use Rattle.numeral.specs.Place.{overwrite}
use Rattle.numeral.specs.Print.{hex_bytes}
use Rattle.numeral.proofs.print.fill_hex_bytes.Given as goal

abbrev pub invariant-loop-i : goal.invariant-loop-i
invariant-loop-i l =
    (length l.buf ≡ length l.initial.buf) × (l.buf ≡ overwrite l.initial.buf l.at (take (2 * l.i) (hex_bytes l.bytes)))
