-- `numeral::print::fill_low_bytes` meets its contract. The invariant: the low bytes of the first i words are in their places.
use Rattle.std.proofs.Common.{◌≡◌, length, take}
use Rattle.numeral.specs.Place.{overwrite}
use Rattle.numeral.specs.Print.{low_bytes}
use Rattle.numeral.proofs.print.fill_low_bytes.Given as goal

abbrev pub invariant-loop-i : goal.invariant-loop-i
invariant-loop-i l =
    (length l.buf ≡ length l.initial.buf) × (l.buf ≡ overwrite l.initial.buf l.at (take l.i (low_bytes l.words)))
