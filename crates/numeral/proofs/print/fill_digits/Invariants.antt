-- `numeral::print::fill_digits` meets its contract. The invariant: to put the digits that are left gives what is to be written.
use Rattle.std.proofs.Common.{◌≡◌, length}
use Rattle.numeral.specs.Digit.{digits}
use Rattle.numeral.specs.Place.{overwrite}
use Rattle.numeral.proofs.print.fill_digits.Given as goal

abbrev pub invariant-loop-i : goal.invariant-loop-i
invariant-loop-i l =
    (length l.buf ≡ length l.initial.buf) × (overwrite l.buf l.at (digits l.base l.i l.rest) ≡ overwrite l.initial.buf l.at (digits l.base l.count l.v))
