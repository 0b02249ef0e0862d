-- `numeral::read::value_in` meets its contract. The invariant: n is the value of the digits so far, and below 16 to the power of their count.
use Rattle.std.proofs.Common.{◌≡◌, ◌^◌, ◌<◌, drop}
use Rattle.numeral.specs.Digit.{are_digits, value_of}
use Rattle.numeral.proofs.read.value_in.Given as goal

abbrev pub invariant-loop-c : goal.invariant-loop-c
invariant-loop-c l =
    (l.n < 16 ^ l.c-index) × (are_digits l.base (drop l.c-index l.s) ≡ are_digits l.base l.s) × (value_of l.base l.n (drop l.c-index l.s) ≡ value_of l.base 0 l.s)
