-- `numeral::read::hex_digit` meets its contract: below 16, the library's value of a digit is that of `digit_of`.
-- Assumes nothing.
use Rattle.std.proofs.Common.{◌≡◌, ◌<◌, ℕ, SomeIff, arith}
use Rattle.std.specs.Prelude.{Option, Some, None}
use Rattle.std.specs.Char.{digit_value}
use Rattle.std.proofs.lemmas.Bool.Decides.{nat_tests}
use Rattle.numeral.specs.Digit.{digit_of}
use Rattle.numeral.proofs.read.hex_digit.Goals as goal

same : (c : ℕ) → digit_value c < 16 → digit_of c ≡ digit_value c
unfolding digit_of
same c h = grind (arith, nat_tests)

below : (c : ℕ) → digit_of c < 16 → digit_value c < 16
unfolding digit_of
below c h = grind (arith, nat_tests)

counts : (c : ℕ) (o : Option ℕ) → SomeIff o (digit_value c < 16) (digit_value c) → SomeIff o (digit_of c < 16) (digit_of c)
counts c None h = λ less. h (below c less)
counts c (Some d) h = let e = same c h.0 in rw e h

pub returns : goal.returns
returns c = counts _ _ (rw c.from.ensures at c.to_digit.ensures.value)
