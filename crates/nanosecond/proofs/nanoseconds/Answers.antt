use mathlib.Core.Path.{refl}
use lib.Count.{count_trailing_zeros}
use lib.Ieee.{of_bits, of_fields, odd}
use Rattle.nanosecond.proofs.Exact.{conversion}
use Rattle.nanosecond.proofs.nanoseconds.Goals as goal

-- what the constants' bits stand for is computed
pub returns : goal.returns
unfolding of_bits of_fields odd count_trailing_zeros
returns c = rw c.from.ensures (conversion c.args.quanta c.ranges.quanta refl refl)
