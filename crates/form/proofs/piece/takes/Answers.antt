-- `form::piece::takes` meets its contract.
-- Assumes nothing.
use Rattle.std.proofs.Common.{arith}
use Rattle.std.proofs.lemmas.Bool.Decides.{nat_tests}
use Rattle.form.specs.Form.{takes}
use Rattle.form.proofs.piece.takes.Goals as goal

pub returns-in-60-to-62 : goal.returns-in-60-to-62
unfolding takes
returns-in-60-to-62 c = grind (arith, nat_tests)

pub returns-in_default : goal.returns-in_default
unfolding takes
returns-in_default c = grind (arith, nat_tests)

pub returns-in_default-2 : goal.returns-in_default-2
unfolding takes
returns-in_default-2 c = grind (arith, nat_tests)

pub returns-in_default-3 : goal.returns-in_default-3
unfolding takes
returns-in_default-3 c = grind (arith, nat_tests)

pub returns-in-35-to-38 : goal.returns-in-35-to-38
unfolding takes
returns-in-35-to-38 c = grind (arith, nat_tests)

pub returns-in-35-to-38-2 : goal.returns-in-35-to-38-2
unfolding takes
returns-in-35-to-38-2 c = grind (arith, nat_tests)
