-- `phrase::ticks::quiet` meets its contract.
-- Assumes nothing.
use Rattle.std.proofs.Common.{◌≡◌, Bool, true, false, cond, not, refl}
use Rattle.wording.specs.Wording.{quiet}
use Rattle.phrase.proofs.ticks.quiet.Goals as goal

pub returns-then-flight : goal.returns-then-flight
unfolding quiet
returns-then-flight c = rw c.if-flight.true

pub returns-then-flight-2 : goal.returns-then-flight-2
unfolding quiet
returns-then-flight-2 c = rw (c.if-flight.false, c.if-flight-2.true)

pub returns-then-temperature : goal.returns-then-temperature
unfolding quiet
returns-then-temperature c = rw (c.if-flight.false, c.if-flight-2.false, c.if-temperature.true)

failed : (b : Bool) → not b ≡ cond b false true
failed true = refl
failed false = refl

pub returns : goal.returns
unfolding quiet
returns c = rw (c.if-flight.false, c.if-flight-2.false, c.if-temperature.false) (failed c.args.temperature.failed)
