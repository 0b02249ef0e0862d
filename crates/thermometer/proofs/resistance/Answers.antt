-- `thermometer::resistance` meets its contract.
use Rattle.thermometer.specs.Degrees.{resistance}
use Rattle.thermometer.proofs.resistance.Goals as goal

pub returns : goal.returns
unfolding resistance
returns c = rw (c.from.ensures, c.from-2.ensures)
