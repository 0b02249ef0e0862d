-- `phrase::bus::put_started` meets its contract.
-- Assumes nothing.
use Rattle.std.proofs.Common.{rules}
use Rattle.numeral.specs.Ascii.{ascii}
use Rattle.wording.specs.Wording.{started}
use Rattle.wording.proofs.Each.{put_one}
use Rattle.phrase.proofs.bus.put_started.Goals as goal

pub returns-then-temperature : goal.returns-then-temperature
unfolding ascii started
returns-then-temperature c = rw (c.if-flight.true, c.if-temperature.true) (put_one c.put_text.ensures)

pub returns-then-flight : goal.returns-then-flight
unfolding ascii started
returns-then-flight c = rw (c.if-flight.true, c.if-temperature.false) (put_one c.put_text-then-flight.ensures)

pub returns-then-temperature-2 : goal.returns-then-temperature-2
unfolding ascii started
returns-then-temperature-2 c = rw (c.if-flight.false, c.if-temperature-2.true) (put_one c.put_text-then-temperature-2.ensures)

pub returns : goal.returns
unfolding ascii started
returns c = rw (c.if-flight.false, c.if-temperature-2.false) (put_one c.put_text-2.ensures)
