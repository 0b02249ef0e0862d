-- `item_questions::register_lines::put_awaited` meets its contract.
-- Assumes nothing.
use Rattle.item_questions.specs.Answers.{awaited}
use Rattle.item_questions.proofs.register_lines.put_awaited.Goals as goal

pub returns : goal.returns
unfolding awaited
returns c = rw (← c.flight_awaited.ensures.same, ← c.value-flight.ensures, ← c.temperature_awaited.ensures.same, ← c.value-temperature.ensures) c.put_awaited.ensures
