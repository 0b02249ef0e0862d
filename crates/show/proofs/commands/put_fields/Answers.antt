-- `show::commands::put_fields` meets its contract.
-- Assumes nothing.
use borrow.Author.Rules.{rules}
use Rattle.wording.proofs.Each.{put_then}
use Rattle.page.specs.Commands.{fields}
use Rattle.show.proofs.commands.put_fields.Goals as goal

pub returns : goal.returns
unfolding fields
returns c = rw (← c.starts_flight.ensures, ← c.word.ensures, ← c.starts_temperature.ensures, ← c.word-2.ensures, ← c.is_event.ensures, ← c.word-3.ensures) (put_then c.put_flight_fields-a.ensures (put_then c.put_temperature_fields-b.ensures c.put_clock_fields.ensures))
