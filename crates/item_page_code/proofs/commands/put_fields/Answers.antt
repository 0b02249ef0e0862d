-- `item_page_code::commands::put_fields` meets its contract. Assumes nothing.
use mathlib.Core.List.{[], ◌++◌}
use Rattle.unit.specs.Choice.{pick}
use Rattle.item_page.specs.Page.{flight_fields, temperature_fields, clock_fields, fields}
use Rattle.item_page_code.proofs.Rows.{puts-spaced}
use borrow.Author.Rules.{rules}
use Rattle.item_page_code.proofs.commands.put_fields.Goals as goal

pub returns : goal.returns
unfolding fields
returns c = let a = pick c.starts_flight.result (flight_fields c.word.result) [] in let b = pick c.starts_temperature.result (temperature_fields c.word-2.result) [] in let d = pick c.is_event.result (clock_fields c.word-3.result) [] in rw (← c.starts_flight.ensures, ← c.word.ensures, ← c.starts_temperature.ensures, ← c.word-2.ensures, ← c.is_event.ensures, ← c.word-3.ensures) (puts-spaced (a ++ b) d (puts-spaced a b c.put_flight_fields-a.ensures c.put_temperature_fields-b.ensures) c.put_clock_fields.ensures)
