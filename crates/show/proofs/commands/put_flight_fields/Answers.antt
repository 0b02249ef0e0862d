-- `show::commands::put_flight_fields` meets its contract.
-- Assumes nothing.
use borrow.Author.Rules.{rules}
use Rattle.wording.proofs.Each.{put-none, put_then}
use Rattle.numeral.specs.Ascii.{ascii}
use Rattle.page.specs.Commands.{flight_fields}
use Rattle.show.proofs.commands.put_flight_fields.Goals as goal

pub returns-then-judged : goal.returns-then-judged
unfolding ascii flight_fields
returns-then-judged c = rw c.if-judged.true (put_then c.put_where-a.ensures c.put_where.ensures)

pub returns : goal.returns
unfolding flight_fields
returns c = rw c.if-judged.false (put-none _ _)
