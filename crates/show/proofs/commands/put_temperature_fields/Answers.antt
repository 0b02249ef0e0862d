-- `show::commands::put_temperature_fields` meets its contract.
-- Assumes nothing.
use borrow.Author.Rules.{rules}
use borrow.Author.Tests.{eq-eqb, ne_eqb}
use Rattle.wording.proofs.Each.{put-none, put_first}
use Rattle.numeral.specs.Ascii.{ascii}
use Rattle.page.specs.Commands.{temperature_fields}
use Rattle.show.proofs.commands.put_temperature_fields.Goals as goal

pub returns-then-w-eq3 : goal.returns-then-w-eq3
unfolding ascii temperature_fields
returns-then-w-eq3 c = rw (c.if-judged.true, eq-eqb _ _ c.if-w-eq3.true) (put-none _ _)

pub returns-then-judged : goal.returns-then-judged
unfolding ascii temperature_fields
returns-then-judged c = rw (c.if-judged.true, ne_eqb _ _ c.if-w-eq3.false) (put_first c.put_text-a.ensures c.put_binary.ensures)

pub returns : goal.returns
unfolding temperature_fields
returns c = rw c.if-judged.false (put-none _ _)
