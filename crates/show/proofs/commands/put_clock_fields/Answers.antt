-- `show::commands::put_clock_fields` meets its contract.
-- Assumes nothing.
use borrow.Author.Rules.{rules}
use Rattle.wording.proofs.Each.{put-none}
use Rattle.numeral.specs.Ascii.{ascii}
use Rattle.page.specs.Commands.{clock_fields}
use Rattle.show.proofs.commands.put_clock_fields.Goals as goal

pub returns-then-judged : goal.returns-then-judged
unfolding ascii clock_fields
returns-then-judged c = rw c.if-judged.true c.put_where.ensures

pub returns : goal.returns
unfolding clock_fields
returns c = rw c.if-judged.false (put-none _ _)
