-- `show::put_page` meets its contract.
-- Assumes nothing.
use Rattle.show.proofs.Rows.{page-rows}
use Rattle.wording.proofs.Each.{put_then}
use mathlib.Core.Path.{◌∙◌}
use borrow.Author.Rules.{rules}
use Rattle.show.proofs.put_page.Goals as goal

pub returns : goal.returns
returns c = page-rows c.args.m (put_then (c.put_registers-a.ensures c.args.m c.page_words-words.ensures (c.value.ensures ∙ rw c.regulator_on.ensures.same)) (put_then c.put_run-b.ensures c.put_commands.ensures))
