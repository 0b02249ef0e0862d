-- `item_page_code::run::put_next` meets its contract. Assumes nothing.
use mathlib.Core.Path.{sym, ◌∙◌}
use Rattle.numeral.specs.Ascii.{ascii}
use Rattle.text.proofs.Putting.{puts, puts_none, puts_then}
use Rattle.item_page.specs.Page.{next_text}
use Rattle.item_page_code.proofs.Rows.{put_same, next-on, next-group}
use borrow.Author.Rules.{rules}
use Rattle.item_page_code.proofs.run.put_next.Goals as goal

pub returns-then-k : goal.returns-then-k
unfolding ascii
returns-then-k c = put_same (next-on c.args.k (sym c.in_event.ensures ∙ c.if-in_event.true) c.if-k.true) (puts_then c.put_wait-a.ensures (puts c.put_text.ensures))

pub returns-then-in_event : goal.returns-then-in_event
returns-then-in_event c = put_same (next-group c.args.k (sym c.in_event.ensures ∙ c.if-in_event.true) c.if-k.false) (puts_then c.put_wait-a.ensures (puts_none _ _))

pub returns : goal.returns
unfolding ascii next_text
returns c = rw (← c.in_event.ensures, c.if-in_event.false) (puts c.put_text-2.ensures)
