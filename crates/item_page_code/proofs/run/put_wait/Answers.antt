-- `item_page_code::run::put_wait` meets its contract. Assumes nothing.
use mathlib.Core.List.{[]}
use Rattle.numeral.specs.Ascii.{ascii}
use Rattle.text.proofs.Putting.{puts, puts_none}
use Rattle.item_page.specs.Page.{wait_text}
use Rattle.item_page_form.specs.OwnForm.{piece_then, takes, filled}
use Rattle.item_page_code.proofs.Rows.{part, ◌and◌, put-text, counted}
use borrow.Author.Rules.{rules}
use Rattle.item_page_code.proofs.run.put_wait.Goals as goal

pub returns-then-starts_left : goal.returns-then-starts_left
unfolding ascii piece_then takes filled wait_text
returns-then-starts_left c = rw (← c.starts_left.ensures, c.if-starts_left.true) (put-text (c.put_form.ensures.on [] _ _ (puts_none _ _)) (part (ascii "in ") and counted c.args.k.wait.0 " tick"))

pub returns : goal.returns
unfolding ascii wait_text
returns c = rw (← c.starts_left.ensures, c.if-starts_left.false) (puts c.put_text.ensures)
