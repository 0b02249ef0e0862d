-- `item_page_code::run::put_awaited` meets its contract. Assumes nothing.
use mathlib.Core.List.{[]}
use borrow.Author.Tests.{eq-eqb, ne_eqb}
use Rattle.numeral.specs.Ascii.{ascii}
use Rattle.text.proofs.Putting.{puts, puts_none}
use Rattle.item_page.specs.Page.{awaited_text}
use Rattle.item_page_form.specs.OwnForm.{piece_then, takes, filled}
use Rattle.item_page_code.proofs.Rows.{part, ◌and◌, put-text, counted}
use borrow.Author.Rules.{rules}
use Rattle.item_page_code.proofs.run.put_awaited.Goals as goal

pub returns-then-left-eq0 : goal.returns-then-left-eq0
unfolding ascii awaited_text
returns-then-left-eq0 c = rw (eq-eqb _ _ c.if-left-eq0.true) (puts c.put_text.ensures)

pub returns : goal.returns
unfolding ascii piece_then takes filled awaited_text
returns c = rw (ne_eqb _ _ c.if-left-eq0.false) (put-text (c.put_form.ensures.on [] _ _ (puts_none _ _)) (part (ascii "awaited, fails in ") and counted c.args.k.left.0 " tick"))
