-- `item_page_code::run::put_event` meets its contract. Assumes nothing.
use mathlib.Core.List.{[]}
use Rattle.numeral.specs.Ascii.{ascii}
use Rattle.text.proofs.Putting.{puts, puts_none}
use Rattle.numeral.specs.Print.{decimal}
use Rattle.item_page.specs.Page.{event_text}
use Rattle.item_page_form.specs.OwnForm.{piece_then, takes, filled}
use Rattle.item_page_code.proofs.Rows.{part, ◌and◌, put-text}
use borrow.Author.Rules.{rules}
use Rattle.item_page_code.proofs.run.put_event.Goals as goal

pub returns-then-in_event : goal.returns-then-in_event
unfolding ascii piece_then takes filled event_text
returns-then-in_event c = let k = c.args.k in rw (← c.in_event.ensures, c.if-in_event.true) (put-text (c.put_form.ensures.on [] _ _ (puts_none _ _)) (part (decimal k.started) and part (ascii " of ") and part (decimal k.planned) and part (ascii " started, ") and part (decimal k.settled) and part (ascii " settled, ") and part (decimal k.good) and part (ascii " good")))

pub returns : goal.returns
unfolding ascii event_text
returns c = rw (← c.in_event.ensures, c.if-in_event.false) (puts c.put_text.ensures)
