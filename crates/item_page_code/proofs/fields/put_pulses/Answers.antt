-- `item_page_code::fields::put_pulses` meets its contract. Assumes nothing.
use mathlib.Core.List.{[], ◌++◌}
use borrow.Author.Tests.{eq-eqb, ne_eqb}
use Rattle.numeral.specs.Ascii.{ascii}
use Rattle.text.proofs.Putting.{puts, puts_none}
use Rattle.item_page.specs.Row.{plural}
use Rattle.item_page.specs.Registers.{pulses}
use Rattle.item_page_form.specs.OwnForm.{piece_then, takes, filled}
use Rattle.item_page_code.proofs.Rows.{part, ◌and◌, put-text, counted, put_as}
use borrow.Author.Rules.{rules}
use Rattle.item_page_code.proofs.fields.put_pulses.Goals as goal

pub returns-then-pl-eq0 : goal.returns-then-pl-eq0
unfolding ascii pulses
returns-then-pl-eq0 c = rw (eq-eqb _ _ c.if-pl-eq0.true) (puts c.put_text.ensures)

pub returns : goal.returns
unfolding ascii piece_then takes filled pulses
returns c = rw (ne_eqb _ _ c.if-pl-eq0.false) (put_as (λ n. ascii "PL " ++ plural n " pulse") c.launched.ensures (put-text (c.put_form.ensures.on [] _ _ (puts_none _ _)) (part (ascii "PL ") and counted c.launched.result " pulse")))
