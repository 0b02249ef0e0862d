-- `item_page_code::date::put_alarm` meets its contract. Assumes nothing.
use borrow.Author.Tests.{eq-eqb, ne_eqb}
use Rattle.numeral.specs.Ascii.{ascii}
use Rattle.text.proofs.Putting.{puts}
use Rattle.item_page.specs.Registers.{alarm_text}
use borrow.Author.Rules.{rules}
use Rattle.item_page_code.proofs.date.put_alarm.Goals as goal

pub returns-then-mode-eq0 : goal.returns-then-mode-eq0
unfolding ascii alarm_text
returns-then-mode-eq0 c = rw (eq-eqb _ _ c.if-mode-eq0.true) (puts c.put_text.ensures)

pub returns-then-mode-eq1 : goal.returns-then-mode-eq1
unfolding ascii alarm_text
returns-then-mode-eq1 c = rw (ne_eqb _ _ c.if-mode-eq0.false, eq-eqb _ _ c.if-mode-eq1.true) (puts c.put_text-then-mode-eq1.ensures)

pub returns-then-mode-eq2 : goal.returns-then-mode-eq2
unfolding ascii alarm_text
returns-then-mode-eq2 c = rw (ne_eqb _ _ c.if-mode-eq0.false, ne_eqb _ _ c.if-mode-eq1.false, eq-eqb _ _ c.if-mode-eq2.true) (puts c.put_text-then-mode-eq2.ensures)

pub returns : goal.returns
unfolding ascii alarm_text
returns c = rw (ne_eqb _ _ c.if-mode-eq0.false, ne_eqb _ _ c.if-mode-eq1.false, ne_eqb _ _ c.if-mode-eq2.false) (puts c.put_text-2.ensures)
