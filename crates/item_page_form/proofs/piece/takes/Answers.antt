-- `item_page_form::piece::takes` meets its contract. Assumes nothing.
use borrow.Author.Rules.{rules}
use borrow.Author.Tests.{lt-ltb, le-ltb, eq-eqb, ne_eqb}
use Rattle.item_page_form.specs.OwnForm.{takes}
use Rattle.item_page_form.proofs.piece.takes.Goals as goal

pub returns-in-35-to-38 : goal.returns-in-35-to-38
unfolding takes
returns-in-35-to-38 c = search (rules, lt-ltb, le-ltb, eq-eqb, ne_eqb)

pub returns-in-35-to-38-2 : goal.returns-in-35-to-38-2
unfolding takes
returns-in-35-to-38-2 c = search (rules, lt-ltb, le-ltb, eq-eqb, ne_eqb)

pub returns-in-60-to-62 : goal.returns-in-60-to-62
unfolding takes
returns-in-60-to-62 c = search (rules, lt-ltb, le-ltb, eq-eqb, ne_eqb)

pub returns-in_default : goal.returns-in_default
unfolding takes
returns-in_default c = search (rules, lt-ltb, le-ltb, eq-eqb, ne_eqb)

pub returns-in_default-2 : goal.returns-in_default-2
unfolding takes
returns-in_default-2 c = search (rules, lt-ltb, le-ltb, eq-eqb, ne_eqb)

pub returns-in_default-3 : goal.returns-in_default-3
unfolding takes
returns-in_default-3 c = search (rules, lt-ltb, le-ltb, eq-eqb, ne_eqb)
