-- `item_page_code::commands::put_refused` meets its contract. Assumes nothing.
use borrow.Author.Rules.{rules}
use mathlib.Core.Bool.{false}
use mathlib.Core.Path.{◌≡◌}
use lib.Dec.{eqb}
use Rattle.numeral.specs.Ascii.{ascii}
use Rattle.text.specs.Text.{text_where}
use Rattle.text.proofs.Putting.{puts_none, puts_then, puts_first}
use Rattle.item_page.specs.Page.{answer_text}
use Rattle.refusal.specs.declared.Refusal.{Refusal}
use Rattle.refusal.specs.Number.{number}
use Rattle.item_page_code.proofs.commands.put_refused.Goals as goal

pub returns-then-eq : goal.returns-then-eq
unfolding ascii answer_text text_where
returns-then-eq c =
    let e : c.args.refusal ≡ Refusal.SetUp = search rules in
    rw e (puts_then (rw e at c.put_refusal-a.ensures) (puts_first c.put_text-b.ensures c.put_fields.ensures))

pub returns : goal.returns
unfolding answer_text text_where
returns c =
    let t : eqb (number c.args.refusal) 9 ≡ false = search rules in
    rw t (puts_then c.put_refusal-a.ensures (puts_none _ _))
