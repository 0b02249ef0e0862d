-- `item_page_code::fields::put_hits` meets its contract. Assumes nothing.
use mathlib.Core.List.{[], ◌++◌}
use Rattle.numeral.specs.Ascii.{ascii}
use Rattle.text.proofs.Putting.{puts_none}
use Rattle.numeral.specs.Print.{decimal}
use Rattle.item_page.specs.Row.{plural}
use Rattle.item_page.specs.Registers.{hits_text}
use Rattle.item_page_form.specs.OwnForm.{piece_then, takes, filled}
use Rattle.item_page_code.proofs.Rows.{part, ◌and◌, put-text, counted, put-as-two}
use borrow.Author.Rules.{rules}
use Rattle.item_page_code.proofs.fields.put_hits.Goals as goal

pub returns : goal.returns
unfolding ascii piece_then takes filled hits_text
returns c = put-as-two (λ s t. ascii "STOP " ++ plural s " hit" ++ ascii ", TIMOUT " ++ decimal t ++ ascii " us") c.stop_row.ensures c.timeout_row.ensures (put-text (c.put_form.ensures.on [] _ _ (puts_none _ _)) (part (ascii "STOP ") and counted c.stop_row.result " hit" and part (ascii ", TIMOUT ") and part (decimal c.timeout_row.result) and part (ascii " us")))
