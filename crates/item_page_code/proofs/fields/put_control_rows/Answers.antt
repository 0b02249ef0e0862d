-- `item_page_code::fields::put_control_rows` meets its contract. Assumes nothing.
use mathlib.Core.Path.{◌∙◌}
use native.Mathlib.Omega.{arith}
use lib.ListN.{drop}
use Rattle.numeral.specs.Ascii.{ascii}
use Rattle.text.proofs.Putting.{puts, puts_then}
use Rattle.item_page.specs.Row.{stored_row, names_or}
use Rattle.item_page.specs.Registers.{setup_rows, timing1_text, timing2_text, control_names, oscillator_text}
use Rattle.item_page_form.specs.OwnForm.{piece_then, takes, filled}
use Rattle.item_page_code.specs.OwnWords.{word_at}
use Rattle.item_page_code.proofs.Rows.{part, register, no_rows, put-rows}
use borrow.Author.Rules.{rules}
use Rattle.item_page_code.proofs.fields.put_control_rows.Goals as goal

pub bounds-words-19 : goal.bounds-words-19
bounds-words-19 c = omega (arith, c.requires)

pub shape_of-buf : goal.shape_of-buf
shape_of-buf c = c.put_text.auto.buf ∙ c.put_oscillator-h.auto.buf ∙ c.put_form-g.auto.buf ∙ c.put_control-f.auto.buf ∙ c.put_form-e.auto.buf ∙ c.put_timing2-d.auto.buf ∙ c.put_form-c.auto.buf ∙ c.put_timing1-b.auto.buf ∙ c.put_form-a.auto.buf

pub returns : goal.returns
unfolding ascii piece_then takes filled stored_row setup_rows
returns c = put-rows (drop 10 (setup_rows (word_at c.args.words.now))) (c.put_form-a.ensures.on _ _ _ (puts_then c.put_timing1-b.ensures (c.put_form-c.ensures.on _ _ _ (puts_then c.put_timing2-d.ensures (c.put_form-e.ensures.on _ _ _ (puts_then c.put_control-f.ensures (c.put_form-g.ensures.on _ _ _ (puts_then c.put_oscillator-h.ensures (puts c.put_text.ensures))))))))) (register _ _ (part (timing1_text (word_at c.args.words.now 0xBF))) (register _ _ (part (timing2_text (word_at c.args.words.now 0xC0))) (register _ _ (part (ascii "stored only")) (register _ _ (part (names_or "none" (control_names (word_at c.args.words.now 0xC2)))) (register _ _ (part (oscillator_text (word_at c.args.words.now 0xC3))) no_rows)))))
