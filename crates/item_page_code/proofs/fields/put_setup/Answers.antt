-- `item_page_code::fields::put_setup` meets its contract. Assumes nothing.
use lib.ListN.{drop}
use Rattle.unit.specs.Bits.{bits}
use Rattle.numeral.specs.Ascii.{ascii}
use Rattle.text.proofs.Putting.{puts_then}
use Rattle.item_page.specs.Row.{stored_row}
use Rattle.item_page.specs.Registers.{setup_rows, pulses, divider, hits_text}
use Rattle.item_page_form.specs.OwnForm.{piece_then, takes, filled}
use Rattle.item_page_code.specs.OwnWords.{word_at}
use Rattle.item_page_code.proofs.Rows.{part, ◌and◌, register, row, put-rows, rows_are}
use borrow.Author.Rules.{rules}
use Rattle.item_page_code.proofs.fields.put_setup.Goals as goal

pub put_control_rows-requires : goal.put_control_rows-requires
put_control_rows-requires c = c.requires

pub returns : goal.returns
unfolding ascii piece_then takes filled stored_row setup_rows
returns c = put-rows (setup_rows (word_at c.args.words.now)) (c.put_form-a.ensures.on _ _ _ (puts_then c.put_pulses-b.ensures (puts_then c.put_divider-c.ensures (c.put_form-d.ensures.on _ _ _ (puts_then c.put_hits-e.ensures (c.put_form-f.ensures.on _ _ _ c.put_control_rows.ensures)))))) (row (part (ascii "CONFIGURATION REGISTERS")) (register _ _ (part (ascii "stored only")) (register _ _ (part (ascii "stored only")) (register _ _ (part (pulses (bits 15 8 (word_at c.args.words.now 0xB8))) and part (divider (bits 7 4 (word_at c.args.words.now 0xB8)))) (register _ _ (part (hits_text (word_at c.args.words.now 0xB9))) (register _ _ (part (ascii "stored only")) (register _ _ (part (ascii "stored only")) (register _ _ (part (ascii "stored only")) (register _ _ (part (ascii "stored only")) (register _ _ (part (ascii "stored only")) (rows_are (drop 10 (setup_rows (word_at c.args.words.now))))))))))))))
