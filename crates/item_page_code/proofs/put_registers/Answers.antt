-- `item_page_code::put_registers` meets its contract. Assumes nothing.
use borrow.Author.Rules.{rules}
use mathlib.Core.Path.{◌∙◌}
use mathlib.Core.List.{[], ◌∷◌, ◌++◌}
use native.Mathlib.Omega.{arith}
use Rattle.numeral.specs.Ascii.{ascii}
use Rattle.item_page.specs.Row.{absent_row}
use Rattle.item_page.specs.Registers.{flight_rows, temperature_rows, clock_rows, setup_rows, status_rows, supply_row}
use Rattle.item_page_code.specs.OwnWords.{word_at, pair_at, rows_by}
use Rattle.item_page_code.proofs.Rows.{puts-rows}
use Rattle.item_page_code.proofs.put_registers.Goals as goal

pub put_clock-a-requires : goal.put_clock-a-requires
put_clock-a-requires c = c.requires

pub put_setup-b-requires : goal.put_setup-b-requires
put_setup-b-requires c = c.requires

pub put_flight-c-requires : goal.put_flight-c-requires
put_flight-c-requires c = c.requires

pub bounds-words : goal.bounds-words
bounds-words c = omega (arith, c.requires)

pub bounds-words-2 : goal.bounds-words-2
bounds-words-2 c = omega (arith, c.requires)

pub shape_of-buf : goal.shape_of-buf
shape_of-buf c = c.put_last.auto.buf ∙ c.put_status-e.auto.buf ∙ c.put_temperatures-d.auto.buf ∙ c.put_flight-c.auto.buf ∙ c.put_setup-b.auto.buf ∙ c.put_clock-a.auto.buf

pub returns : goal.returns
unfolding rows_by
returns c = let ws = c.args.words.now in let a = clock_rows (word_at ws) in let b = setup_rows (word_at ws) in let d = flight_rows (word_at ws) (pair_at ws) in let e = temperature_rows (word_at ws) (pair_at ws) in let f = ascii "STATUS REGISTERS" ∷ status_rows (word_at ws 0xFE) in let g = supply_row c.args.on ∷ absent_row "FF     Control                  " (word_at ws 0xFF) ∷ [] in puts-rows (a ++ b ++ d ++ e ++ f) g (puts-rows (a ++ b ++ d ++ e) f (puts-rows (a ++ b ++ d) e (puts-rows (a ++ b) d (puts-rows a b c.put_clock-a.ensures c.put_setup-b.ensures) c.put_flight-c.ensures) c.put_temperatures-d.ensures) c.put_status-e.ensures) c.put_last.ensures
