-- `item_page_code::state::put_status` meets its contract. Assumes nothing.
use Prim.Native.Nat.{◌+◌}
use mathlib.Core.List.{[], ◌∷◌, ◌++◌}
use Rattle.numeral.specs.Ascii.{ascii}
use Rattle.text.specs.Text.{spaced}
use Rattle.text.proofs.Putting.{puts_none, puts_then}
use Rattle.item_page.specs.Row.{register_row, names_or}
use Rattle.item_page.specs.Registers.{high_names, low_names, status_rows}
use Rattle.item_page_form.specs.OwnForm.{piece_then, takes, filled}
use Rattle.item_page_code.proofs.Rows.{part, ◌and◌, register, no_rows, row, put-rows, puts-spaced, Count, ◌plus◌, put-names, put-blank}
use borrow.Author.Rules.{rules}
use Rattle.item_page_code.proofs.state.put_status.Goals as goal

pub returns-then-takes_two : goal.returns-then-takes_two
unfolding ascii piece_then takes filled status_rows
returns-then-takes_two c = let w = c.args.w in let high = c.high_count-high.result in let low = c.low_count-low.result in rw (← c.takes_two.ensures, c.if-takes_two.true) (put-rows (ascii "STATUS REGISTERS" ∷ register_row "FE     Interrupt Status         " w (spaced (high_names w)) ∷ (ascii "                                           " ++ spaced (low_names w)) ∷ []) (c.put_form-a.ensures.on _ _ _ (put-blank (high_names w) high (10 ∷ (ascii "                                           " ++ (spaced (low_names w) ++ (10 ∷ [])))) c.high_count-high.ensures.0 (puts_then c.put_high-b.ensures (c.put_form-c.ensures.on _ _ _ (put-blank (low_names w) low (10 ∷ []) c.low_count-low.ensures.0 (puts_then c.put_low-d.ensures (c.put_form.ensures.on [] _ _ (puts_none _ _)))))))) (row (part (ascii "STATUS REGISTERS")) (register _ _ (part (spaced (high_names w))) (row (part (ascii "                                           ") and part (spaced (low_names w))) no_rows))))

pub returns : goal.returns
unfolding ascii piece_then takes filled status_rows
returns c = let w = c.args.w in let high = c.high_count-high.result in let low = c.low_count-low.result in let p : Count (high_names w) high = record { same = c.high_count-high.ensures.0 } in let q : Count (low_names w) low = record { same = c.low_count-low.ensures.0 } in rw (← c.takes_two.ensures, c.if-takes_two.false) (put-rows (ascii "STATUS REGISTERS" ∷ register_row "FE     Interrupt Status         " w (names_or "none" (high_names w ++ low_names w)) ∷ []) (c.put_form-a.ensures.on _ _ _ (put-names "none" (high_names w ++ low_names w) (high + low) (10 ∷ []) (p plus q).same (puts_then (puts-spaced (high_names w) (low_names w) c.put_high-b.ensures c.put_low-c.ensures) (c.put_form-2.ensures.on [] _ _ (puts_none _ _))))) (row (part (ascii "STATUS REGISTERS")) (register _ _ (part (names_or "none" (high_names w ++ low_names w))) no_rows)))
