-- `item_page_form::put_form` meets its contract. The invariant: what is left of the form leads on from what is put already.
use Prim.Native.Nat.{ℕ, ◌+◌, ◌≤◌}
use mathlib.Core.List.{List, []}
use lib.ListN.{drop}
use Rattle.text.specs.Text.{Text}
use Rattle.text.specs.OwnPut.{Puts}
use Rattle.item_page_form.specs.OwnForm.{filled}
use Rattle.item_page_form.proofs.Fill.{read}
use Rattle.item_page_form.proofs.put_form.Given as goal

abbrev pub invariant-loop-i : goal.invariant-loop-i
invariant-loop-i l =
    (l.start ≤ l.i) × (l.next ≤ l.first + l.start)
    × ((rest : Text) (s : ℕ) (k : List ℕ) → Puts l.buf l.place (filled (read l.form l.start l.i) (drop l.i l.form) l.values l.next rest) s k → Puts l.fn.buf l.at (filled [] l.form l.values l.first rest) s k)
