-- `form::put_form` meets its contract: what is left of the form fills the buffer as the whole form would.
use Rattle.std.proofs.Common.{◌≡◌, ◌≤◌, [], length, drop}
use Rattle.form.proofs.Fill.{read}
use Rattle.form.specs.Form.{form_texts}
use Rattle.numeral.specs.Place.{put_each}
use Rattle.form.proofs.put_form.Given as goal

abbrev pub invariant-loop-i : goal.invariant-loop-i
invariant-loop-i l = (length l.buf ≡ length l.initial.buf) × (l.start ≤ l.i) × (l.next ≤ l.start) × (put_each l.buf l.place (form_texts (read l.form l.start l.i) (drop l.i l.form) (drop l.next l.values)) ≡ put_each l.initial.buf l.at (form_texts [] l.form l.values))
