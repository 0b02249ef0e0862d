-- How long the page of `show` is at most. Assumes nothing.
use Prim.Native.Nat.{ℕ, ◌*◌, ◌≤◌, ◌<◌}
use mathlib.Core.List.{List, [], ◌∷◌}
use native.Mathlib.Omega.{arith}
use lib.ListN.{length, length-append}
use Rattle.unit.proofs.Cases.{by-test}
use Rattle.hit.specs.Mean.{All}
use Rattle.numeral.specs.Place.{joined}
use Rattle.device.specs.declared.Model.{Model}
use Rattle.wording.specs.Wording.{Texts}
use Rattle.item_state.specs.Told.{read_word}
use Rattle.page.specs.Row.{lines}
use Rattle.page.specs.Clock.{clock_rows}
use Rattle.page.specs.Setup.{setup_rows, more_setup_rows}
use Rattle.page.specs.Results.{up_rows, down_rows, difference_rows, port_rows, takes_two, status_rows, last_rows}
use Rattle.page.specs.Run.{run_rows}
use Rattle.page.specs.Commands.{command_rows}
use Rattle.page.specs.Page.{page, page_texts}
use Rattle.page.proofs.Width.{page-narrow}
use Rattle.answer_length.proofs.Sizes.{size, size-joined, size-append}

-- rows of at most 80 characters, each with its line feed
lines-size : (rows : List Texts) → All (λ (row : Texts). length (joined row) ≤ 80) rows → size (lines rows) ≤ 81 * length rows
unfolding size lines
lines-size [] a = omega arith
lines-size (row ∷ rows) a =
    rw (size-append, size-append) (omega (arith, a.0, size-joined row, lines-size rows a.1))

status-few : (w : ℕ) → length (status_rows w) ≤ 2
unfolding status_rows
status-few w = by-test (takes_two w) (λ e. rw e (omega arith)) (λ e. rw e (omega arith))

last-few : (m : Model) → length (last_rows m) ≤ 8
unfolding last_rows
last-few m = rw length-append (omega (arith, status-few (read_word m 0xFE)))

page-few : (m : Model) → length (page m) ≤ 78
unfolding page clock_rows setup_rows more_setup_rows up_rows down_rows difference_rows port_rows run_rows command_rows
page-few m = rw (length-append (last_rows m)) (omega (arith, last-few m))

pub page-size : (m : Model) → m.flight.schedule.wait.0 < 4294967296 → m.temperature.schedule.wait.0 < 4294967296
    → size (page_texts m) ≤ 6318
unfolding page_texts
page-size m f t = omega (arith, lines-size (page m) (page-narrow m f t), page-few m)
