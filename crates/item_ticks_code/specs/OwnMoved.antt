-- Ticks that are taken at once. Assumes nothing.
use Rattle.std.specs.Prelude.{ℕ, ◌+◌, ◌-◌, ◌≤◌, ◌<◌, ◌≡◌}
use Rattle.device.specs.declared.Model.{Model}
use Rattle.item_answer.specs.Answer.{ticked}
use Rattle.item_words_code.specs.OwnReports.{reports_in}
use Rattle.item_ticks_code.specs.declared.Moved.{Moved}

-- At least one tick, `most` at most, whichever number the first of them has: the last alone reports.
pub record MovedOn (m : Model) (most : ℕ) (r : Moved) : Type 0 where
  pub some : 0 < r.ran.0
  pub few : r.ran.0 ≤ most
  pub run : (i : ℕ)
      → ticked r.ran.0 i m ≡ record { model = r.model; reports = reports_in r.flight r.temperature (i + r.ran.0 - 1) }
