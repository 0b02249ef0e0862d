-- The reports of ticks, as code finds them. Assumes nothing.
use Rattle.std.specs.Prelude.{ℕ, zero, suc, ◌+◌, [], ◌++◌, leb, eqb, min, Option, None, Some}
use Rattle.unit.specs.Choice.{pick}
use Rattle.device.specs.declared.Report.{Report}
use Rattle.device.specs.declared.StretchReport.{StretchReport}
use Rattle.text.specs.Text.{Text}
use Rattle.item_answer.specs.Words.{reports}

-- The reports of the two kinds in tick i.
abbrev pub reports_in : Report → Report → ℕ → Text
reports_in flight temperature i = reports flight.failed flight.started temperature.failed temperature.started i

-- The reports of ticks 1 to n of a stretch that comes after `done` ticks, which are counted too.
unfoldable pub reports_after : ℕ → ℕ → StretchReport → StretchReport → Text
reports_after done zero flight temperature = []
reports_after done (suc n) flight temperature =
    reports_after done n flight temperature
    ++ reports (eqb flight.failed.0 (suc n)) (eqb flight.started.0 (suc n)) (eqb temperature.failed.0 (suc n))
    (eqb temperature.started.0 (suc n)) (done + suc n)

-- The sooner of `best` and the tick `named`, where that lies after `passed`.
unfoldable pub sooner : ℕ → ℕ → Option ℕ → Option ℕ
sooner named passed None = pick (leb named passed) None (Some named)
sooner named passed (Some other) = pick (leb named passed) (Some other) (Some (min named other))

-- The first tick after `passed` that a stretch names.
unfoldable pub next_named : StretchReport → StretchReport → ℕ → Option ℕ
next_named flight temperature passed =
    sooner temperature.started.0 passed
    (sooner temperature.failed.0 passed (sooner flight.started.0 passed (sooner flight.failed.0 passed None)))
