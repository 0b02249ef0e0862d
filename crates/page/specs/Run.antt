-- The rows of the run's state, "which no register tells". Assumes nothing.
use Rattle.std.specs.Prelude.{ℕ, cond, List, [], ◌∷◌, ◌++◌, eqb}
use Rattle.device.specs.declared.Model.{Model}
use Rattle.run_state.specs.declared.Place.{Place}
use Rattle.run_state.specs.State.{initialised_told, left_told}
use Rattle.run_state.specs.Event.{place_told}
use Rattle.numeral.specs.Ascii.{ascii}
use Rattle.wording.specs.Wording.{Texts, counted, reported_where}
use Rattle.item_state.specs.Told.{told_value}
use Rattle.page.specs.Row.{plural}
use Rattle.refusal.specs.declared.Refusal.{Refusal}
use Rattle.std.specs.Prelude.{Result, Ok, Err, Option, Some, None}
use Rattle.unit.specs.declared.Ticks.{Ticks}

unfoldable pub initialised_row : ℕ → Texts
initialised_row told =
    cond (eqb told 0) (ascii "       Initialised                         no") (ascii "       Initialised                         yes") ∷ []

unfoldable pub left_ticks : Result Ticks Refusal → ℕ
left_ticks (Err r) = 0
left_ticks (Ok t) = t.0

-- "without a delivery it fails in so many ticks, in the last of them"
unfoldable pub awaited_row : List ℕ → ℕ → Texts
awaited_row label left =
    label ∷ cond (eqb left 0) (ascii "none awaited" ∷ []) (ascii "awaited, fails in " ∷ plural left (ascii " tick"))

-- "An event has N of a kind to make (TDM or TMM), of which some are started, settled (good or failed) and good"
unfoldable pub place_texts : Place → Texts
place_texts p =
    counted p.started (ascii " of ")
    ++ (counted p.planned (ascii " started, ") ++ (counted p.settled (ascii " settled, ") ++ counted p.good (ascii " good")))

-- "`none`: no event of that kind runs, or all its measurements are started"
unfoldable pub event_texts : Result (Option Place) Refusal → Texts
event_texts (Err r) = ascii "none" ∷ []
event_texts (Ok None) = ascii "none" ∷ []
event_texts (Ok (Some p)) = place_texts p

unfoldable pub wait_texts : ℕ → Texts
wait_texts n = cond (eqb n 0) (ascii "none" ∷ []) (ascii "in " ∷ plural n (ascii " tick"))

-- "With `continuous`, behind the next start, the counts are those of the current group"
unfoldable pub next_texts : Result (Option Place) Refusal → Texts
next_texts (Err r) = ascii "none" ∷ []
next_texts (Ok None) = ascii "none" ∷ []
next_texts (Ok (Some p)) = wait_texts p.next.0 ++ reported_where p.continuous (ascii ", continuous")

unfoldable pub run_rows : Model → List Texts
run_rows m =
    (ascii "STATE OF THE RUN" ∷ [])
    ∷ initialised_row (told_value (initialised_told m))
    ∷ awaited_row (ascii "       Flight measurement                  ") (left_ticks (left_told m m.flight.schedule))
    ∷ awaited_row (ascii "       Temperature measurement             ") (left_ticks (left_told m m.temperature.schedule))
    ∷ (ascii "       Event of differences                " ∷ event_texts (place_told m m.flight.schedule))
    ∷ (ascii "       Next difference                     " ∷ next_texts (place_told m m.flight.schedule))
    ∷ (ascii "       Event of temperatures               " ∷ event_texts (place_told m m.temperature.schedule))
    ∷ (ascii "       Next temperature                    " ∷ next_texts (place_told m m.temperature.schedule))
    ∷ []
