-- What a model tells of its run, and no register does: questions of ours.
use Rattle.std.specs.Prelude.{ℕ, List, [], ◌∷◌}
use Rattle.unit.specs.Choice.{pick}
use Rattle.device.specs.declared.Schedule.{Schedule}
use Rattle.device.specs.declared.Model.{Model}
use Rattle.device.specs.Model.{is_sound}
use Rattle.std.specs.Prelude.{Result, Ok, Err}
use Rattle.refusal.specs.declared.Refusal.{Refusal}
use Rattle.refusal.specs.Number.{values_told}
use Rattle.unit.specs.declared.Ticks.{Ticks}

-- "05h Initialize makes the model initialised, until a Reset": 1, else 0.
unfoldable pub initialised_told : Model → Result ℕ Refusal
initialised_told m = pick (is_sound m) (pick m.initialised (Ok 1) (Ok 0)) (Err Refusal.NotSound)

-- "A measurement undelivered 8,192 ticks after its start fails in that tick": in how many ticks the awaited one of a kind fails; 0
-- where none is awaited.
unfoldable pub left_told : Model → Schedule → Result Ticks Refusal
left_told m k = pick (is_sound m) (Ok k.left) (Err Refusal.NotSound)

-- What an answer on the ticks left says where it is no refusal: the ticks.
abbrev pub values_left : Result Ticks Refusal → List ℕ
values_left = values_told (λ t. t.0 ∷ [])
