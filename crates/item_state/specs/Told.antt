-- What a model tells of itself, as a number. Assumes nothing.
use Rattle.std.specs.Prelude.{ℕ}
use Rattle.device.specs.declared.Model.{Model}
use Rattle.device.specs.Question.{peek}
use Rattle.refusal.specs.declared.Refusal.{Refusal}
use Rattle.std.specs.Prelude.{Result, Ok, Err}

-- The number told; 0 in place of a refusal, which a sound model gives to no question of an item's lines.
unfoldable pub told_value : Result ℕ Refusal → ℕ
told_value (Ok v) = v
told_value (Err r) = 0

-- "what reads of B0h to FFh would return, with nothing cleared"
unfoldable pub read_word : Model → ℕ → ℕ
read_word m a = told_value (peek m a)
