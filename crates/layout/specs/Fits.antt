-- What the types of a model's fields say of it: the lengths of its arrays, and that each number is below its width's bound.
use Rattle.std.specs.Prelude.{ℕ, ◌<◌, ◌≡◌, List, [], ◌∷◌, length}
use Rattle.device.specs.declared.Model.{Model}
use Rattle.layout.specs.Number.{bound}
use Rattle.layout.specs.Layout.{double, quadruple, octuple}

-- each number of a list is below n
pub data Below (n : ℕ) : List ℕ → Type 0 where
  none : Below n []
  more : {x : ℕ} {xs : List ℕ} → x < n → Below n xs → Below n (x ∷ xs)

pub record Fits (m : Model) : Type 0 where
  pub setup : length m.setup ≡ 16
  pub ups : length m.flight.ups ≡ 7
  pub downs : length m.flight.downs ≡ 7
  pub sums : length m.temperature.sums ≡ 4
  pub ports : length m.temperature.ports ≡ 4
  pub doubles : Below (bound 2) (double m)
  pub quadruples : Below (bound 4) (quadruple m.clock m.flight m.temperature)
  pub octuples : Below (bound 8) (octuple m.flight m.temperature)
