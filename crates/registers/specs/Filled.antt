-- The code's own: a read that is filled part by part. Nothing here is to be believed.
use Rattle.std.specs.Prelude.{ℕ, List, ◌≡◌}
use Rattle.device.specs.declared.Model.{Model}
use Rattle.device.specs.Registers.{fill_words}

-- Where the first words of a read were filled, up to one place, they are now up to another.
pub record Filled (m : Model) (a from to : ℕ) (before after : List ℕ) : Type 0 where
  pub each : (o : List ℕ) → before ≡ fill_words m a o from → after ≡ fill_words m a o to
