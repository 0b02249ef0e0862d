-- The three demands as one statement, with what 01 asks of sound models.
use Rattle.std.specs.Prelude.{ℕ, List, [], ◌∷◌, ◌≡◌, true}
use Rattle.device.specs.declared.Model.{Model}
use Rattle.device.specs.Model.{is_sound, fresh_model}
use Rattle.device.specs.Call.{Call}
use Rattle.device.specs.Reply.{number_in, reply}
use Rattle.device.specs.History.{after}
use Rattle.demands.specs.FirstDemand.{FirstDemand, ours}
use Rattle.demands.specs.SecondDemand.{SecondDemand}
use Rattle.demands.specs.Claim.{ThirdDemand}

-- "Sound has one definition of the team's own, under two duties: a fresh model is sound and every call keeps it so. A model made only by
-- these calls thus never meets number 0."
pub record SoundClaim : Type 0 where
  pub fresh : is_sound fresh_model ≡ true
  pub kept : (m : Model) (c : Call) → is_sound m ≡ true → is_sound (reply m c).model ≡ true
  pub never-zero : (cs : List Call) (c : Call) → ¬ (number_in (reply (after fresh_model cs) c).answer ≡ 0 ∷ [])

pub record Demands : Type 0 where
  pub sound : SoundClaim
  pub first : FirstDemand ours
  pub second : SecondDemand
  pub third : ThirdDemand
