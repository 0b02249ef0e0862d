-- The three demands, met.
use Rattle.device.specs.Model.{fresh_model}
use Rattle.device.specs.History.{after}
use Rattle.demands.specs.Demands.{SoundClaim, Demands}
use Rattle.device.proofs.Sound.{fresh-sound, keeps-sound}
use Rattle.demands.proofs.SoundMeaning.{never-zero}
use Rattle.demands.proofs.StatusKept.{refused-by}
use Rattle.demands.proofs.FirstDemand.{first-demand}
use Rattle.demands.proofs.SecondDemand.{second-demand}
use Rattle.demands.proofs.ThirdDemand.{third-demand}
use Rattle.refusal.specs.declared.Refusal.{Refusal}

sound-claim : SoundClaim
sound-claim =
    record {
      fresh = fresh-sound;
      kept = keeps-sound;
      never-zero = λ cs c e. never-zero cs c ((refused-by (after fresh_model cs) c Refusal.NotSound).0 e);
    }

pub demands : Demands
demands = record { sound = sound-claim; first = first-demand; second = second-demand; third = third-demand }
