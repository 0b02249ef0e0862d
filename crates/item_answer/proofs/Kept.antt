-- Every line keeps an item's model sound, and its record and its probe table within their bounds. Assumes nothing.
use Prim.Native.Nat.{ℕ}
use native.Mathlib.Omega.{arith}
use mathlib.Core.Bool.{true}
use mathlib.Core.List.{List, [], ◌∷◌, ◌++◌}
use mathlib.Core.Path.{◌≡◌}
use lib.IntN.{ℤ}
use Rattle.device.specs.declared.Model.{Model}
use Rattle.device.specs.Model.{is_sound}
use Rattle.device.specs.Call.{Call as ChipCall}
use Rattle.device.proofs.Sound.{fresh-sound, keeps-sound}
use Rattle.text.specs.Text.{Text}
use Rattle.item_line.specs.OwnBounds.{Quanta}
use Rattle.item_answer.specs.Answer.{Item, fresh_item, with_model, transacted, ticked}
use Rattle.item_answer.specs.Step.{step}
use Rattle.item_answer.specs.OwnKept.{Kept}
use Rattle.item_answer.proofs.EachLine.{Keeps, ticks-keep, step_keeps}

pub fresh_kept : Kept fresh_item
unfolding fresh_item
fresh_kept = record { sound = fresh-sound; recorded = omega arith; quanta = Quanta.none; probes = omega arith }

-- Another model that is sound, at any moment.
pub model-kept : (i : Item) (m : Model) (moment : ℕ) → is_sound m ≡ true → Kept i → Kept (with_model i m moment)
model-kept i m moment s k = record { sound = s; recorded = k.recorded; quanta = k.quanta; probes = k.probes }

frame-kept : (i : Item) (f o : List ℕ) → Kept i → Kept (transacted i (ChipCall.transaction f o i.flash))
unfolding transacted
frame-kept i f o k = record {
  sound = keeps-sound i.model (ChipCall.transaction f o i.flash) k.sound;
  recorded = k.recorded;
  quanta = k.quanta;
  probes = k.probes;
}

both-quanta : (xs ys : List ℤ) → Quanta xs → Quanta ys → Quanta (xs ++ ys)
both-quanta [] ys Quanta.none b = b
both-quanta (x ∷ xs) ys (Quanta.more h hs) b = Quanta.more h (both-quanta xs ys hs b)

keeps : Keeps Kept
keeps = record {
  fresh = fresh_kept;
  time = λ i moment k. model-kept i i.model moment k.sound k;
  call = λ i c f k. model-kept i _ _ (keeps-sound i.model c k.sound) k;
  frame = λ i f o b k. frame-kept i f o k;
  entries = λ i ns b few k. record { sound = k.sound; recorded = k.recorded; quanta = k.quanta; probes = few };
  quanta = λ i ds small few k. record {
    sound = k.sound;
    recorded = few;
    quanta = both-quanta i.recorded ds k.quanta small;
    probes = k.probes;
  };
}

-- The model after some ticks, at any moment.
pub ticks-kept : (n first : ℕ) (i : Item) (moment : ℕ) → Kept i → Kept (with_model i (ticked n first i.model).model moment)
ticks-kept = ticks-keep Kept keeps

pub step_kept : (number : ℕ) (bytes : Text) (i : Item) → Kept i → Kept (step number bytes i).item
step_kept = step_keeps Kept keeps
