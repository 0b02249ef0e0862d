-- `model::state::temperature_sound` meets its contract.
use native.Mathlib.Omega.{arith}
use mathlib.Core.Path.{◌≡◌, refl, sym, ◌∙◌}
use mathlib.Core.Bool.{Bool, true, false}
use mathlib.Core.List.{List, [], ◌∷◌}
use lib.ListN.{length, get_or}
use borrow.Author.Rules.{rules}
use Rattle.std.proofs.Common.{◌&&◌}
use Rattle.std.specs.List.{list_all}
use Rattle.std.proofs.lemmas.Iterator.{YieldsList-from_slice}
use Rattle.std.proofs.lemmas.Iterator.Search.{all_from_yields_List}
use Rattle.unit.specs.Choice.{both}
use Rattle.unit.specs.declared.Quanta.{Quanta}
use Rattle.unit.proofs.Tests.{tests}
use Rattle.device.specs.Model.{temperature_sound, sum_fits}
use Rattle.model.proofs.state.temperature_sound.Goals as goal

and-both : (t a b : Bool) → a ≡ b → (t && a) ≡ both t b
and-both true a b e = e
and-both false a b e = refl

and-true : (t : Bool) → (t && true) ≡ t
and-true true = refl
and-true false = refl

four :
    (p : Quanta → Bool) (d : Quanta) (l : List Quanta) →
    length l ≡ 4 →
    list_all p l ≡ both (p (get_or l 0 d)) (both (p (get_or l 1 d)) (both (p (get_or l 2 d)) (p (get_or l 3 d))))
four p d [] h = absurd (omega arith)
four p d (w ∷ []) h = absurd (omega arith)
four p d (w ∷ x ∷ []) h = absurd (omega arith)
four p d (w ∷ x ∷ y ∷ []) h = absurd (omega arith)
four p d (w ∷ x ∷ y ∷ z ∷ []) h =
    and-both (p w) _ _ (and-both (p x) _ _ (and-both (p y) _ _ (and-true (p z))))
four p d (w ∷ x ∷ y ∷ z ∷ v ∷ l) h = absurd (omega arith)

pub returns-then-schedule_sound : goal.returns-then-schedule_sound
unfolding temperature_sound
returns-then-schedule_sound c =
    let t = c.args.t in
    let fits = λ (s : Quanta). sum_fits s t.schedule.good (record { 0 = 2147483648 }) in
    let all = all_from_yields_List {all = t.sums} fits _ _ c.all.result c.all.ensures.ran (YieldsList-from_slice t.sums cc) (λ x b q k. search (rules, tests)) in
    let sound = sym c.schedule_sound.ensures ∙ c.if-schedule_sound.true in
    rw sound (all ∙ four fits _ t.sums (search rules))

pub returns-else-schedule_sound : goal.returns-else-schedule_sound
unfolding temperature_sound
returns-else-schedule_sound c = search (rules, tests)
