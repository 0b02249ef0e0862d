use Prim.Native.Nat.{ℕ, ◌+◌, ◌-◌, ◌<◌}
use mathlib.Core.List.{List}
use mathlib.Core.Path.{◌≡◌, ◌∙◌, ap}
use native.Mathlib.Omega.{arith}
use native.Mathlib.Nat.{add-zero}
use native.Mathlib.Numerals.{add-one}
use borrow.Author.Rules.{rules}
use lib.IntN.{ℤ}
use lib.ListN.{take, drop, length-take, length-drop}
use mir.Syntax.{w32}
use mir.Val.{SFits, of_z, to_z}
use mir.ValLaws.{to_z-of_z}
use Rattle.quietest.specs.Quietest.{value_at, larger, smaller, extreme}
use Rattle.quietest.specs.Search.{extremes_of}
use Rattle.quietest.specs.declared.extremes.Extremes.{Extremes}
use Rattle.quietest.proofs.Join.{larger-itself, smaller-itself}
use Rattle.quietest.proofs.Meaning.{same-value}
use Rattle.quietest.proofs.Order.{larger-max, smaller-min}
use Rattle.quietest.proofs.Signed.{back}
use Rattle.quietest.proofs.extremes.extremes_of.Goals as goal

one-value :
    (values : List ℤ) (from count : ℕ) {x : ℤ} → count ≡ 1 → x ≡ value_at values from
    → ◌≡◌ {A = Extremes} (record { high = x; low = x }) (extremes_of values from count)
unfolding extreme
one-value values from count one e =
    let first = value_at values from in
    rw (one, e, add-zero from, larger-itself first, smaller-itself first)

pub returns-then-count-eq1 : goal.returns-then-count-eq1
returns-then-count-eq1 c =
    let args = c.args in
    let first = value_at args.values.now args.from in
    let f : SFits w32 first = search rules in
    one-value args.values.now args.from args.count c.if-count-eq1.true (to_z-of_z w32 first f)

pub loop-x-init : goal.loop-x-init
unfolding extreme
loop-x-init c =
    let f : SFits w32 (value_at c.args.values.now c.args.from) = search rules in
    (to_z-of_z w32 _ f, to_z-of_z w32 _ f)

pub loop-x-preserved : goal.loop-x-preserved
unfolding extreme
loop-x-preserved c =
    let at-loop = c.loop-x in
    let k = at-loop.x-index in
    let high = c.max-high in
    let low = c.min-low in
    let values = c.args.values.now in
    let from = c.args.from in
    let count = from + c.args.count - from in
    let x = value_at (take count (drop from values)) k in
    let f : SFits w32 x = search rules in
    let here : k < count = omega (arith, length-take count (drop from values), length-drop from values, c.loop-x-test.true) in
    let e : to_z w32 (of_z w32 x) ≡ value_at values (from + k) = to_z-of_z w32 x f ∙ same-value values from count k here in (
      rw (add-one k) (back high.result high.type_inv ∙ high.ensures.value ∙ larger-max _ _ ∙ ap (λ (y : ℤ). larger (to_z w32 at-loop.high-bits) y) e ∙ ap (λ (y : ℤ). larger y (value_at values (from + k))) at-loop.invariant.0),
      rw (add-one k) (back low.result low.type_inv ∙ low.ensures.value ∙ smaller-min _ _ ∙ ap (λ (y : ℤ). smaller (to_z w32 at-loop.low-bits) y) e ∙ ap (λ (y : ℤ). smaller y (value_at values (from + k))) at-loop.invariant.1),
    )
