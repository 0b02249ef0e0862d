-- `quietest::quietest` meets its contract.
use Prim.Native.Nat.{ℕ, ◌+◌, ◌-◌, ◌*◌}
use native.Mathlib.Nat.{add_comm, add-zero}
use native.Mathlib.Omega.{arith}
use mathlib.Core.Path.{◌≡◌, refl, sym, ap, ◌∙◌}
use lib.ListN.{take, drop}
use Rattle.quietest.specs.Quietest.{quietest_place}
use Rattle.std.specs.Prelude.{Result, Ok, Err}
use Rattle.refusal.specs.declared.Refusal.{Refusal}
use Rattle.refusal.specs.Number.{number, number_told, values_told, value_told}
use Rattle.quietest.proofs.Inside.{place-within}
use Rattle.quietest.proofs.quietest.Goals as goal

pub overflow_add-result : goal.overflow_add-result
overflow_add-result c =
    let args = c.args in
    let at_start : quietest_place args.values.now args.width ≡ Ok c.in-Ok.start = sym c.quietest_place-place.ensures.same ∙ c.in-Ok.is in
    let within = place-within args.values.now args.width c.in-Ok.start at_start in
    omega arith

pub offset_bounds-values-start : goal.offset_bounds-values-start
offset_bounds-values-start c =
    let args = c.args in
    let at_start : quietest_place args.values.now args.width ≡ Ok c.in-Ok.start = sym c.quietest_place-place.ensures.same ∙ c.in-Ok.is in
    let within = place-within args.values.now args.width c.in-Ok.start at_start in
    omega arith

pub slice_bounds-result-end : goal.slice_bounds-result-end
slice_bounds-result-end c =
    let args = c.args in
    let at_start : quietest_place args.values.now args.width ≡ Ok c.in-Ok.start = sym c.quietest_place-place.ensures.same ∙ c.in-Ok.is in
    let within = place-within args.values.now args.width c.in-Ok.start at_start in
    omega arith

pub returns-in-Ok : goal.returns-in-Ok
returns-in-Ok c =
    let args = c.args in
    let start = c.in-Ok.start in
    let at_start : quietest_place args.values.now args.width ≡ Ok start = sym c.quietest_place-place.ensures.same ∙ c.in-Ok.is in
    let n : start + args.width - start ≡ args.width = omega arith in
    rw at_start (
      record { block = refl; offset = add_comm (start * 4) args.values.ref_ptr.1; elements = ap (λ (k : ℕ). take k (drop start args.values.now)) n },
      refl,
    )

pub returns-in-Err : goal.returns-in-Err
returns-in-Err c =
    let args = c.args in
    let refused : quietest_place args.values.now args.width ≡ Err c.in-Err.refusal
    = sym c.quietest_place-place.ensures.same ∙ c.in-Err.is in
    rw refused (record { block = refl; offset = sym (add-zero args.values.ref_ptr.1); elements = refl }, c.number.ensures.0)
