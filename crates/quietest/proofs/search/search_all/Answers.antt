use Prim.Native.Nat.{ℕ, ◌+◌, ◌-◌}
use native.Mathlib.Omega.{arith}
use mathlib.Core.Path.{◌≡◌, ap, ◌∙◌}
use lib.ListN.{length}
use mir.Syntax.{w64}
use mir.ValLaws.{to_z-of_z}
use Rattle.quietest.specs.Quietest.{quieter}
use Rattle.quietest.specs.Search.{found}
use Rattle.quietest.proofs.Join.{first-start, next-group, found-itself}
use Rattle.quietest.proofs.search.search_all.Goals as goal

pub loop-from-init : goal.loop-from-init
loop-from-init c =
    let d = c.spread_of in
    let args = c.args in (
      omega arith,
      first-start args.values.now args.width c.extremes_of.ensures
          (to_z-of_z w64 d.result (record { sfits = d.type_inv }) ∙ d.ensures),
    )

pub search_block-best-requires : goal.search_block-best-requires
search_block-best-requires c =
    record {
      within = record { some = omega arith; few = omega arith; last = omega arith };
      best_value = found-itself c.args.values.now c.args.width _ c.loop-from.invariant.1;
    }

pub loop-from-preserved : goal.loop-from-preserved
loop-from-preserved c =
    let at-loop = c.loop-from in
    let args = c.args in
    let whole : c.min-count.result ≡ args.width = omega arith in (
      omega arith,
      next-group args.values.now args.width at-loop.from c.min-count.result at-loop.auto.from at-loop.invariant.1 c.search_block-best.ensures
          ∙ ap (λ (n : ℕ). found args.values.now args.width (quieter args.values.now args.width 0 1 (at-loop.from + n - 1))) whole,
    )

-- after the last group
pub returns-2 : goal.returns-2
returns-2 c =
    let at-loop = c.loop-from in
    let args = c.args in
    let all : at-loop.from + c.min-count.result - 1 ≡ length args.values.now - args.width = omega arith in
    next-group args.values.now args.width at-loop.from c.min-count.result at-loop.auto.from at-loop.invariant.1 c.search_block-best.ensures
    ∙ ap (λ (n : ℕ). found args.values.now args.width (quieter args.values.now args.width 0 1 n)) all

-- where there is one run alone
pub returns : goal.returns
returns c =
    let at-loop = c.loop-from in
    let args = c.args in
    let all : at-loop.from - 1 ≡ length args.values.now - args.width = omega arith in
    at-loop.invariant.1 ∙ ap (λ (n : ℕ). found args.values.now args.width (quieter args.values.now args.width 0 1 n)) all
