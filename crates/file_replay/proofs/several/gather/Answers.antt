-- `file_replay::several::gather` meets its contract.
-- Assumes nothing.
use mathlib.Core.Path.{refl, sym, ◌∙◌}
use native.Mathlib.Omega.{arith}
use Rattle.file_replay.specs.Files.{Turn}
use Rattle.file_replay.proofs.Along.{along-first}
use Rattle.file_replay.proofs.Run.{no-turn, next-turn, whole_run}
use Rattle.file_replay.proofs.several.gather.Goals as goal
use Rattle.file_replay.proofs.several.gather.Goals.{else-loop-test, then-loop-test+then-not-is_there}

pub loop-init : goal.loop-init
loop-init g c =
    let first = c.first-source.auto in (
      refl,
      refl,
      refl,
      refl,
      refl,
      first.part,
      first.path,
      no-turn _ (along-first _ refl c.first-source.ensures.0 c.first-source.ensures.1) c.empty-tally.ensures _ _ _ _ _,
    )

pub replay_named-outcome-requires : goal.replay_named-outcome-requires
replay_named-outcome-requires g c = omega (arith, c.loop.invariant.6)

pub slice_bounds-next-end : goal.slice_bounds-next-end
slice_bounds-next-end g c = sym c.loop.invariant.5

pub slice_bounds-next-end-in-loop : goal.slice_bounds-next-end-in-loop
slice_bounds-next-end-in-loop g c = sym c.loop.invariant.6

pub loop-preserved : goal.loop-preserved
loop-preserved g c =
    let add = c.add-tally.auto in
    let next = c.next-source.auto in
    let inv = c.loop.invariant in
    let turn : Turn _ =
    record {
      source = c.loop.source;
      path = c.loop.path;
      came = c.replay_named-outcome.result;
      there = sym c.is_there.ensures ∙ c.if-not-is_there.false;
      own = c.replay_named-outcome.ensures.0;
      broken = c.replay_named-outcome.ensures.1;
    } in (
      add.differ ∙ inv.0,
      add.unannounced ∙ inv.1,
      add.bad ∙ inv.2,
      add.unread ∙ inv.3,
      add.plain ∙ inv.4,
      next.part ∙ inv.5,
      next.path ∙ inv.6,
      next-turn turn inv.6 inv.7 c.first_bytes.ensures c.add-tally.ensures c.next-source.ensures.0 c.next-source.ensures.1,
    )

pub returns : goal.returns
returns g c =
    whole_run c.loop.invariant.7
    (elim c.loop-test.branch [
      | else-loop-test w ↦ λ more. absurd (omega (arith, w.loop-test.false, more))
      | then-loop-test+then-not-is_there w ↦ λ more. sym w.is_there.ensures ∙ w.if-not-is_there.true
    ])
