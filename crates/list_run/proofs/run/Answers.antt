-- `list_run::run` meets its contract.
use Prim.Native.Nat.{◌/◌, ◌<◌}
use mathlib.Core.Path.{refl, sym, ap, ◌∙◌}
use native.Mathlib.Omega.{arith}
use lib.ListN.{length}
use Rattle.call_list.specs.declared.Progress.{Progress}
use Rattle.call_list.specs.CallList.{runs}
use Rattle.list_run.proofs.Laws.{going-starts, going_on, going-stops, going-over, fits-of, fits_not}
use borrow.Author.Rules.{rules}
use Rattle.list_run.proofs.run.Goals as goal

pub loop-p-init : goal.loop-p-init
loop-p-init c = going-starts _ _ _ _ _ _ _ _ _ _ c.is_sound-sound.ensures c.begin-p.ensures

pub entry_at-e-requires : goal.entry_at-e-requires
entry_at-e-requires c =
    let g = c.loop-p.invariant in
    let l : (c.loop-p.p.place.calls < length c.args.calls.now / 3) × (c.loop-p.p.place.calls < length c.args.answers.now / 5) = (omega arith, omega arith) in
    let same = g.answers in
    let i = g.inside in
    omega (arith, l.0)

pub overflow_sub-frames_left : goal.overflow_sub-frames_left
overflow_sub-frames_left c = c.loop-p.invariant.inside.in_frames

pub overflow_sub-hits_left : goal.overflow_sub-hits_left
overflow_sub-hits_left c = c.loop-p.invariant.inside.in_hits

pub overflow_sub-out : goal.overflow_sub-out
overflow_sub-out c = c.loop-p.invariant.inside.in_output

pub advance-p-requires : goal.advance-p-requires
advance-p-requires c =
    let g = c.loop-p.invariant in
    let l : (c.loop-p.p.place.calls < length c.args.calls.now / 3) × (c.loop-p.p.place.calls < length c.args.answers.now / 5) = (omega arith, omega arith) in
    let same = g.answers in
    let i = g.inside in (
      g.judged,
      record {
        in_frames = i.in_frames;
        in_hits = i.in_hits;
        in_output = i.in_output;
        in_answers = i.in_answers;
        enough = fits-of _ _ _ _ _ _ (rw same l.1) (sym c.entry_fits.ensures ∙ c.if-entry_fits.true);
      },
      l.0,
      c.entry_at-e.ensures,
    )

pub loop-p-smaller : goal.loop-p-smaller
loop-p-smaller c =
    (going_on _ _ _ _ _ _ _ record { kind = 0; first = 0; second = 0 } c.loop-p.invariant _ refl c.advance-p.ensures
    (search rules) (search rules) (search rules)).1

pub loop-p-preserved : goal.loop-p-preserved
loop-p-preserved c =
    (going_on _ _ _ _ _ _ _ record { kind = 0; first = 0; second = 0 } c.loop-p.invariant _ refl c.advance-p.ensures
    (search rules) (search rules) (search rules)).0

pub shape_of-out-else-entry_fits : goal.shape_of-out-else-entry_fits
shape_of-out-else-entry_fits c = c.loop-p.invariant.outputs

pub shape_of-flash-else-entry_fits : goal.shape_of-flash-else-entry_fits
shape_of-flash-else-entry_fits c = c.loop-p.invariant.flashes

pub shape_of-answers-else-entry_fits : goal.shape_of-answers-else-entry_fits
shape_of-answers-else-entry_fits c = c.loop-p.invariant.answers

pub returns-else-entry_fits : goal.returns-else-entry_fits
returns-else-entry_fits c =
    let g = c.loop-p.invariant in
    let l : (c.loop-p.p.place.calls < length c.args.calls.now / 3) × (c.loop-p.p.place.calls < length c.args.answers.now / 5) = (omega arith, omega arith) in
    let same = g.answers in
    let i = g.inside in
    let s = c.args in
    going-stops _ _ _ _ _ _ _ _ g l.0 c.entry_at-e.ensures (fits_not _ _ _ _ _ _ (rw same l.1) (sym c.entry_fits.ensures ∙ c.if-entry_fits.false))
    ∙ ap (λ (p : Progress). runs (length s.calls.now / 3) s.calls.now s.frames.now s.hits.now record { progress = p; output = s.out.now; flash = s.flash.now; answers = s.answers.now })
    c.begin-p.ensures

pub shape_of-out : goal.shape_of-out
shape_of-out c = c.loop-p.invariant.outputs

pub shape_of-flash : goal.shape_of-flash
shape_of-flash c = c.loop-p.invariant.flashes

pub shape_of-answers : goal.shape_of-answers
shape_of-answers c = c.loop-p.invariant.answers

pub returns : goal.returns
returns c =
    let g = c.loop-p.invariant in
    let same = g.answers in
    let s = c.args in
    going-over _ _ _ _ _ _ _ g (rw same (rw c.min-n.ensures at c.loop-p-test.false))
    ∙ ap (λ (p : Progress). runs (length s.calls.now / 3) s.calls.now s.frames.now s.hits.now record { progress = p; output = s.out.now; flash = s.flash.now; answers = s.answers.now })
    c.begin-p.ensures
