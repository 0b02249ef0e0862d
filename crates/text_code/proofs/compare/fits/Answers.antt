-- `text_code::compare::fits` meets its contract. Assumes nothing.
use mathlib.Core.Path.{◌≡◌, sym, ◌∙◌}
use mathlib.Core.Bool.{true}
use native.Mathlib.Omega.{arith}
use lib.Dec.{eqb}
use lib.ListN.{length, get_or}
use Rattle.std.proofs.lemmas.List.{length_push}
use Rattle.std.proofs.lemmas.Slice.Zip.{zip_turn, zip_end}
use Rattle.unit.specs.Choice.{either}
use Rattle.text_code.proofs.WordLaws.{fits_length, fits-goes-on, fits-differs, fits-none, meets-x, meets-same, meets-no}
use Rattle.text_code.proofs.compare.fits.Goals as goal
use Rattle.text_code.proofs.compare.fits.Goals.{else-w-ne120-via-then-w-ne120+else-w-c, else-w-ne120-via-else-w-ne120}

pub returns-then-wanted-word : goal.returns-then-wanted-word
returns-then-wanted-word c = sym (fits_length _ _ c.if-wanted-word.true)

pub returns-then-w-c : goal.returns-then-w-c
returns-then-w-c c =
    let a = c.args.wanted.now in
    let b = c.args.word.now in
    let n = length c.loop-w.yielded in
    let t = zip_turn a b c.loop-w.yielded c.into_iter-w-iterator.result c.loop-w.w-iterator c.next.new.self _ (cc) (cc) c.loop-w.yielded_by _ c.in-Some.is c.next.ensures.steps in
    let no = meets-no (get_or a n 0) (get_or b n 0) (λ e. c.if-w-ne120.true (t.2 0 ∙ e)) (λ e. c.if-w-c.true (t.2 0 ∙ e ∙ sym (t.3 0))) in
    sym (fits-differs a b n t.0 t.1 no) ∙ c.loop-w.invariant

pub loop-w-preserved : goal.loop-w-preserved
loop-w-preserved c =
    let a = c.args.wanted.now in
    let b = c.args.word.now in
    let n = length c.loop-w.yielded in
    let t = zip_turn a b c.loop-w.yielded c.into_iter-w-iterator.result c.loop-w.w-iterator c.next.new.self _ (cc) (cc) c.loop-w.yielded_by _ c.in-Some.is c.next.ensures.steps in
    let meets : either (eqb (get_or a n 0) 0x78) (eqb (get_or a n 0) (get_or b n 0)) ≡ true =
    elim c.else-w-ne120.branch [
      | else-w-ne120-via-then-w-ne120+else-w-c w ↦ meets-same _ _ (λ e. w.if-w-ne120.true (t.2 0 ∙ e)) (sym (t.2 0) ∙ w.if-w-c.false ∙ t.3 0)
      | else-w-ne120-via-else-w-ne120 w ↦ meets-x _ _ (sym (t.2 0) ∙ w.if-w-ne120.false)
    ]
    in
    rw length_push (fits-goes-on a b n t.0 t.1 meets ∙ c.loop-w.invariant)

pub returns : goal.returns
returns c =
    let a = c.args.wanted.now in
    let b = c.args.word.now in
    let n = zip_end a b c.loop-w.yielded c.into_iter-w-iterator.result c.loop-w.w-iterator c.next.new.self _ (cc) (cc) c.loop-w.yielded_by c.in-None.is c.next.ensures.steps in
    sym (fits-none a b (length c.loop-w.yielded) (omega arith) (omega arith)) ∙ c.loop-w.invariant
