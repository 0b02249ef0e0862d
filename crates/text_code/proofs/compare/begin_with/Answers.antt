-- `text_code::compare::begin_with` meets its contract. Assumes nothing.
use mathlib.Core.Path.{◌≡◌, sym, ap, ◌∙◌}
use lib.ListN.{drop}
use Rattle.text.specs.Text.{words}
use Rattle.text_code.proofs.WordLaws.{begin-none, begin-short, begin-differs, begin-next, others-left}
use Rattle.text_code.proofs.compare.begin_with.Goals as goal

pub loop-want-init : goal.loop-want-init
loop-want-init c =
    let left : words c.next.new.self.rest.now ≡ drop 1 (words c.args.line.now) =
    others-left _ _ c.next.result c.next.ensures.steps ∙ ap (λ s. drop 1 (words s)) c.each_word-others.ensures
    in
    let all : words c.into_iter-want-iterator.result.rest.now ≡ words c.args.wanted.now = cc in
    rw (left, all)

pub returns-in_default : goal.returns-in_default
returns-in_default c = sym (begin-short c.in-Some.ensures.steps c.in_default.ensures.steps.0) ∙ c.loop-want.invariant

pub returns-then-not-fits : goal.returns-then-not-fits
returns-then-not-fits c =
    sym (begin-differs c.in-Some.ensures.steps c.in-Some-next.ensures.steps (sym c.fits.ensures ∙ c.if-not-fits.true)) ∙ c.loop-want.invariant

pub loop-want-preserved : goal.loop-want-preserved
loop-want-preserved c =
    begin-next c.in-Some.ensures.steps c.in-Some-next.ensures.steps (sym c.fits.ensures ∙ c.if-not-fits.false) ∙ c.loop-want.invariant

pub returns : goal.returns
returns c = sym (begin-none _ _ c.in-None.ensures.steps.0) ∙ c.loop-want.invariant
