-- `text_code::put::put_spaced` meets its contract. Assumes nothing.
use mathlib.Core.Path.{◌≡◌, sym, ap, ◌∙◌}
use mathlib.Core.List.{◌∷◌}
use Rattle.text.specs.Text.{words, spaced, spaced_each}
use Rattle.text.proofs.Putting.{puts_none, puts_first}
use Rattle.numeral.specs.Ascii.{ascii}
use Rattle.text_code.proofs.put.put_spaced.Goals as goal

pub returns-in_default : goal.returns-in_default
unfolding spaced
returns-in_default c =
    let none = sym (ap words c.each_word-others.ensures) ∙ c.in_default.ensures.steps.0 in
    rw none (puts_none _ _)

pub loop-word-init : goal.loop-word-init
unfolding spaced
loop-word-init c =
    let all : words c.args.s.now ≡ c.in-Some.first.now ∷ words c.into_iter-word-iterator.result.rest.now =
    sym (ap words c.each_word-others.ensures) ∙ c.in-Some.ensures.steps ∙ cc
    in
    λ r t p. rw all (puts_first c.put_text-place.ensures p)

pub loop-word-preserved : goal.loop-word-preserved
unfolding spaced_each ascii
loop-word-preserved c =
    λ r t p. c.loop-word.invariant r t (rw c.in-Some-word.ensures.steps (puts_first c.put_text-place-in-loop-word.ensures (puts_first c.put_text-place-in-loop-word-2.ensures p)))

pub returns : goal.returns
unfolding spaced_each
returns c = c.loop-word.invariant _ _ (rw c.in-None.ensures.steps.0 (puts_none _ _))
