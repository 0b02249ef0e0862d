-- `line_reader::text::put_blanked` meets its contract. The invariant: to go on from i gives what is to be written; the measure is what is left of the bytes.
-- Assumes nothing.
use mathlib.Core.Path.{refl, ◌∙◌}
use native.Mathlib.Omega.{arith}
use Rattle.line.proofs.WordLaws.{words-end}
use Rattle.line.proofs.SpacedLaws.{blanked-end, blanked-next}
use Rattle.line_reader.proofs.text.put_blanked.Goals as goal

pub loop-i-init : goal.loop-i-init
loop-i-init c = (omega arith, refl, refl)

pub next_word-word-requires : goal.next_word-word-requires
next_word-word-requires c = omega arith

pub shape_of-buf-then-end-start : goal.shape_of-buf-then-end-start
shape_of-buf-then-end-start c = c.loop-i.invariant.1

pub returns-then-end-start : goal.returns-then-end-start
returns-then-end-start c = blanked-end _ _ (c.next_word-word.ensures.none c.if-end-start.true) ∙ c.loop-i.invariant.2

pub put_blank-place-requires : goal.put_blank-place-requires
put_blank-place-requires c = tt

pub slice_bounds-put_text-count : goal.slice_bounds-put_text-count
slice_bounds-put_text-count c = omega arith

pub slice_bounds-put_text-start : goal.slice_bounds-put_text-start
slice_bounds-put_text-start c = omega arith

pub slice_bounds-put_text-end : goal.slice_bounds-put_text-end
slice_bounds-put_text-end c = c.next_word-word.ensures.high

pub put_text-place-requires : goal.put_text-place-requires
put_text-place-requires c = tt

pub loop-i-smaller : goal.loop-i-smaller
loop-i-smaller c = omega arith

pub loop-i-preserved : goal.loop-i-preserved
loop-i-preserved c =
    let k = c.loop-i in
    let next = c.next_word-word.ensures in (
      next.high,
      c.put_text-place.auto.buf ∙ c.put_blank-place.auto.buf ∙ k.invariant.1,
      blanked-next _ _ (next.some c.if-end-start.false) c.put_blank-place.ensures c.put_text-place.ensures ∙ k.invariant.2,
    )

pub shape_of-buf : goal.shape_of-buf
shape_of-buf c = c.loop-i.invariant.1

pub returns : goal.returns
returns c = blanked-end _ _ (words-end _ _ c.loop-i-test.false) ∙ c.loop-i.invariant.2
