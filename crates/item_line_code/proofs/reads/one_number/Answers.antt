-- `item_line_code::reads::one_number` meets its contract. Assumes nothing.
use Rattle.std.proofs.lemmas.Result.{err_from_is_err_and}
use mathlib.Core.Path.{sym, ◌∙◌}
use Rattle.text.specs.OwnPart.{part}
use Rattle.item_line.specs.OwnRead.{as_fault}
use Rattle.item_line_code.specs.OwnReads.{number_line}
use Rattle.item_line_code.proofs.ReadLaws.{counted_none, counted-some, one_none, one-wrong, one_value, wrong-of}
use Rattle.item_line_code.proofs.reads.one_number.Goals as goal

pub returns-then-end-start : goal.returns-then-end-start
unfolding number_line as_fault part
returns-then-end-start c = λ line. one_none _ line (c.next_in-word.ensures.none c.if-end-start.true)

pub returns-in_err-v : goal.returns-in_err-v
unfolding number_line as_fault part
returns-in_err-v c =
    let p = err_from_is_err_and c.from_residual.result c.from_residual.ensures.1 in rw (p.1, p.2, wrong-of _ _ _ c.in_err-v.ensures.value)
    (λ line. one-wrong _ line (c.next_in-word.ensures.some c.if-end-start.false) (sym c.number_in.ensures ∙ c.in_err-v.ensures.ok_part))

pub returns-then-more : goal.returns-then-more
unfolding number_line as_fault part
returns-then-more c =
    λ line. counted_none _ _ (c.next_in-more.ensures.none c.if-more.true) ∙ one_value _ line (c.next_in-word.ensures.some c.if-end-start.false) (sym c.number_in.ensures ∙ c.in_ok-v.ensures.ok_part)

pub returns-else-more : goal.returns-else-more
unfolding number_line as_fault part
returns-else-more c =
    λ line. counted-some _ (c.next_in-more.ensures.some c.if-more.false) ∙ one_value _ line (c.next_in-word.ensures.some c.if-end-start.false) (sym c.number_in.ensures ∙ c.in_ok-v.ensures.ok_part)
