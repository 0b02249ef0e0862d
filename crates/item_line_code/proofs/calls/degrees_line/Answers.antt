-- `item_line_code::calls::degrees_line` meets its contract. Assumes nothing.
use Rattle.std.proofs.lemmas.Result.{err_from_is_err_and}
use Rattle.item_line_code.specs.OwnReads.{as_read}
use mathlib.Core.Path.{sym, ◌∙◌}
use Rattle.text.specs.OwnPart.{part}
use Rattle.item_line.specs.OwnRead.{as_fault, as_call, as_line}
use Rattle.item_line_code.proofs.CallLaws.{degrees-none, degrees-wrong, degrees-fault, degrees-value}
use Rattle.item_line_code.proofs.ReadLaws.{wrong-of}
use Rattle.item_line_code.proofs.calls.degrees_line.Goals as goal

pub returns-then-end-start : goal.returns-then-end-start
unfolding as_read as_line as_fault as_call part
returns-then-end-start c = degrees-none _ (c.next_in-word.ensures.none c.if-end-start.true)

pub returns-in_err-a : goal.returns-in_err-a
unfolding as_read as_line as_fault as_call part
returns-in_err-a c =
    let p = err_from_is_err_and c.from_residual.result c.from_residual.ensures.1 in rw (p.1, p.2, wrong-of _ _ _ c.in_err-a.ensures.value)
    (degrees-wrong _ (c.next_in-word.ensures.some c.if-end-start.false) (rw c.word_form.ensures at (sym c.number_in.ensures ∙ c.in_err-a.ensures.ok_part)))

pub returns-in_err-b : goal.returns-in_err-b
unfolding as_read as_line as_fault as_call part
returns-in_err-b c = let p = err_from_is_err_and c.from_residual-in_err-b.result c.from_residual-in_err-b.ensures.1 in rw (p.1, p.2) (degrees-fault _ (c.next_in-word.ensures.some c.if-end-start.false) c.args.text.now _ (rw c.word_form-2.ensures at c.one_number.ensures) (rw c.word_form.ensures at (sym c.number_in.ensures ∙ c.in_ok-a.ensures.ok_part)) c.in_err-b.was)

pub returns : goal.returns
unfolding as_read as_line as_fault as_call part
returns c = rw (c.store-2.ensures, c.store.ensures) (degrees-value _ (c.next_in-word.ensures.some c.if-end-start.false) c.args.text.now _ (rw c.word_form-2.ensures at c.one_number.ensures) (rw c.word_form.ensures at (sym c.number_in.ensures ∙ c.in_ok-a.ensures.ok_part)) c.in_ok-b.was c.args.numbers.now c.requires.1)
