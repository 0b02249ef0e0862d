-- `item_line_code::calls::bus_line` meets its contract. Assumes nothing.
use Rattle.item_line_code.specs.OwnReads.{as_read}
use Rattle.std.proofs.lemmas.Result.{err_from_is_err_and}
use mathlib.Core.Path.{sym, ◌∙◌}
use Rattle.text.specs.OwnPart.{part}
use Rattle.item_line.specs.OwnRead.{as_fault, as_output, as_line}
use Rattle.item_line_code.proofs.CallLaws.{bus-none, bus-plain, bus-wrong, bus-out}
use Rattle.item_line_code.proofs.ReadLaws.{wrong-of}
use Rattle.item_line_code.proofs.calls.bus_line.Goals as goal

pub returns-then-end-start : goal.returns-then-end-start
unfolding as_read as_line as_fault as_output part
returns-then-end-start c = c.bytes_line.ensures ∙ bus-none _ (c.next_in-word.ensures.none c.if-end-start.true)

pub returns-in_err-n : goal.returns-in_err-n
unfolding as_read as_line as_fault as_output part
returns-in_err-n c =
    let p = err_from_is_err_and c.from_residual.result c.from_residual.ensures.1 in rw (p.1, p.2, wrong-of _ _ _ c.in_err-n.ensures.value)
    (bus-wrong _ (c.next_in-word.ensures.some c.if-end-start.false) (sym c.is_out.ensures ∙ c.if-is_out.true) (sym c.size.ensures ∙ c.in_err-n.ensures.ok_part))

pub returns-in_ok-n : goal.returns-in_ok-n
unfolding as_read as_line as_fault as_output part
returns-in_ok-n c = c.bytes_line-then-is_out.ensures ∙ bus-out _ (c.next_in-word.ensures.some c.if-end-start.false) (sym c.is_out.ensures ∙ c.if-is_out.true) (sym c.size.ensures ∙ c.in_ok-n.ensures.ok_part)

pub returns-else-is_out : goal.returns-else-is_out
unfolding as_read as_line as_fault as_output part
returns-else-is_out c = c.bytes_line-else-is_out.ensures ∙ bus-plain _ (c.next_in-word.ensures.some c.if-end-start.false) (sym c.is_out.ensures ∙ c.if-is_out.false)
