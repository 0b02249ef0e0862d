-- `item_line_code::calls::temperature_line` meets its contract. Assumes nothing.
use Rattle.std.proofs.lemmas.Result.{err_from_is_err_and}
use Rattle.item_line_code.specs.OwnReads.{as_read}
use Rattle.item_line.specs.Line.{Call, Line}
use Rattle.item_line.specs.OwnRead.{as_expected, as_call, as_line}
use Rattle.item_line_code.specs.OwnNumbers.{read_as, number_in, formed}
use Rattle.item_line.specs.Reading.{hex, temperature_line}
use Rattle.item_line_code.proofs.CallLaws.{numbers-fault, numbers-count}
use Rattle.item_line_code.proofs.calls.temperature_line.Goals as goal

pub returns-in_err-n : goal.returns-in_err-n
unfolding as_read as_line as_call formed number_in read_as hex temperature_line
returns-in_err-n c = let p = err_from_is_err_and c.from_residual.result c.from_residual.ensures.1 in rw (p.1, p.2) (numbers-fault c.args.text.now _ _ (λ ns. Line.call (Call.temperature ns) (as_expected c.args.text.now c.args.expected)) (rw c.word_form.ensures at (c.counted_numbers.ensures (λ ns. Line.call (Call.temperature ns) (as_expected c.args.text.now c.args.expected)))) c.in_err-n.was)

pub returns : goal.returns
unfolding as_read as_line as_call formed number_in read_as hex temperature_line
returns c = numbers-count c.args.text.now _ _ (λ ns. Line.call (Call.temperature ns) (as_expected c.args.text.now c.args.expected)) (rw c.word_form.ensures at (c.counted_numbers.ensures (λ ns. Line.call (Call.temperature ns) (as_expected c.args.text.now c.args.expected)))) c.in_ok-n.was
