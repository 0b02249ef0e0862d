-- `item_line_code::calls::decimal_line` meets its contract. Assumes nothing.
use Rattle.std.proofs.lemmas.Result.{err_from_is_err_and}
use Rattle.item_line_code.specs.OwnReads.{as_read}
use Rattle.item_line.specs.Line.{Line}
use Rattle.item_line.specs.Reading.{decimal}
use Rattle.item_line.specs.OwnRead.{as_expected, as_line}
use Rattle.item_line_code.specs.OwnNumbers.{read_as, number_in, formed}
use Rattle.item_line_code.specs.OwnReads.{counted_call}
use Rattle.item_line_code.proofs.CallLaws.{number-fault, number-value}
use Rattle.item_line_code.proofs.calls.decimal_line.Goals as goal

pub returns-in_err-n : goal.returns-in_err-n
unfolding as_read as_line formed number_in read_as decimal
returns-in_err-n c = let p = err_from_is_err_and c.from_residual.result c.from_residual.ensures.1 in λ l. rw (p.1, p.2) (number-fault c.args.text.now _ (λ n. Line.call (counted_call c.args.counted n) (as_expected c.args.text.now c.args.expected)) (c.one_number.ensures (λ n. Line.call (counted_call c.args.counted n) (as_expected c.args.text.now c.args.expected))) c.in_err-n.was)

pub returns : goal.returns
unfolding as_read as_line formed number_in read_as decimal
returns c = λ l. rw (c.counted_call.ensures l) (number-value c.args.text.now _ (λ n. Line.call (counted_call c.args.counted n) (as_expected c.args.text.now c.args.expected)) (c.one_number.ensures (λ n. Line.call (counted_call c.args.counted n) (as_expected c.args.text.now c.args.expected))) c.in_ok-n.was)
