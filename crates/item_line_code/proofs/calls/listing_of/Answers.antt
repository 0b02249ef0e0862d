-- `item_line_code::calls::listing_of` meets its contract. Assumes nothing.
use Rattle.std.proofs.lemmas.Result.{err_from_is_err_and}
use Rattle.item_line_code.specs.OwnReads.{as_read}
use Rattle.item_line.specs.Line.{Call, Line}
use Rattle.item_line.specs.Reading.{hex}
use Rattle.item_line.specs.OwnRead.{as_expected, as_call, as_line}
use Rattle.item_line_code.specs.OwnNumbers.{read_as, number_in, formed}
use Rattle.item_line_code.proofs.CallLaws.{number-fault, number-value}
use Rattle.item_line_code.proofs.calls.listing_of.Goals as goal

pub returns-in_err-c : goal.returns-in_err-c
unfolding as_read as_line as_call formed number_in read_as hex
returns-in_err-c c = let p = err_from_is_err_and c.from_residual.result c.from_residual.ensures.1 in λ l. rw (p.1, p.2) (number-fault c.args.text.now _ (λ n. Line.call (Call.listing c.args.width n) (as_expected c.args.text.now c.args.expected)) (rw c.word_form.ensures at (c.one_number.ensures (λ n. Line.call (Call.listing c.args.width n) (as_expected c.args.text.now c.args.expected)))) c.in_err-c.was)

pub returns : goal.returns
unfolding as_read as_line as_call formed number_in read_as hex
returns c = λ l. number-value c.args.text.now _ (λ n. Line.call (Call.listing c.args.width n) (as_expected c.args.text.now c.args.expected)) (rw c.word_form.ensures at (c.one_number.ensures (λ n. Line.call (Call.listing c.args.width n) (as_expected c.args.text.now c.args.expected)))) c.in_ok-c.was
