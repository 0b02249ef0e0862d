-- `item_line_code::calls::record_line` meets its contract. Assumes nothing.
use Rattle.std.proofs.lemmas.Result.{err_from_is_err_and}
use Rattle.item_line_code.specs.OwnReads.{as_read}
use Rattle.item_line.specs.Line.{Keep, Line}
use Rattle.item_line.specs.OwnRead.{as_expected, as_keep, as_line}
use mathlib.Core.Path.{◌∙◌}
use mathlib.Core.List.{map}
use Rattle.difference.specs.Difference.{signed_of}
use Rattle.item_line_code.proofs.ReadLaws.{few_words}
use Rattle.item_line_code.proofs.CallLaws.{numbers-fault, numbers-count, record-read}
use Rattle.item_line_code.proofs.calls.record_line.Goals as goal

pub returns-in_err-n : goal.returns-in_err-n
unfolding as_read as_line as_keep
returns-in_err-n c = let p = err_from_is_err_and c.from_residual.result c.from_residual.ensures.1 in rw (p.1, p.2) (numbers-fault c.args.text.now _ _ (λ ns. Line.keep (Keep.differences (map signed_of ns)) (as_expected c.args.text.now c.args.expected)) ((c.counted_numbers.ensures (λ ns. Line.keep (Keep.differences (map signed_of ns)) (as_expected c.args.text.now c.args.expected))) ∙ record-read (as_expected c.args.text.now c.args.expected) _ (few_words c.args.text.now c.args.rest c.requires.0)) c.in_err-n.was)

pub returns : goal.returns
unfolding as_read as_line as_keep
returns c = numbers-count c.args.text.now _ _ (λ ns. Line.keep (Keep.differences (map signed_of ns)) (as_expected c.args.text.now c.args.expected)) ((c.counted_numbers.ensures (λ ns. Line.keep (Keep.differences (map signed_of ns)) (as_expected c.args.text.now c.args.expected))) ∙ record-read (as_expected c.args.text.now c.args.expected) _ (few_words c.args.text.now c.args.rest c.requires.0)) c.in_ok-n.was
