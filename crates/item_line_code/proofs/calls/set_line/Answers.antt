-- `item_line_code::calls::set_line` meets its contract. Assumes nothing.
use Rattle.std.proofs.lemmas.Result.{err_from_is_err_and}
use Rattle.item_line_code.specs.OwnReads.{as_read}
use mathlib.Core.Path.{refl, ◌∙◌}
use Rattle.item_line.specs.Line.{Call, Line}
use Rattle.item_line.specs.Reading.{hex, each, with, counted, set_line}
use Rattle.item_line.specs.OwnRead.{as_expected, as_call, as_line}
use Rattle.item_line_code.specs.OwnNumbers.{read_as, number_in, formed}
use Rattle.item_line_code.proofs.CallLaws.{numbers-fault, numbers-count, address-fault, address-rest, rest-within}
use Rattle.item_line_code.proofs.calls.set_line.Goals as goal

pub counted_numbers-requires : goal.counted_numbers-requires
counted_numbers-requires c = (rest-within c.args.text.now _ c.address_in.ensures.within c.in_ok-a.was, c.requires.1, refl)

pub returns-in_err-a : goal.returns-in_err-a
unfolding as_read as_line as_call formed number_in read_as hex set_line
returns-in_err-a c = let p = err_from_is_err_and c.from_residual.result c.from_residual.ensures.1 in rw (p.1, p.2) (address-fault c.args.text.now _ (λ a ws. with (each (hex 1 4) ws) (λ ns. counted 1 99 ws (Line.call (Call.set a ns) (as_expected c.args.text.now c.args.expected)))) (c.address_in.ensures.addressed_read (λ a ws. with (each (hex 1 4) ws) (λ ns. counted 1 99 ws (Line.call (Call.set a ns) (as_expected c.args.text.now c.args.expected))))) c.in_err-a.was)

pub returns-in_err-n : goal.returns-in_err-n
unfolding as_read as_line as_call formed number_in read_as hex set_line
returns-in_err-n c = let p = err_from_is_err_and c.from_residual-in_err-n.result c.from_residual-in_err-n.ensures.1 in rw (p.1, p.2) (numbers-fault c.args.text.now _ _ _ (c.counted_numbers.ensures _) c.in_err-n.was ∙ address-rest c.args.text.now _ (λ a ws. with (each (hex 1 4) ws) (λ ns. counted 1 99 ws (Line.call (Call.set a ns) (as_expected c.args.text.now c.args.expected)))) (c.address_in.ensures.addressed_read (λ a ws. with (each (hex 1 4) ws) (λ ns. counted 1 99 ws (Line.call (Call.set a ns) (as_expected c.args.text.now c.args.expected))))) c.in_ok-a.was)

pub returns : goal.returns
unfolding as_read as_line as_call formed number_in read_as hex set_line
returns c = numbers-count c.args.text.now _ _ _ (c.counted_numbers.ensures _) c.in_ok-n.was ∙ address-rest c.args.text.now _ (λ a ws. with (each (hex 1 4) ws) (λ ns. counted 1 99 ws (Line.call (Call.set a ns) (as_expected c.args.text.now c.args.expected)))) (c.address_in.ensures.addressed_read (λ a ws. with (each (hex 1 4) ws) (λ ns. counted 1 99 ws (Line.call (Call.set a ns) (as_expected c.args.text.now c.args.expected))))) c.in_ok-a.was
