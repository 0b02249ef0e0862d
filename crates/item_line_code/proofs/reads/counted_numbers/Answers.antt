-- `item_line_code::reads::counted_numbers` meets its contract. Assumes nothing.
use native.Mathlib.Omega.{arith}
use Rattle.item_line.specs.OwnRead.{as_fault}
use Rattle.item_line_code.specs.OwnReads.{count_line}
use Rattle.item_line_code.proofs.ReadLaws.{few_words, count-wrong, count_fits, count-few, count-many}
use Rattle.item_line_code.proofs.reads.counted_numbers.Goals as goal

pub returns-then-count-least : goal.returns-then-count-least
unfolding count_line as_fault
returns-then-count-least c = λ line. count-few _ c.requires.2 c.args.text.now _ c.args.numbers.now (rw c.requires.1 (omega (arith, few_words c.args.text.now c.args.rest c.requires.0))) _ c.numbers_in.ensures _ _ line c.in-All.is c.if-count-least.true

pub returns-then-most-count : goal.returns-then-most-count
unfolding count_line as_fault
returns-then-most-count c = λ line. count-many _ c.requires.2 c.args.text.now _ c.args.numbers.now (rw c.requires.1 (omega (arith, few_words c.args.text.now c.args.rest c.requires.0))) _ c.numbers_in.ensures _ _ line c.in-All.is c.if-most-count.true

pub returns-in-Wrong : goal.returns-in-Wrong
unfolding count_line as_fault
returns-in-Wrong c = λ line. count-wrong _ c.requires.2 c.args.text.now _ c.args.numbers.now (rw c.requires.1 (omega (arith, few_words c.args.text.now c.args.rest c.requires.0))) _ c.numbers_in.ensures _ _ line c.in-Wrong.is

pub returns-else-most-count : goal.returns-else-most-count
unfolding count_line as_fault
returns-else-most-count c = λ line. count_fits _ c.requires.2 c.args.text.now _ c.args.numbers.now (rw c.requires.1 (omega (arith, few_words c.args.text.now c.args.rest c.requires.0))) _ c.numbers_in.ensures _ _ line c.in-All.is c.if-count-least.false c.if-most-count.false
