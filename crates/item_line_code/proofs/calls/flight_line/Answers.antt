-- `item_line_code::calls::flight_line` meets its contract. Assumes nothing.
use Rattle.item_line_code.specs.OwnReads.{as_read}
use mathlib.Core.Path.{◌∙◌}
use native.Mathlib.Omega.{arith}
use Rattle.item_line.specs.OwnRead.{as_fault, as_expected, as_call, as_line}
use Rattle.item_line_code.proofs.ReadLaws.{few_words}
use Rattle.item_line_code.proofs.CallLaws.{flight-wrong, parts-wrong, parts_up, parts-down, parts-fit}
use Rattle.item_line_code.proofs.calls.flight_line.Goals as goal

pub returns-then-slashes-ne1 : goal.returns-then-slashes-ne1
unfolding as_read as_line as_fault as_call
returns-then-slashes-ne1 c = parts-wrong (as_expected c.args.text.now c.args.expected) c.args.text.now _ c.args.numbers.now (rw c.requires.1 (omega (arith, few_words c.args.text.now c.args.rest c.requires.0))) _ c.numbers_in.ensures (c.numbers_in.auto.numbers ∙ c.requires.1) c.in-All.is c.if-slashes-ne1.true

pub returns-then-up-gt16 : goal.returns-then-up-gt16
unfolding as_read as_line as_fault as_call
returns-then-up-gt16 c = parts_up (as_expected c.args.text.now c.args.expected) c.args.text.now _ c.args.numbers.now (rw c.requires.1 (omega (arith, few_words c.args.text.now c.args.rest c.requires.0))) _ c.numbers_in.ensures (c.numbers_in.auto.numbers ∙ c.requires.1) c.in-All.is c.if-slashes-ne1.false c.if-up-gt16.true

pub returns-then-down-gt16 : goal.returns-then-down-gt16
unfolding as_read as_line as_fault as_call
returns-then-down-gt16 c = parts-down (as_expected c.args.text.now c.args.expected) c.args.text.now _ c.args.numbers.now (rw c.requires.1 (omega (arith, few_words c.args.text.now c.args.rest c.requires.0))) _ c.numbers_in.ensures (c.numbers_in.auto.numbers ∙ c.requires.1) c.in-All.is c.if-slashes-ne1.false c.if-up-gt16.false (rw c.saturating_sub-down.ensures at c.if-down-gt16.true)

pub returns-in-Wrong : goal.returns-in-Wrong
unfolding as_read as_line as_fault as_call
returns-in-Wrong c = flight-wrong (as_expected c.args.text.now c.args.expected) c.args.text.now _ c.args.numbers.now (rw c.requires.1 (omega (arith, few_words c.args.text.now c.args.rest c.requires.0))) _ c.numbers_in.ensures c.in-Wrong.is

pub returns-else-down-gt16 : goal.returns-else-down-gt16
unfolding as_read as_line as_fault as_call
returns-else-down-gt16 c = rw c.saturating_sub-down.ensures (parts-fit (as_expected c.args.text.now c.args.expected) c.args.text.now _ c.args.numbers.now (rw c.requires.1 (omega (arith, few_words c.args.text.now c.args.rest c.requires.0))) _ c.numbers_in.ensures (c.numbers_in.auto.numbers ∙ c.requires.1) c.in-All.is c.if-slashes-ne1.false c.if-up-gt16.false (rw c.saturating_sub-down.ensures at c.if-down-gt16.false))
