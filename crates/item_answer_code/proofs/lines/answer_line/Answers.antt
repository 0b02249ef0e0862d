-- `item_answer_code::lines::answer_line` meets its contract. Assumes nothing.
use mathlib.Core.Path.{refl}
use Rattle.item_line.specs.OwnRead.{as_line}
use Rattle.item_answer.specs.Answer.{transacted}
use Rattle.item_answer.specs.Step.{line_step, compared_step}
use Rattle.item_answer_code.proofs.Firsts.{compared-steps, call-ready, shown-elsewhere}
use Rattle.item_answer_code.proofs.lines.answer_line.Goals as goal

pub pass-requires : goal.pass-requires
pass-requires c = c.requires.few

pub bad-requires : goal.bad-requires
bad-requires c = c.requires.few

pub item-requires : goal.item-requires
item-requires c = c.requires.flash

pub pass-requires-in-Show : goal.pass-requires-in-Show
pass-requires-in-Show c = c.requires.few

pub expect-requires : goal.expect-requires
unfolding as_line
expect-requires c = rw c.in-Expect.is at c.requires.bound

pub read-requires : goal.read-requires
unfolding as_line
read-requires c = (c.requires.sound, (rw c.in-Read.is at c.requires.bound))

pub call-requires : goal.call-requires
call-requires c = call-ready c.args.numbers.now c.args.text.now _ _ (rw c.in-Call.is at c.requires)

pub ask-requires : goal.ask-requires
ask-requires c = c.requires.few

pub keep-requires : goal.keep-requires
keep-requires c = (c.requires.sound, c.requires.few, c.requires.differences, c.requires.entries)

pub returns-in-Silent : goal.returns-in-Silent
unfolding as_line line_step
returns-in-Silent c = rw c.in-Silent.is (c.pass.ensures _ _ _ _)

pub returns-in-Bad : goal.returns-in-Bad
unfolding as_line line_step
returns-in-Bad c = rw c.in-Bad.is (c.bad.ensures _ _ _)

pub returns-in-Item : goal.returns-in-Item
unfolding as_line line_step
returns-in-Item c = rw c.in-Item.is (c.item.ensures _ _)

pub returns-in-Show : goal.returns-in-Show
returns-in-Show c = shown-elsewhere c.args.text.now c.args.numbers.now (rw c.in-Show.is at c.requires)

pub returns-in-Expect : goal.returns-in-Expect
unfolding as_line line_step compared_step
returns-in-Expect c = rw c.in-Expect.is (compared-steps (c.expect.ensures.any _) c.requires.few (λ i. refl) (λ i. refl) refl)

pub returns-in-Read : goal.returns-in-Read
unfolding as_line line_step compared_step transacted
returns-in-Read c = rw c.in-Read.is (compared-steps c.read.ensures c.requires.few (λ i. refl) (λ i. refl) refl)

pub returns-in-Call : goal.returns-in-Call
unfolding as_line
returns-in-Call c = rw c.in-Call.is (c.call.ensures _)

pub returns-in-Ask : goal.returns-in-Ask
unfolding as_line line_step
returns-in-Ask c = rw c.in-Ask.is (c.ask.ensures _ _ _)

pub returns-in-Keep : goal.returns-in-Keep
unfolding as_line line_step
returns-in-Keep c = rw c.in-Keep.is (c.keep.ensures _)
