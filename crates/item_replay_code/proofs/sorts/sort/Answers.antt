-- `item_replay_code::sorts::sort` meets its contract.
-- Assumes nothing.
use mathlib.Core.Path.{refl}
use Rattle.item_answer_code.specs.OwnSteps.{is_show}
use Rattle.item_replay_code.specs.OwnLine.{OfSort}
use Rattle.item_line.specs.OwnRead.{as_line}
use Rattle.item_answer.specs.OwnRoom.{is_ticks}
use Rattle.item_replay_code.proofs.sorts.sort.Goals as goal

pub returns-in-Silent : goal.returns-in-Silent
unfolding OfSort as_line is_ticks is_show
returns-in-Silent c = λ text numbers. rw c.in-Silent.is (refl, refl)

pub returns-in-Bad : goal.returns-in-Bad
unfolding OfSort as_line is_ticks is_show
returns-in-Bad c = λ text numbers. rw c.in-Bad.is (refl, refl)

pub returns-in-Item : goal.returns-in-Item
unfolding OfSort as_line is_ticks is_show
returns-in-Item c = λ text numbers. rw c.in-Item.is (refl, refl)

pub returns-in-Show : goal.returns-in-Show
unfolding OfSort as_line is_ticks is_show
returns-in-Show c = λ text numbers. rw c.in-Show.is

pub returns-in-Expect : goal.returns-in-Expect
unfolding OfSort as_line is_ticks is_show
returns-in-Expect c = λ text numbers. rw c.in-Expect.is (refl, refl)

pub returns-in-Read : goal.returns-in-Read
unfolding OfSort as_line is_ticks is_show
returns-in-Read c = λ text numbers. rw c.in-Read.is (refl, refl)

pub returns-in-Call : goal.returns-in-Call
unfolding as_line
returns-in-Call c = λ text numbers. rw c.in-Call.is (c.sort_call.ensures text numbers)

pub returns-in-Ask : goal.returns-in-Ask
unfolding OfSort as_line is_ticks is_show
returns-in-Ask c = λ text numbers. rw c.in-Ask.is (refl, refl)

pub returns-in-Keep : goal.returns-in-Keep
unfolding OfSort as_line is_ticks is_show
returns-in-Keep c = λ text numbers. rw c.in-Keep.is (refl, refl)
