-- `item_replay_code::sorts::expected_of` meets its contract.
-- Assumes nothing.
use Rattle.item_line.specs.OwnRead.{as_expected, as_line}
use Rattle.item_replay.specs.Going.{expected_of}
use Rattle.item_replay_code.proofs.sorts.expected_of.Goals as goal

pub returns-in-Silent : goal.returns-in-Silent
unfolding as_expected as_line expected_of
returns-in-Silent c = λ text numbers. rw c.in-Silent.is

pub returns-in-Bad : goal.returns-in-Bad
unfolding as_expected as_line expected_of
returns-in-Bad c = λ text numbers. rw c.in-Bad.is

pub returns-in-Item : goal.returns-in-Item
unfolding as_expected as_line expected_of
returns-in-Item c = λ text numbers. rw c.in-Item.is

pub returns-in-Show : goal.returns-in-Show
unfolding as_expected as_line expected_of
returns-in-Show c = λ text numbers. rw c.in-Show.is

pub returns-in-Expect : goal.returns-in-Expect
unfolding as_expected as_line expected_of
returns-in-Expect c = λ text numbers. rw c.in-Expect.is

pub returns-in-Read : goal.returns-in-Read
unfolding as_expected as_line expected_of
returns-in-Read c = λ text numbers. rw c.in-Read.is

pub returns-in-Call : goal.returns-in-Call
unfolding as_expected as_line expected_of
returns-in-Call c = λ text numbers. rw c.in-Call.is

pub returns-in-Ask : goal.returns-in-Ask
unfolding as_expected as_line expected_of
returns-in-Ask c = λ text numbers. rw c.in-Ask.is

pub returns-in-Keep : goal.returns-in-Keep
unfolding as_expected as_line expected_of
returns-in-Keep c = λ text numbers. rw c.in-Keep.is
