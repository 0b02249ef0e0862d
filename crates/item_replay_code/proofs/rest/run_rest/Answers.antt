-- `item_replay_code::rest::run_rest` meets its contract.
-- Assumes nothing.
use borrow.Author.Rules.{rules}
use Rattle.item_replay_code.proofs.RestLaws.{rest-runs}
use Rattle.item_replay_code.proofs.rest.run_rest.Goals as goal

pub overflow_add-moment : goal.overflow_add-moment
overflow_add-moment c =
    let pre = c.requires in
    let ran = c.run_ticks-r.ensures.going.count in
    search (rules, pre, ran)

pub returns : goal.returns
returns c = rest-runs _ _ _ _ _ _ _ _ _ _ c.run_ticks-r.result c.run_ticks-r.ensures c.put_ending-end.ensures c.requires.3
