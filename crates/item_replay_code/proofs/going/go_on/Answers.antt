-- `item_replay_code::going::go_on` meets its contract.
-- Assumes nothing.
use Rattle.item_replay_code.proofs.TurnLaws.{bounded-few, turns-rest}
use Rattle.item_replay_code.proofs.going.go_on.Goals as goal

pub after_rest-requires : goal.after_rest-requires
after_rest-requires c = bounded-few c.requires.0.bounded

pub returns : goal.returns
returns c =
    let pre = c.requires in
    let bytes = c.first_bytes-text.ensures in
    turns-rest pre.0 pre.1 (rw bytes at c.run_rest-r.ensures) (rw bytes at c.after_rest.ensures)
