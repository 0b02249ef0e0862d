-- `file_replay::single::replay_file` meets its contract.
-- Assumes nothing.
use Rattle.file_replay.proofs.SingleLaws.{came_from}
use Rattle.file_replay.proofs.single.replay_file.Goals as goal

pub returns-then-is_input : goal.returns-then-is_input
returns-then-is_input g c = came_from _ c.replay_opened.ensures.0 c.replay_opened.ensures.1

pub returns : goal.returns
returns g c = came_from _ c.replay_opened-2.ensures.0 c.replay_opened-2.ensures.1
