-- `file_replay::several::replay_several` meets its contract: its buffers are as long as `replay_each` requires.
-- Assumes nothing.
use Rattle.file_replay.proofs.Run.{zeros-room, zeros-few}
use Rattle.file_replay.proofs.several.replay_several.Goals as goal

pub replay_each-end-requires : goal.replay_each-end-requires
replay_each-end-requires g c =
    (zeros-room 331776, zeros-few 65536, zeros-few 65536, zeros-few 65536, zeros-few 65536, zeros-few 65536)

pub returns : goal.returns
returns g c =
    record { summary = _; summed = c.replay_each-end.ensures }
