-- `sound_calls::quiet_reply` meets its contract.
use Rattle.device.proofs.Replies.{reply-tick}
use Rattle.ticking.proofs.Quiet.{quiet-flight, quiet-temperature}
use Rattle.sound_calls.proofs.quiet_reply.Goals as goal

pub returns : goal.returns
returns c =
    let m = c.args.m in
    let k = c.requires in
    simp (reply-tick m k.0, quiet-flight m k.1, quiet-temperature m k.1, ← c.quiet_tick.ensures)
