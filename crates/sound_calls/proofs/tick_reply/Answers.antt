-- `sound_calls::tick_reply` meets its contract.
use Rattle.device.proofs.Replies.{reply-tick}
use Rattle.sound_calls.proofs.tick_reply.Goals as goal

pub returns : goal.returns
returns c = simp (reply-tick c.args.m c.requires, ← c.tick_model.ensures, ← c.report_of-2.ensures, ← c.report_of.ensures)
