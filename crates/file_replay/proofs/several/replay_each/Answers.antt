-- `file_replay::several::replay_each` meets its contract: the buffers keep their lengths, so the summary has room.
-- Assumes nothing.
use native.Mathlib.Omega.{arith}
use Rattle.collection.proofs.Room.{summary-whole}
use Rattle.file_replay.proofs.Run.{summed}
use Rattle.file_replay.proofs.several.replay_each.Goals as goal

pub returns : goal.returns
returns g c =
    let kept = c.gather-tally.auto in
    let asked = c.requires in
    summed c.gather-tally.ensures
    (summary-whole
    _
    (record {
      differ = omega (arith, kept.differ, asked.1);
      unannounced = omega (arith, kept.unannounced, asked.2);
      bad = omega (arith, kept.bad, asked.3);
      unread = omega (arith, kept.unread, asked.4);
      plain = omega (arith, kept.plain, asked.5);
    })
    asked.0
    c.put_summary.ensures)
