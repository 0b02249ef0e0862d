-- `file_replay::single::replay_opened` meets its contract.
-- Assumes nothing.
use mathlib.Core.Bool.{true≢false}
use mathlib.Core.Path.{sym, ◌∙◌}
use Rattle.file_replay.proofs.SingleLaws.{not-open, is_open}
use Rattle.file_replay.proofs.single.replay_opened.Goals as goal

pub returns-in-Err : goal.returns-in-Err
returns-in-Err g c =
    let closed = not-open c.args.opened c.in-Err.is in
    (λ e. c.not_read.ensures, λ opened. absurd (true≢false (sym opened ∙ closed)))

pub returns-in-Ok : goal.returns-in-Ok
returns-in-Ok g c =
    let opened = is_open c.args.opened c.in-Ok.is in
    (λ closed. absurd (true≢false (sym opened ∙ closed)), λ e. c.replay.ensures)
