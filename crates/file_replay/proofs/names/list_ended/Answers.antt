-- `file_replay::names::list_ended` meets its contract.
-- Assumes nothing.
use mathlib.Core.Path.{refl}
use Rattle.file_replay.proofs.names.list_ended.Goals as goal

pub returns-then-length-eq0 : goal.returns-then-length-eq0
returns-then-length-eq0 g c =
    record { none = λ e. c.argument.ensures; some = λ other. absurd (other c.if-length-eq0.true) }

pub returns : goal.returns
returns g c =
    record { none = λ e. absurd (c.if-length-eq0.false e); some = λ other. (c.past_list.ensures.0, c.past_list.ensures.1, refl) }
