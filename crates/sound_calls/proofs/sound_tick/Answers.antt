-- `sound_calls::sound_tick` meets its contract.
use mathlib.Core.Path.{sym, ◌∙◌}
use borrow.Author.Tests.{ltb-true}
use Rattle.sound_calls.proofs.sound_tick.Goals as goal

pub quiet_reply-requires : goal.quiet_reply-requires
quiet_reply-requires c = (
  c.requires,
  ltb-true _ _ (sym c.next_is_quiet.ensures ∙ c.if-next_is_quiet.true),
)

pub tick_reply-requires : goal.tick_reply-requires
tick_reply-requires c = c.requires
