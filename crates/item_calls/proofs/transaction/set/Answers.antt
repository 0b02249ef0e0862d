-- `item_calls::transaction::set` meets its contract.
-- Assumes nothing.
use mathlib.Core.Path.{ap, ◌∙◌}
use mathlib.Core.List.{List}
use Prim.Native.Nat.{ℕ}
use Rattle.numeral.specs.Place.{joined}
use Rattle.item_calls.specs.Lines.{set_line, transacted, write_bytes}
use Rattle.item_state.specs.Log.{called}
use Rattle.item_calls.proofs.Steps.{frame-of-parts, set-fits}
use Rattle.item_calls.proofs.transaction.set.Goals as goal

pub returns : goal.returns
unfolding set_line transacted called
returns c = rw (← (c.first_bytes.ensures ∙ frame-of-parts (rw c.first_words.ensures (set-fits c.args.a c.args.words c.args.numbers.now c.requires)) c.put_write-n.ensures ∙ ap (λ (ws : List ℕ). joined (write_bytes c.args.a ws)) c.first_words.ensures), ← c.transaction-reply.ensures.replied.reply, ← c.transaction-reply.ensures.memory, ← c.put_set-used.ensures.next, ← c.put_set-used.ensures.bytes, ← c.count_call.ensures, ← c.start_moment.ensures)
