-- `converter::transaction` meets its contract.
use Rattle.device.proofs.Table.{replied}
use Rattle.device.specs.Call.{transaction}
use Rattle.device.specs.Reply.{buffer_of, memory_of}
use Rattle.device.specs.Model.{is_sound}
use Rattle.reply_parts.proofs.Decode.{reply-unsound}
use mathlib.Core.Bool.{false}
use mathlib.Core.Path.{◌≡◌, sym, ◌∙◌}
use Rattle.converter.proofs.transaction.Goals as goal

pub sound_transaction-requires : goal.sound_transaction-requires
sound_transaction-requires c = sym c.is_sound.ensures ∙ c.if-is_sound.true

pub returns-then-is_sound : goal.returns-then-is_sound
returns-then-is_sound c =
    let (r, o, x) = c.sound_transaction.ensures in
    record { replied = replied _ _ r; output = o; memory = x }

pub returns-else-is_sound : goal.returns-else-is_sound
unfolding buffer_of memory_of
returns-else-is_sound c =
    let start = c.args in
    let e : is_sound start.m ≡ false = sym c.is_sound.ensures ∙ c.if-is_sound.false in
    let r = reply-unsound start.m (transaction start.frame.now start.out.now start.mem.now) e in
    record { replied = replied _ _ (c.refuse.ensures ∙ r.0); output = r.1; memory = r.2 }
