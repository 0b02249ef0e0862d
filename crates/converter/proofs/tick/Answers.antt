-- `converter::tick` meets its contract.
use Rattle.device.proofs.Table.{replied}
use Rattle.device.specs.Call.{tick}
use Rattle.reply_parts.proofs.Decode.{reply-unsound}
use Rattle.device.specs.Model.{is_sound}
use mathlib.Core.Bool.{false}
use mathlib.Core.Path.{◌≡◌, sym, ◌∙◌}
use borrow.Author.Rules.{rules}
use Rattle.converter.proofs.tick.Goals as goal

pub sound_tick-requires : goal.sound_tick-requires
sound_tick-requires c = sym c.is_sound.ensures ∙ c.if-is_sound.true

pub returns-then-is_sound : goal.returns-then-is_sound
returns-then-is_sound c = replied _ _ (search rules)

pub returns-else-is_sound : goal.returns-else-is_sound
returns-else-is_sound c =
    let m = c.args.m in
    let e : is_sound m ≡ false = sym c.is_sound.ensures ∙ c.if-is_sound.false in
    replied _ _ (c.refuse.ensures ∙ (reply-unsound m tick e).0)
