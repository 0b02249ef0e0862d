-- `converter::temperature_delivery` meets its contract.
use Rattle.device.proofs.Table.{replied}
use Rattle.device.specs.Call.{temperature}
use Rattle.reply_parts.proofs.Decode.{reply-unsound}
use Rattle.device.specs.Model.{is_sound}
use mathlib.Core.Bool.{false}
use mathlib.Core.Path.{◌≡◌, sym, ◌∙◌}
use borrow.Author.Rules.{rules}
use Rattle.converter.proofs.temperature_delivery.Goals as goal

pub sound_temperature_delivery-requires : goal.sound_temperature_delivery-requires
sound_temperature_delivery-requires c = sym c.is_sound.ensures ∙ c.if-is_sound.true

pub returns-then-is_sound : goal.returns-then-is_sound
returns-then-is_sound c = replied _ _ (search rules)

pub returns-else-is_sound : goal.returns-else-is_sound
returns-else-is_sound c =
    let m = c.args.m in
    let e : is_sound m ≡ false = sym c.is_sound.ensures ∙ c.if-is_sound.false in
    replied _ _ (c.refuse.ensures ∙ (reply-unsound m (temperature c.args.words.now) e).0)
