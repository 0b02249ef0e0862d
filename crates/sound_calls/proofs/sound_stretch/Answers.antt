-- `sound_calls::sound_stretch` meets its contract.
use borrow.Author.Tests.{lt-ltb, le-ltb}
use Rattle.device.proofs.Replies.{reply-stretch}
use Rattle.device.specs.Model.{is_sound}
use mathlib.Core.Bool.{true}
use mathlib.Core.Path.{◌≡◌}
use Rattle.sound_calls.proofs.sound_stretch.Goals as goal

pub returns-then-n : goal.returns-then-n
returns-then-n c =
    let m = c.args.m in
    let s : is_sound m ≡ true = c.requires in
    simp (reply-stretch m s c.args.n.0, c.refuse.ensures, lt-ltb _ _ c.if-n.true)

pub returns : goal.returns
returns c =
    let m = c.args.m in
    let s : is_sound m ≡ true = c.requires in
    simp (reply-stretch m s c.args.n.0, le-ltb _ _ c.if-n.false, ← c.run-end.ensures)
