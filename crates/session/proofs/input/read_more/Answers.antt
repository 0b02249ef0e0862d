-- `session::input::read_more` meets its contract.
-- Assumes nothing.
use Prim.Native.Nat.{◌-◌, ◌≤◌}
use mathlib.Core.Path.{◌≡◌}
use native.Mathlib.Omega.{arith}
use lib.ListN.{length}
use borrow.Rule.Slice.PartMut.{put_mid, take_put}
use Rattle.session.proofs.InputLaws.{read-on}
use borrow.Author.Rules.{rules}
use Rattle.session.proofs.input.read_more.Goals as goal

pub returns : goal.returns
returns g c =
    let start = c in
    let held = c.args.held in
    let part = c.args.part.now in
    let read = c.read-got.new.buf in
    let room : held ≤ length part = omega (arith, c.requires) in
    let same = take_put held (length part - held) part read room in
    let after = put_mid held (length part - held) part read in
    let long : length after ≡ length part = search rules in
    let told = c.after_read.ensures in
    (rw (told.0, told.1) (read-on _ part after held c.requires long same), told.2)
