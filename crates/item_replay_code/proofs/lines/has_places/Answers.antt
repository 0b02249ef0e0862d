-- `item_replay_code::lines::has_places` meets its contract.
-- Assumes nothing.
use Prim.Native.Nat.{ℕ, ◌+◌, ◌-◌, ◌≤◌}
use mathlib.Core.Path.{◌≡◌, sym, ◌∙◌}
use native.Mathlib.Omega.{arith}
use lib.Dec.{leb}
use borrow.Author.Tests.{le-leb, lt-leb}
use Rattle.unit.proofs.Cases.{by-leb}
use Rattle.item_replay_code.proofs.lines.has_places.Goals as goal

room : (used places : ℕ) → 100000 ≤ places → leb used (places - 100000) ≡ leb (used + 100000) places
room used places h =
    by-leb used (places - 100000)
    (λ l e. e ∙ sym (le-leb (used + 100000) places (omega arith)))
    (λ l e. e ∙ sym (lt-leb (used + 100000) places (omega arith)))

pub returns-then-places-ge-ROOM : goal.returns-then-places-ge-ROOM
returns-then-places-ge-ROOM c = room c.args.used c.args.places c.if-places-ge-ROOM.true

pub returns-else-places-ge-ROOM : goal.returns-else-places-ge-ROOM
returns-else-places-ge-ROOM c =
    rw (lt-leb 100000 c.args.places c.if-places-ge-ROOM.false, lt-leb (c.args.used + 100000) c.args.places (omega (arith, c.if-places-ge-ROOM.false)))
