-- `flash_access::work` meets its contract.
use Rattle.device.specs.Parts.{flash_fits}
use Rattle.flash_access.specs.Work.{flash_done, work_out, work_left}
use Rattle.unit.specs.Choice.{both}
use borrow.Author.Tests.{leb-true, eq-eqb, ne_eqb}
use lib.Dec.{leb}
use mathlib.Core.Bool.{Bool, true, false}
use mathlib.Core.Path.{◌≡◌, refl}
use Prim.Native.Nat.{ℕ, ◌≤◌}
use Rattle.flash_access.proofs.work.Goals as goal

-- the room that each frame needs
erase-room : (op n room : ℕ) → op ≡ 0x13 → flash_fits op n room ≡ true → 2 ≤ n
unfolding flash_fits
erase-room op n room e f = leb-true 2 n (rw e at f)

program-room : (op n room : ℕ) → op ≡ 0x10 → flash_fits op n room ≡ true → 4 ≤ n
unfolding flash_fits
program-room op n room e f = leb-true 4 n (rw e at f)

both_hold : (a b : Bool) → both a b ≡ true → (a ≡ true) × (b ≡ true)
both_hold true b e = (refl, e)
both_hold false b e = (e, cc)

load-room : (op n room : ℕ) → ¬ (op ≡ 0x13) → ¬ (op ≡ 0x10) → flash_fits op n room ≡ true → (2 ≤ n) × (2 ≤ room)
unfolding flash_fits
load-room op n room a b f =
    let (h, k) = both_hold (leb 2 n) (leb 2 room) (rw (ne_eqb op 0x13 a, ne_eqb op 0x10 b) at f) in
    (leb-true 2 n h, leb-true 2 room k)

pub erase-requires : goal.erase-requires
erase-requires c = erase-room _ _ _ c.if-op-eq19.true c.requires

pub returns-then-op-eq19 : goal.returns-then-op-eq19
unfolding flash_done work_out work_left
returns-then-op-eq19 c =
    simp (eq-eqb _ _ c.if-op-eq19.true) (c.erase.ensures.0, refl, c.erase.ensures.1)

pub program-requires : goal.program-requires
program-requires c = program-room _ _ _ c.if-op-eq16.true c.requires

pub returns-then-op-eq16 : goal.returns-then-op-eq16
unfolding flash_done work_out work_left
returns-then-op-eq16 c =
    simp (ne_eqb _ _ c.if-op-eq19.false, eq-eqb _ _ c.if-op-eq16.true) (c.program.ensures.0, refl, c.program.ensures.1)

pub load-requires : goal.load-requires
load-requires c = load-room _ _ _ c.if-op-eq19.false c.if-op-eq16.false c.requires

pub returns : goal.returns
unfolding flash_done work_out work_left
returns c =
    simp (ne_eqb _ _ c.if-op-eq19.false, ne_eqb _ _ c.if-op-eq16.false) (c.load.ensures.0, c.load.ensures.1, refl)
