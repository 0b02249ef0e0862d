-- A frame of the user flash, done or refused.
use Prim.Native.Nat.{ℕ}
use mathlib.Core.Bool.{Bool, true, false}
use mathlib.Core.Path.{◌≡◌, refl, ap, ◌∙◌}
use mathlib.Core.List.{List}
use native.Mathlib.Omega.{arith}
use lib.Dec.{eqb}
use lib.ListN.{length}
use Rattle.unit.specs.Choice.{pick, either}
use Rattle.flash.specs.Flash.{address_refused, erase_refused, not_erased}
use Rattle.device.specs.declared.Model.{Model}
use Rattle.device.specs.declared.Reply.{Reply}
use Rattle.device.specs.FlashFrame.{flash_address, flash_model}
use Rattle.device.specs.Reply.{refuse}
use Rattle.device.specs.Parts.{accept, erase_reply, program_reply, load_reply}
use Rattle.flash_access.specs.Work.{Done, erase_done, program_done, load_done, flash_done, work_model}
use Rattle.refusal.specs.declared.Refusal.{Refusal}
use Rattle.std.specs.Prelude.{Result, Ok, Err}

-- the reply to a frame that leaves the model l where it is done
abbrev replied_by : Done → Model → Model → Reply
replied_by (Ok u) l m = accept false false l
replied_by (Err r) l m = refuse r m

by-tests :
    (m e p : Model) (a b c d n : Bool) →
    replied_by
    (pick a (pick c (Err Refusal.FlashAddress) (Ok tt))
    (pick b (pick d (Err Refusal.FlashAddress) (pick n (Err Refusal.NotErased) (Ok tt))) (pick d (Err Refusal.FlashAddress) (Ok tt))))
    (pick a e (pick b p m))
    m
    ≡ pick a (pick c (refuse Refusal.FlashAddress m) (accept false false e))
    (pick b (pick d (refuse Refusal.FlashAddress m) (pick n (refuse Refusal.NotErased m) (accept false false p))) (pick d (refuse Refusal.FlashAddress m) (accept false false m)))
by-tests m e p true b true d n = refl
by-tests m e p true b false d n = refl
by-tests m e p false true c true n = refl
by-tests m e p false true c false true = refl
by-tests m e p false true c false false = refl
by-tests m e p false false c true n = refl
by-tests m e p false false c false n = refl

module _ (m : Model) (op : ℕ) (b x : List ℕ) where
  abbrev replied : Reply
  replied = pick (eqb op 0x13) (erase_reply m b x) (pick (eqb op 0x10) (program_reply m b x) (load_reply m b x))

  by_work : replied_by (flash_done op b x) (work_model m op) m ≡ replied
  unfolding flash_done erase_done program_done load_done work_model erase_reply program_reply load_reply
  by_work =
      by-tests m (flash_model m 0x13) (flash_model m 0x10) (eqb op 0x13) (eqb op 0x10)
      (erase_refused (length x) (flash_address b))
      (address_refused (length x) (flash_address b))
      (not_erased x (flash_address b))

  pub refused-is : (r : Refusal) → flash_done op b x ≡ Err r → refuse r m ≡ replied
  refused-is r e = rw e at by_work

  pub done-is : (u : Unit {0}) → flash_done op b x ≡ Ok u → accept false false (work_model m op) ≡ replied
  done-is u e = rw e at by_work

-- a frame that changes the memory changes the status too, and another leaves the model
pub changed-is : (m : Model) (op : ℕ) (r : Model) → either (eqb op 0x13) (eqb op 0x10) ≡ true → r ≡ flash_model m 0x10 → r ≡ flash_model m 0x13 → r ≡ work_model m op
unfolding work_model
changed-is m op r t p q = go (eqb op 0x13) (eqb op 0x10) t
  where
    go : (a c : Bool) → either a c ≡ true → r ≡ pick a (flash_model m 0x13) (pick c (flash_model m 0x10) m)
    go true c t = q
    go false true t = p
    go false false t = absurd (let z : ◌≡◌ {A = ℕ} 0 1 = cc in omega arith)

pub kept-is : (m : Model) (op : ℕ) → either (eqb op 0x13) (eqb op 0x10) ≡ false → m ≡ work_model m op
unfolding work_model
kept-is m op t = go (eqb op 0x13) (eqb op 0x10) t
  where
    go : (a c : Bool) → either a c ≡ false → m ≡ pick a (flash_model m 0x13) (pick c (flash_model m 0x10) m)
    go true c t = absurd (let z : ◌≡◌ {A = ℕ} 0 1 = cc in omega arith)
    go false true t = absurd (let z : ◌≡◌ {A = ℕ} 0 1 = cc in omega arith)
    go false false t = refl
