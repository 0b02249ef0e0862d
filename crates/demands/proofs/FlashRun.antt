-- What a run on one user flash reads back.
use Prim.Native.Nat.{ℕ, ◌/◌, ◌%◌}
use native.Mathlib.Omega.{arith}
use mathlib.Core.Bool.{Bool, true, false}
use mathlib.Core.List.{List, [], ◌∷◌, ◌++◌}
use mathlib.Core.Path.{◌≡◌, refl, ap, sym, ◌∙◌}
use lib.ListN.{length, drop}
use Rattle.unit.specs.Choice.{pick}
use Rattle.unit.proofs.Cases.{by-test, by_eqb}
use Rattle.frame.specs.Frame.{is_command, is_write, is_flash}
use Rattle.flash.specs.Flash.{flash_word, flash_written}
use Rattle.flash.specs.Operation.{Operation, after_one, after_all, last_word, AllInRange}
use Rattle.flash.proofs.Refusal.{address-accepted, erase-accepted}
use Rattle.flash.proofs.Words.{reads-last, length-after}
use Rattle.device.specs.declared.Model.{Model}
use Rattle.device.specs.Model.{fresh_model}
use Rattle.device.specs.FlashFrame.{flash_address, flash_data, flash_unreachable, flash_memory}
use Rattle.device.specs.Call.{Call, transaction, tick, flight, temperature, stretch, opcode, unreachable, Verdict, accepted, refused, verdict}
use Rattle.device.specs.Reply.{number_in, accepted_memory, reply, reply_by, memory, memory_by, memory_of}
use Rattle.demands.specs.EventHistory.{is_refusal}
use Rattle.demands.specs.FlashRun.{lent, memory_left, memory_through, flash_operation, operation_of, operations, FlashClaim}
use Rattle.device.proofs.Table.{none-holds}
use Rattle.demands.proofs.CallSteps.{no-refusal}

-- 16 bits of a word are what a write stores
low_bits : (x : List ℕ) (a w : ℕ) → flash_written x a (w % 65536) ≡ flash_written x a w
unfolding flash_written
low_bits x a w =
    let h : w % 65536 / 256 % 256 ≡ w / 256 % 256 = omega arith in
    let l : w % 65536 % 256 ≡ w % 256 = omega arith in
    rw (h, l)

-- What one accepted flash frame does to the memory is its operation, with an address in range.
abbrev Done : List ℕ → List ℕ → List Operation → Type 0
Done x y os = (y ≡ after_all x os) × AllInRange os

flash-done :
    (op : ℕ) (b x : List ℕ) →
    flash_unreachable op (length x) (flash_address b) ≡ false →
    Done x (flash_memory op b x) (flash_operation op b)
unfolding flash_unreachable flash_memory flash_operation after_all after_one
flash-done op b x =
    by_eqb op 0x10
    (λ e t. rw (t, e) (λ u.
    let (size, even, most) = (address-accepted (length x) (flash_address b)).0 u in
    (sym (low_bits x (flash_address b) (flash_data b)), ((even, most, omega arith), tt))))
    (λ n t. by_eqb op 0x13
    (λ e s. rw (t, s) (λ u. (refl, (((erase-accepted (length x) (flash_address b)).0 u).1, tt))))
    (λ k s. rw (t, s) (λ u. (refl, tt))))

accepted-done :
    (f o x : List ℕ) →
    unreachable (transaction f o x) ≡ false →
    Done x (accepted_memory (transaction f o x)) (operation_of (transaction f o x))
unfolding unreachable accepted_memory operation_of after_all
accepted-done f o x =
    by-test (is_command (opcode f)) (λ c. rw c (λ u. (refl, tt)))
    (λ c. by-test (is_write (opcode f)) (λ w. rw (c, w) (λ u. (refl, tt)))
    (λ w. by-test (is_flash (opcode f))
    (λ v. rw (c, w, v) (flash-done (opcode f) (drop 1 f) x))
    (λ v. rw (c, w, v) (λ u. (refl, tt)))))

-- One call, accepted or refused.
abbrev Told : Model → List ℕ → Call → List Operation
Told m x c = pick (is_refusal (reply m (lent x c)).answer) [] (operation_of c)

idle-done : (m : Model) (x : List ℕ) (b : Bool) → Done x x (pick b [] [])
unfolding after_all
idle-done m x true = (refl, tt)
idle-done m x false = (refl, tt)

call-done : (m : Model) (x : List ℕ) (c : Call) → Done x (memory_left m x c) (Told m x c)
unfolding memory_left lent operation_of reply reply_by memory memory_by memory_of is_refusal number_in after_all
call-done m x (transaction f o y) = go (verdict m (transaction f o x)) refl
  where
    go :
        (v : Verdict) →
        verdict m (transaction f o x) ≡ v →
        Done x (memory_by v (transaction f o x))
        (pick (is_refusal (reply_by v m (transaction f o x)).answer) [] (operation_of (transaction f o y)))
    go accepted e =
        rw (no-refusal m (transaction f o x)) (accepted-done f o x (none-holds m (transaction f o x) e).row16)
    go (refused n) e = (refl, tt)
call-done m x tick = idle-done m x (is_refusal (reply m tick).answer)
call-done m x (flight u d) = idle-done m x (is_refusal (reply m (flight u d)).answer)
call-done m x (temperature w) = idle-done m x (is_refusal (reply m (temperature w)).answer)
call-done m x (stretch n) = idle-done m x (is_refusal (reply m (stretch n)).answer)

last-joined :
    (a : ℕ) (os ps : List Operation) (w : ℕ) → last_word a (os ++ ps) w ≡ last_word a ps (last_word a os w)
unfolding last_word
last-joined a [] ps w = refl
last-joined a (o ∷ os) ps w = last-joined a os ps _

all_read :
    (cs : List Call) (m : Model) (x : List ℕ) (a : ℕ) →
    length x ≡ 8192 →
    a % 2 ≡ 0 →
    flash_word (memory_through m x cs) a ≡ last_word a (operations m x cs) (flash_word x a)
unfolding memory_through operations last_word
all_read [] m x a size even = refl
all_read (c ∷ cs) m x a size even =
    let (left, range) = call-done m x c in
    let y : List ℕ = memory_left m x c in
    let n : Model = (reply m (lent x c)).model in
    let long : length y ≡ 8192 = ap length left ∙ length-after (Told m x c) x ∙ size in
    let word : flash_word y a ≡ last_word a (Told m x c) (flash_word x a) =
    ap (λ z. flash_word z a) left ∙ reads-last (Told m x c) x a size range even in
    all_read cs n y a long even ∙ ap (last_word a (operations n y cs)) word ∙
    sym (last-joined a (Told m x c) (operations n y cs) (flash_word x a))

pub flash-reads : FlashClaim
flash-reads cs x a size even = all_read cs fresh_model x a size even
