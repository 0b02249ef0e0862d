-- "every other list of write frames that does so has at least as many bytes": a frame of n words has 2 × n + 1 bytes, and its
-- registers never weigh more than that; and each word that differs in the end was in some frame.
use Prim.Native.Nat.{ℕ, zero, suc, ◌+◌, ◌-◌, ◌*◌, ◌≤◌, ◌<◌}
use native.Mathlib.Omega.{arith}
use mathlib.Core.Bool.{Bool, true, false}
use mathlib.Core.List.{List, [], ◌∷◌}
use mathlib.Core.Logic.{◌⊎◌, inl}
use mathlib.Core.Path.{◌≡◌, refl}
use lib.ListN.{length, get_or, set, drop, length-append}
use lib.Seq.{get_or-set_other}
use lib.Dec.{ltb}
use borrow.Author.Tests.{eq-eqb, le-ltb, eqb-false}
use Rattle.unit.specs.Choice.{pick, both}
use Rattle.unit.proofs.Cases.{by-test, by-ltb}
use Rattle.setup.specs.Setup.{factory}
use Rattle.frame.specs.Frame.{is_write, word_at}
use Rattle.frame.proofs.Laws.{write_alone, whole-means}
use Rattle.device.specs.declared.Model.{Model}
use Rattle.device.specs.Model.{fresh_model, fresh_with}
use Rattle.device.specs.Write.{with_word, setup_after, write_model}
use Rattle.device.specs.Call.{transaction, opcode, further, words, Verdict, accepted, refused, verdict}
use Rattle.device.specs.Reply.{reply, reply_by}
use Rattle.device.specs.Call.{no_frame, wrong_length}
use Rattle.device.specs.Reply.{accepted_model}
use Rattle.device.specs.History.{after}
use Rattle.device.proofs.Table.{none-holds}
use Rattle.setup_frames.specs.Frames.{differs, frames, all_bytes}
use Rattle.setup_frames.specs.Sending.{sent, setup_from, only_writes}
use Rattle.setup_frames.proofs.Pace.{sum_from, paced, sum-most, sum-but-one}
use Rattle.setup_frames.proofs.Weight.{weight, weight-most, weight-gap, total}

-- what the words of t that differ weigh, by the weights of s
changed : List ℕ → List ℕ → ℕ → ℕ
changed s t i = pick (differs t i) (weight s i) 0

changes : List ℕ → List ℕ → ℕ
changes s t = sum_from (changed s t) 0 16

-- a word more weighs no more than its place
other-places : (s t : List ℕ) (j v i : ℕ) → ¬ (i ≡ j) → changed s (set t j v) i ≤ changed s t i
unfolding changed differs
other-places s t j v i n = rw (get_or-set_other t j i v 0 n) (omega arith)

its-place : (s t u : List ℕ) (j : ℕ) → changed s u j ≤ changed s t j + weight s j
unfolding changed
its-place s t u j = by-test (differs u j) (λ d. rw d (omega arith)) (λ d. rw d (omega arith))

set-adds : (s t : List ℕ) (j v : ℕ) → changes s (set t j v) ≤ changes s t + weight s j
unfolding changes
set-adds s t j v =
    sum-but-one (changed s (set t j v)) (changed s t) j (weight s j) 16 (other-places s t j v) (its-place s t (set t j v) j)

-- the weight of a register a: 30h to 33h weigh nothing
register : List ℕ → ℕ → ℕ
register s a = pick (ltb a 0x34) 0 (weight s (a - 0x34))

register-most : (s : List ℕ) (a : ℕ) → register s a ≤ 2 + 1
unfolding register
register-most s a = by-ltb a 0x34 (λ h e. rw e (omega arith)) (λ h e. rw e (weight-most s (a - 0x34)))

register-gap : (s : List ℕ) (a : ℕ) → (register s a ≡ 0) ⊎ (register s (suc a) ≤ 2)
unfolding register
register-gap s a =
    by-ltb a 0x34 (λ h e. inl (rw e))
    (λ h e.
    let n : suc a - 0x34 ≡ suc (a - 0x34) = omega arith in
    rw (e, le-ltb (suc a) 0x34 (omega arith), n) (weight-gap s (a - 0x34)))

word-adds : (s t : List ℕ) (a w : ℕ) → changes s (with_word t a w) ≤ changes s t + register s a
unfolding with_word register
word-adds s t a w = by-ltb a 0x34 (λ h e. rw e (omega arith)) (λ h e. rw e (set-adds s t (a - 0x34) w))

words-add :
    (s t bytes : List ℕ) (op n : ℕ) → changes s (setup_after bytes op t n) ≤ changes s t + sum_from (register s) op n
unfolding setup_after
words-add s t bytes op zero = omega arith
words-add s t bytes op (suc n) =
    omega (arith, words-add s t bytes op n, word-adds s (setup_after bytes op t n) (op + n) (word_at bytes n))

-- so a write weighs no more than its bytes
write-adds : (s t bytes : List ℕ) (op n : ℕ) → changes s (setup_after bytes op t n) ≤ changes s t + (2 * n + 1)
write-adds s t bytes op n =
    omega (
      arith,
      words-add s t bytes op n,
      paced 2 (register s) (omega arith) (register-most s) (register-gap s) op n,
    )

-- the bytes of an accepted write
write-length :
    (f : List ℕ) →
    is_write (opcode f) ≡ true →
    no_frame (transaction f [] []) ≡ false →
    wrong_length (transaction f [] []) ≡ false →
    length f ≡ 2 * words f + 1
unfolding no_frame wrong_length
write-length f w e =
    rw ((write_alone (opcode f) w).0, w)
    (λ l. omega (arith, eqb-false (length f) 0 e, (whole-means (further f)).0 l))

frame-adds :
    (s : List ℕ) (m : Model) (f : List ℕ) →
    is_write (opcode f) ≡ true →
    changes s (reply m (transaction f [] [])).model.setup ≤ changes s m.setup + length f
unfolding reply reply_by accepted_model write_model
frame-adds s m f w = go (verdict m (transaction f [] [])) refl
  where
    go :
        (v : Verdict) →
        verdict m (transaction f [] []) ≡ v →
        changes s (reply_by v m (transaction f [] [])).model.setup ≤ changes s m.setup + length f
    go accepted e =
        let none = none-holds m (transaction f [] []) e in
        let long : length f ≡ 2 * words f + 1 = write-length f w none.row1 none.row3 in
        rw ((write_alone (opcode f) w).0, w) (omega (arith, write-adds s m.setup (drop 1 f) (opcode f) (words f)))
    go (refused n) e = omega arith

both_hold : (a b : Bool) → both a b ≡ true → (a ≡ true) × (b ≡ true)
both_hold true b e = (refl, e)
both_hold false b e = let z : ◌≡◌ {A = ℕ} 0 1 = cc in absurd (omega arith)

list-adds :
    (s : List ℕ) (fs : List (List ℕ)) (m : Model) →
    only_writes fs ≡ true →
    changes s (after m (sent fs)).setup ≤ changes s m.setup + length (all_bytes fs)
unfolding only_writes after all_bytes
list-adds s [] m w = omega arith
list-adds s (f ∷ fs) m w =
    let (one, others) = both_hold (is_write (opcode f)) (only_writes fs) w in
    omega (
      arith,
      list-adds s fs (reply m (transaction f [] [])).model others,
      frame-adds s m f one,
      length-append f (all_bytes fs),
    )

-- a fresh model has no changes, and the set-up itself those that its frames bring
none-changed : (s : List ℕ) (i : ℕ) → i < 16 → changed s factory i ≤ 0
unfolding changed differs
none-changed s i h = rw (eq-eqb (get_or factory i 0) (get_or factory i 0) refl) (omega arith)

fresh-changes : (s : List ℕ) → changes s fresh_model.setup ≤ 0
unfolding changes fresh_model fresh_with
fresh-changes s = sum-most (changed s factory) (λ i. 0) 16 (none-changed s)

all_changed : (s : List ℕ) (i : ℕ) → i < 16 → weight s i ≤ changed s s i
unfolding changed weight
all_changed s i h = by-test (differs s i) (λ d. rw d (omega arith)) (λ d. rw d (omega arith))

all-changes : (s : List ℕ) → length (all_bytes (frames s)) ≤ changes s s
unfolding changes
all-changes s = omega (arith, total s, sum-most (weight s) (changed s s) 16 (all_changed s))

pub least :
    (s : List ℕ) (fs : List (List ℕ)) →
    only_writes fs ≡ true →
    setup_from fs ≡ s →
    length (all_bytes (frames s)) ≤ length (all_bytes fs)
unfolding setup_from
least s fs w e =
    omega (arith, all-changes s, fresh-changes s, rw e at (list-adds s fs fresh_model w))
