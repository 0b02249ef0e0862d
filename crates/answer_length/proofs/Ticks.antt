-- How long the answers of lines of ticks are at most, a part at a time. Assumes nothing.
use Prim.Native.Nat.{ℕ, zero, suc, ◌+◌, ◌-◌, ◌*◌, ◌/◌, ◌≤◌, min}
use mathlib.Core.List.{List, [], ◌∷◌}
use native.Mathlib.Omega.{arith}
use lib.Dec.{eqb}
use lib.ListN.{get_or, set}
use Rattle.unit.proofs.Cases.{by_eqb}
use Rattle.device.specs.declared.Model.{Model}
use Rattle.device.specs.declared.Answer.{Answer}
use Rattle.device.specs.declared.Answer.TheVariants.{Refused, Accepted, Ticked, Stretched, Good, Failed}
use Rattle.device.specs.Call.{Call}
use Rattle.device.specs.Reply.{reply}
use Rattle.numeral.specs.Ascii.{ascii}
use Rattle.wording.specs.Wording.{Texts, line_feed, numbered, next_named, no_tick}
use Rattle.item_calls.specs.Lines.{moved, stretch_reports, onward, ticked}
use Rattle.answer_text.specs.Texts.{told_of_head, end_texts, told_of_part, told_of_ticks, told_of_tick, told_of_at}
use Rattle.answer_length.proofs.Sizes.{size, size-append, cond-size, numbered-size}
use Rattle.answer_length.proofs.Calls.{named-size, told-single-size}

stretch-size : (answer : Answer) (before : ℕ) → size (stretch_reports answer before) ≤ 448
unfolding size stretch_reports
stretch-size (Refused r) before = omega arith
stretch-size (Accepted flight temperature) before = omega arith
stretch-size (Ticked flight temperature) before = omega arith
stretch-size (Stretched flight temperature) before = cond-size (eqb (next_named flight temperature 0) no_tick) [] _ 448 (omega arith) (named-size flight temperature before)
stretch-size Good before = omega arith
stretch-size Failed before = omega arith

-- So much for each stretch of 16,384 ticks, and the last one.
ticked-size : (turns n before : ℕ) (m : Model) → size (ticked turns n before m).texts ≤ 448 * ((n + 16383) / 16384)
unfolding size ticked onward
ticked-size zero n before m = omega arith
ticked-size (suc turns) n before m =
    let span : ℕ = min n 16384 in
    let answer : Answer = (reply m (Call.stretch span)).answer in
    let rest = ticked-size turns (n - span) (before + span) (reply m (Call.stretch span)).model in
    by_eqb n 0 (λ h e. rw e (omega arith))
    (λ h e. rw (e, size-append) (omega (arith, stretch-size answer before, rest)))

end-size : (left : ℕ) → size (end_texts left) ≤ 1
unfolding size end_texts
end-size left = cond-size (eqb left 0) (line_feed ∷ []) [] 1 (omega arith) (omega arith)

-- A part has at most 64 stretches.
part-size : (total : ℕ) (m : Model) (counts : List ℕ) → size (told_of_part total m counts).texts ≤ 28673
unfolding told_of_part
part-size total m counts =
    let left : ℕ = min (get_or counts 21 0) total in
    let n : ℕ = min left 1048576 in
    rw size-append (omega (arith, ticked-size n n (total - left) m, end-size (left - n)))

head-size : (head : Texts) (n : ℕ) (after counts : List ℕ) → size (told_of_head head n after counts).texts ≤ size head
unfolding size told_of_head
head-size head n after counts = by_eqb (get_or counts 21 0) 0 (λ h e. rw e (omega arith)) (λ h e. rw e (omega arith))

ticks-size : (n : ℕ) (m : Model) (counts : List ℕ) → size (told_of_ticks n m counts).texts ≤ 28698
unfolding told_of_ticks ascii
ticks-size n m counts =
    let text = numbered (ascii "tick ") n in
    let after : List ℕ = moved n counts in
    rw size-append
    (omega (arith, head-size text n after counts, numbered-size (ascii "tick ") n, part-size n m (told_of_head text n after counts).counts))

pub told-tick-size : (n : ℕ) (m : Model) (counts : List ℕ) → size (told_of_tick n m counts).texts ≤ 28698
unfolding told_of_tick
told-tick-size n m counts =
    by_eqb n 1 (λ h e. rw e (omega (arith, told-single-size m counts))) (λ h e. rw e (ticks-size n m counts))

pub told-at-size : (t : ℕ) (m : Model) (counts : List ℕ) → size (told_of_at t m counts).texts ≤ 28698
unfolding told_of_at ascii
told-at-size t m counts =
    let text = numbered (ascii "at ") t in
    let n : ℕ = t - get_or counts 9 0 in
    let after : List ℕ = set counts 9 t in
    rw size-append
    (omega (arith, head-size text n after counts, numbered-size (ascii "at ") t, part-size t m (told_of_head text n after counts).counts))
