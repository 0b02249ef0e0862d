-- What a piece of a text comes to. Assumes nothing.
use Prim.Native.Nat.{ℕ, zero, suc, ◌+◌, ◌-◌, ◌≤◌}
use native.Mathlib.Nat.{add-zero}
use native.Mathlib.Omega.{arith}
use mathlib.Core.Bool.{Bool, true, false}
use mathlib.Core.List.{List, [], ◌∷◌, ◌++◌, append-nil, append_assoc}
use mathlib.Core.Path.{◌≡◌, refl, sym, ap, ◌∙◌}
use lib.ListN.{length, drop, length-drop, length-append}
use lib.Seq.{drop-append-le, drop-append-add, drop-append_seam, drop-drop, take-append-le, take-append_seam}
use Rattle.text.specs.Text.{Text, ended, begun_before, lines_after, lines}
use Rattle.text.proofs.Apart.{Each, none, first, InLine, line-begun}
use Rattle.item_answer.specs.Answer.{Item, fresh_item}
use Rattle.item_answer.specs.Step.{Tally, no_tally, Step, step}
use Rattle.item_replay.specs.Replay.{plus, last_line, replay_from, replay}
use Rattle.item_replay.specs.Going.{Rest, Going, fresh_going, steps, coming_after, coming, texts, total, to_write, all_steps, Went}

-- ---- the whole text

-- A replay is what its steps write, and the last line of their counts.
replay-steps :
    (number : ℕ) (ls : List Text) (i : Item) (t : Tally) →
    replay_from number ls i t ≡ texts (steps number ls i) ++ ended (last_line (total t (steps number ls i)))
unfolding replay_from steps texts total
replay-steps number [] i t = refl
replay-steps number (l ∷ ls) i t =
    let s = step number l i in
    ap (λ r. s.text ++ r) (replay-steps (number + 1) ls s.item (plus t s.adds))
    ∙ sym (append_assoc s.text (texts (steps (number + 1) ls s.item)) _)

-- Before the first piece all of the replay is still to be written.
pub fresh-writes : (text : Text) → to_write fresh_going text ≡ replay text
unfolding to_write coming coming_after fresh_going replay lines
fresh-writes text = sym (replay-steps 1 (lines_after [] text) fresh_item no_tally)

-- ---- steps in order

pub join-none : (ss : List Step) → all_steps [] [] ss ≡ ss
unfolding all_steps
join-none [] = refl
join-none (s ∷ ss) = refl

join-append : (ds es : List Step) (part : Text) (ss : List Step) → all_steps (ds ++ es) part ss ≡ all_steps ds [] (all_steps es part ss)
unfolding all_steps
join-append [] es part ss = sym (join-none (all_steps es part ss))
join-append (d ∷ ds) es part ss = ap (λ l. d ∷ l) (join-append ds es part ss)

total-append : (t : Tally) (ds es : List Step) → total t (ds ++ es) ≡ total (total t ds) es
unfolding total
total-append t [] es = refl
total-append t (d ∷ ds) es = total-append (plus t d.adds) ds es

-- What is written when steps are all_steps, with the last line.
text-joined : (ds : List Step) (part : Text) (s : Step) (ss : List Step) → texts (all_steps ds part (s ∷ ss)) ≡ (texts ds ++ part) ++ texts (s ∷ ss)
unfolding all_steps texts
text-joined [] part s ss = append_assoc part s.text (texts ss)
text-joined (d ∷ ds) part s ss =
    ap (λ l. d.text ++ l) (text-joined ds part s ss) ∙ (sym (append_assoc d.text (texts ds ++ part) _) ∙ ap (λ l. l ++ texts (s ∷ ss)) (sym (append_assoc d.text (texts ds) part)))

-- ---- pieces

-- Nothing taken, nothing done.
pub went-none : (g : Going) (piece : Text) → Went g piece 0 [] [] g
unfolding total
went-none g piece = record { steps = λ more. sym (join-none (coming g (piece ++ more))); tally = refl; most = omega arith }

-- One part after the other.
pub went_then :
    {g h k : Going} {piece : Text} {a b : ℕ} {ds es : List Step} {part : Text} →
    Went g piece a ds [] h → Went h (drop a piece) b es part k → Went g piece (a + b) (ds ++ es) part k
went_then {g} {h} {k} {piece} {a} {b} {ds} {es} {part} p q =
    let l : b ≤ length (drop a piece) = q.most in
    record {
      steps = λ more.
          p.steps more
          ∙ (ap (all_steps ds []) (q.steps more)
          ∙ (sym (join-append ds es part (coming k (drop b (drop a piece) ++ more))) ∙ rw (drop-drop b a piece)));
      tally = q.tally ∙ rw (p.tally, total-append);
      most = let n = p.most in let m : b ≤ length piece - a = rw length-drop at l in omega arith;
    }

-- ---- what is written

total-joined : (t : Tally) (ds : List Step) (part : Text) (ss : List Step) → total t (all_steps ds part ss) ≡ total (total t ds) ss
unfolding all_steps total
total-joined t [] part [] = refl
total-joined t [] part (s ∷ ss) = refl
total-joined t (d ∷ ds) part ss = total-joined (plus t d.adds) ds part ss

text-done : (ds ss : List Step) → texts (all_steps ds [] ss) ≡ texts ds ++ texts ss
unfolding all_steps texts
text-done [] [] = refl
text-done [] (s ∷ ss) = refl
text-done (d ∷ ds) ss = ap (λ l. d.text ++ l) (text-done ds ss) ∙ sym (append_assoc d.text (texts ds) (texts ss))

-- what is written, by what comes
write-joined :
    (g h : Going) (piece more : Text) (taken : ℕ) (done : List Step) (part : Text) → Went g piece taken done part h →
    let ss = coming h (drop taken piece ++ more) in
    texts (all_steps done part ss) ≡ (texts done ++ part) ++ texts ss →
    to_write g (piece ++ more) ≡ (texts done ++ part) ++ to_write h (drop taken piece ++ more)
unfolding to_write
write-joined g h piece more taken done part w e =
    rw (w.steps more, e, total-joined g.tally done part (coming h (drop taken piece ++ more)), ← w.tally)
    (append_assoc (texts done ++ part) (texts (coming h (drop taken piece ++ more))) _)

-- A piece after which no line is under way: what it wrote, and what is still written where a text follows, is what was to be written before it.
pub writes-on :
    (g h : Going) (piece more : Text) (taken : ℕ) (done : List Step) → Went g piece taken done [] h →
    to_write g (piece ++ more) ≡ texts done ++ to_write h (drop taken piece ++ more)
writes-on g h piece more taken done w =
    write-joined g h piece more taken done [] w (text-done done (coming h (drop taken piece ++ more)) ∙ rw (append-nil (texts done)))
    ∙ rw (append-nil (texts done))

-- The same of one after which a line of ticks is.
pub writes-part :
    (g h : Going) (piece more : Text) (taken : ℕ) (done : List Step) (part : Text) (left next : ℕ) (differs : Bool) → Went g piece taken done part h →
    h.rest ≡ Rest.ticks left next differs → to_write g (piece ++ more) ≡ (texts done ++ part) ++ to_write h (drop taken piece ++ more)
unfolding coming coming_after
writes-part g h piece more taken done part left next differs w e =
    write-joined g h piece more taken done part w (rw e (text-joined done part _ _))
