-- What is written of a file that can't be read to its end: the definition's text for the lines that have ended in what was read, without
-- the line that was not ended and without the last line. Assumes nothing.
use Prim.Native.Nat.{ℕ, ◌≤◌, ◌<◌}
use mathlib.Core.Bool.{Bool, true, false, true≢false, false≢true}
use mathlib.Core.List.{List, [], ◌++◌, append-nil}
use mathlib.Core.Logic.{◌⊎◌, ⊎_elim, inl, inr}
use mathlib.Core.Path.{◌≡◌, refl, sym, ap, subst, ◌∙◌}
use native.Mathlib.Omega.{arith}
use lib.ListN.{length, get_or}
use borrow.Author.Tests.{eqb-false, ltb-false}
use Rattle.line_buffer.specs.Lines.{has_line, lines_in, whole_text, each_line}
use Rattle.collection.specs.declared.Outcome.{Outcome}
use Rattle.session.specs.Flush.{written_now}
use Rattle.session.specs.Input.{goes_on, was_whole}
use Rattle.session.specs.Ends.{last_said, outcome_of}
use Rattle.session.specs.Turns.{Turned, turned, flushed, turned_on, reading, left_over}
use Rattle.session.specs.Turns.{Reached, begun, line, read, ended, failed, done, broken, Replayed}
use Rattle.session.proofs.FeedLaws.{fed-none}
use Rattle.replay_text.specs.Replay.{page_line, first_page}
use Rattle.replay_text.proofs.Loop.{used_of}
use Rattle.replay_text.proofs.Sim.{counts_of, Idle, idle-flushed, idle-bytes}
use Rattle.replay_text.proofs.Written.{lines-written, none_written, counts-written}
use Rattle.replay_text.proofs.Outcome.{ended_page, kept, here, ended_here, whole-told, replay-ends}

module _ (path : List ℕ) (check : Bool) where
  -- What was written is the page of the lines that have ended, and nothing is left to be written or answered.
  record Off (pieces : List (List ℕ)) (t : Turned) : Type 0 where
    idle : Idle t.text t.fed (ended_page path check pieces)
    used : used_of t.fed ≡ 0
    left : left_over t ≡ []

  off-failed : {n : ℕ} {pieces : List (List ℕ)} {t : Turned} (r : Reached path check n pieces 0 t) (none : has_line (left_over (turned_on t)) ≡ false)
      → Off pieces (reading [] (turned_on t))
  unfolding reading
  off-failed {n} {pieces} {t} r none =
      let k = kept path check r in
      let now = here path check n pieces 0 t k none in
      let page = ended_here path check n pieces 0 t k none refl in
      record {
        idle = idle-bytes (turned_on t).text (turned_on t).fed (ended_page path check pieces) [] (subst (Idle (turned_on t).text (turned_on t).fed) page now.0);
        used = now.1;
        left = refl;
      }

  no_line : (t : Turned) → left_over t ≡ [] → has_line (left_over t) ≡ false
  unfolding has_line
  no_line t none = rw none

  -- a turn that finds no bytes
  off-turned : (pieces : List (List ℕ)) (t : Turned) → Off pieces t → Off pieces (reading [] (turned_on t))
  unfolding reading turned_on turned
  off-turned pieces t o =
      let page = ended_page path check pieces in
      let k = idle-flushed t.text t.fed page o.idle in
      rw (fed-none (length (left_over t)) t.fed (no_line t o.left)) record {
        idle = idle-bytes (t.text ++ written_now t.fed.replay.state.log) (flushed t.fed) page [] k.0;
        used = k.1;
        left = refl;
      }

  still-none : (t : Turned) → left_over t ≡ [] → has_line (left_over (turned_on t)) ≡ false
  unfolding turned_on turned flushed
  still-none t none = rw (fed-none (length (left_over t)) t.fed (no_line t none)) (no_line t none)

  stopped : goes_on 4 ≡ true → ⊥
  unfolding goes_on
  stopped e = false≢true e

  off : {n : ℕ} {pieces : List (List ℕ)} {state : ℕ} {t : Turned} → Reached path check n pieces state t → (state ≡ 2) ⊎ (state ≡ 4) → Off pieces t
  off begun e = absurd (⊎_elim (λ (x : 0 ≡ 2). omega arith) (λ (x : 0 ≡ 4). omega arith) e)
  off (line {n} {pieces} {state} {t} r going some) e =
      absurd (⊎_elim (λ (x : state ≡ 2). true≢false (sym some ∙ still-none t (off r (inl x)).left)) (λ (x : state ≡ 4). stopped (rw x at going)) e)
  off (read r none piece some) e = absurd (⊎_elim (λ (x : 0 ≡ 2). omega arith) (λ (x : 0 ≡ 4). omega arith) e)
  off (ended r none) e = absurd (⊎_elim (λ (x : 1 ≡ 2). omega arith) (λ (x : 1 ≡ 4). omega arith) e)
  off (failed r none) e = off-failed r none
  off (done r none) e = absurd (⊎_elim (λ (x : 3 ≡ 2). omega arith) (λ (x : 3 ≡ 4). omega arith) e)
  off (broken {n} {pieces} {t} r none) e = off-turned pieces t (off r (inl refl))

  -- A file that breaks off: what is written is the text of the lines that have ended in what was read, and of no others,
  module _ {n : ℕ} {pieces : List (List ℕ)} {t : Turned} (r : Reached path check n pieces 4 t) where
    broken-off : Off pieces t
    broken-off = off r (inr refl)

    pub broken-text : t.text ≡ (each_line page_line (lines_in (whole_text pieces)) (first_page path check)).text
    broken-text = lines-written t (ended_page path check pieces) broken-off.idle broken-off.used

    -- behind which nothing is written, no last line either;
    pub broken-end : written_now (last_said false t.fed.replay.state.log) ≡ []
    unfolding last_said
    broken-end = none_written t (ended_page path check pieces) broken-off.idle broken-off.used

    -- and the counts are theirs, but for the places of the buffer.
    pub broken-counts : (k : ℕ) → (k ≡ 0 → ⊥) → (k ≡ 12 → ⊥) → (k ≡ 13 → ⊥) → (k ≡ 20 → ⊥)
        → get_or (counts_of t.fed) k 0 ≡ get_or (each_line page_line (lines_in (whole_text pieces)) (first_page path check)).replay.state.log.counts k 0
    broken-counts = counts-written t (ended_page path check pieces) broken-off.idle broken-off.used

    broken-outcome : outcome_of (was_whole 4) (counts_of t.fed) ≡ outcome_of false (ended_page path check pieces).replay.state.log.counts
    unfolding outcome_of was_whole
    broken-outcome =
        let same : (k : ℕ) → 0 < k → k < 12 → get_or (counts_of t.fed) k 0 ≡ get_or (ended_page path check pieces).replay.state.log.counts k 0
        = λ k low high. broken-counts k (λ e. omega arith) (λ e. omega arith) (λ e. omega arith) (λ e. omega arith) in
        rw (same 5 (omega arith) (omega arith), same 6 (omega arith) (omega arith), same 7 (omega arith) (omega arith), same 8 (omega arith) (omega arith))

  -- ---- what `replay` in session ensures

  broke-off : (state : ℕ) → goes_on state ≡ false → was_whole state ≡ false → state ≤ 4 → state ≡ 4
  unfolding goes_on was_whole
  broke-off state still part known = omega (arith, ltb-false state 3 still, eqb-false state 3 part, known)

  -- A replay that does not read its file to the end, of less than 4,500 terabytes:
  module _ {outcome : Outcome} (r : Replayed path check outcome) (few : length (whole_text r.pieces) < 4500000000000000) (part : outcome.whole ≡ false) where
    at-break : r.state ≡ 4
    at-break =
        broke-off r.state (replay-ends path check r few) (whole-told path check r.state (counts_of r.last.fed) r.told part) (kept path check r.reached).known

    there : Reached path check r.turns r.pieces 4 r.last
    there = subst (λ (s : ℕ). Reached path check r.turns r.pieces s r.last) at-break r.reached

    -- its turns write what the definition writes for the lines that have ended in what was read,
    pub replay-broken-written : r.last.text ++ written_now (last_said false r.last.fed.replay.state.log)
        ≡ (each_line page_line (lines_in (whole_text r.pieces)) (first_page path check)).text
    replay-broken-written = rw (broken-end there, append-nil r.last.text) (broken-text there)

    -- and it hands back what the definition counts for them.
    pub replay-broken : outcome ≡ outcome_of false (each_line page_line (lines_in (whole_text r.pieces)) (first_page path check)).replay.state.log.counts
    replay-broken = r.told ∙ (ap (λ (s : ℕ). outcome_of (was_whole s) (counts_of r.last.fed)) at-break ∙ broken-outcome there)
