-- What the last line and the writing leave of the counts. Assumes nothing.
use Prim.Native.Nat.{ℕ}
use mathlib.Core.Bool.{Bool, true, false, cond}
use mathlib.Core.List.{List}
use mathlib.Core.Path.{◌≡◌, refl, ◌∙◌}
use native.Mathlib.Omega.{arith}
use lib.Dec.{eqb}
use lib.ListN.{get_or, set}
use lib.Seq.{get_or-set_other}
use Rattle.item_state.specs.Log.{Log, said}
use Rattle.session.specs.Flush.{is_long, kept_to, after_writing}
use Rattle.session.specs.Ends.{last_texts, last_said, outcome_of}

-- All but the places 0 and 13 stay as they are.
two-set : (counts : List ℕ) (place a b : ℕ) → ¬ (place ≡ 0) → ¬ (place ≡ 13) → get_or (set (set counts 0 a) 13 b) place 0 ≡ get_or counts place 0
two-set counts place a b p q = get_or-set_other (set counts 0 a) 13 place b 0 q ∙ get_or-set_other counts 0 place a 0 p

written_keeps : (counts : List ℕ) (place : ℕ) → ¬ (place ≡ 0) → ¬ (place ≡ 13) → get_or (after_writing counts) place 0 ≡ get_or counts place 0
unfolding after_writing
written_keeps counts place p q = go (eqb (get_or counts 21 0) 0) (is_long counts)
  where
    go : (t u : Bool) → get_or (cond t (set (set counts 0 0) 13 0) (cond u (set (set counts 0 (kept_to counts)) 13 (kept_to counts)) counts)) place 0
        ≡ get_or counts place 0
    go true u = two-set counts place 0 0 p q
    go false true = two-set counts place (kept_to counts) (kept_to counts) p q
    go false false = refl

said-keeps : (texts : List (List ℕ)) (l : Log) (place : ℕ) → ¬ (place ≡ 0) → get_or (said texts l).counts place 0 ≡ get_or l.counts place 0
unfolding said
said-keeps texts l place p = get_or-set_other l.counts 0 place _ 0 p

last-keeps : (whole : Bool) (l : Log) (place : ℕ) → ¬ (place ≡ 0) → get_or (last_said whole l).counts place 0 ≡ get_or l.counts place 0
unfolding last_said
last-keeps whole l place p = go whole (eqb (get_or l.counts 14 0) 0)
  where
    go : (t u : Bool) → get_or (cond t (cond u (said (last_texts l.counts) l) l) l).counts place 0 ≡ get_or l.counts place 0
    go true true = said-keeps (last_texts l.counts) l place p
    go true false = refl
    go false u = refl

-- So what a replay hands back is what was counted before its last line.
pub outcome-kept : (whole : Bool) (l : Log) → outcome_of whole (after_writing (last_said whole l).counts) ≡ outcome_of whole l.counts
unfolding outcome_of
outcome-kept whole l = rw (keeps 5 (omega arith) (omega arith), keeps 6 (omega arith) (omega arith), keeps 7 (omega arith) (omega arith), keeps 8 (omega arith) (omega arith))
  where
    keeps : (place : ℕ) → ¬ (place ≡ 0) → ¬ (place ≡ 13) → get_or (after_writing (last_said whole l).counts) place 0 ≡ get_or l.counts place 0
    keeps place p q = written_keeps (last_said whole l).counts place p q ∙ last-keeps whole l place p
