-- A line's text and the counts after it go by no place of the buffer. Assumes nothing.
use Prim.Native.Nat.{ℕ, ◌+◌, ◌<◌, min}
use mathlib.Core.Path.{◌≡◌, refl, sym, ◌∙◌}
use mathlib.Core.Bool.{Bool, true, false, cond}
use mathlib.Core.List.{List, [], ◌∷◌}
use native.Mathlib.Omega.{arith}
use lib.Dec.{eqb}
use lib.ListN.{get_or, set}
use lib.Seq.{set_comm, get_or-set_other}
use Rattle.numeral.specs.Place.{joined}
use Rattle.line.specs.declared.Content.{Content}
use Rattle.item_state.specs.Log.{added}
use Rattle.item_checks.specs.Fault.{left_of}
use Rattle.item_checks.specs.Close.{begins_with, refusal_counted, trouble, tail, is_announced, is_not_bad}
use Rattle.answer_text.specs.Texts.{Told}
use Rattle.answer_text.specs.Line.{line_told}
use Rattle.answer_text.proofs.Aside.{behind-aside}
use Rattle.session.specs.Line.{State}
use Rattle.line_text.specs.Text.{item_told, names_after, bare, own_told, judged_text, judged_counts, shown_answer, closed_counts, looked_text, closed_text, told_text, told_counts, elsewhere}
use Rattle.line_text.proofs.Told.{fault-same, left-set, fault-aside, item-aside}
use Rattle.line_text.proofs.Whole.{tell-aside}
use Rattle.line_text.proofs.Own.{own-placed}

-- A place of the counts that no line looks at for what it says.
pub record Apart (p : ℕ) : Type 0 where
  pub two : 2 ≡ p → ⊥
  pub four : 4 ≡ p → ⊥
  pub five : 5 ≡ p → ⊥
  pub six : 6 ≡ p → ⊥
  pub seven : 7 ≡ p → ⊥
  pub eight : 8 ≡ p → ⊥
  pub nine : 9 ≡ p → ⊥
  pub ten : 10 ≡ p → ⊥
  pub eleven : 11 ≡ p → ⊥
  pub fourteen : 14 ≡ p → ⊥
  pub fifteen : 15 ≡ p → ⊥
  pub seventeen : 17 ≡ p → ⊥
  pub eighteen : 18 ≡ p → ⊥
  pub nineteen : 19 ≡ p → ⊥
  pub last : 21 ≡ p → ⊥

pub ends-apart : Apart 0
ends-apart = record {
  two = λ e. omega arith;
  four = λ e. omega arith;
  five = λ e. omega arith;
  six = λ e. omega arith;
  seven = λ e. omega arith;
  eight = λ e. omega arith;
  nine = λ e. omega arith;
  ten = λ e. omega arith;
  eleven = λ e. omega arith;
  fourteen = λ e. omega arith;
  fifteen = λ e. omega arith;
  seventeen = λ e. omega arith;
  eighteen = λ e. omega arith;
  nineteen = λ e. omega arith;
  last = λ e. omega arith;
}

pub start-apart : Apart 12
start-apart = record {
  two = λ e. omega arith;
  four = λ e. omega arith;
  five = λ e. omega arith;
  six = λ e. omega arith;
  seven = λ e. omega arith;
  eight = λ e. omega arith;
  nine = λ e. omega arith;
  ten = λ e. omega arith;
  eleven = λ e. omega arith;
  fourteen = λ e. omega arith;
  fifteen = λ e. omega arith;
  seventeen = λ e. omega arith;
  eighteen = λ e. omega arith;
  nineteen = λ e. omega arith;
  last = λ e. omega arith;
}

pub spare-apart : Apart 13
spare-apart = record {
  two = λ e. omega arith;
  four = λ e. omega arith;
  five = λ e. omega arith;
  six = λ e. omega arith;
  seven = λ e. omega arith;
  eight = λ e. omega arith;
  nine = λ e. omega arith;
  ten = λ e. omega arith;
  eleven = λ e. omega arith;
  fourteen = λ e. omega arith;
  fifteen = λ e. omega arith;
  seventeen = λ e. omega arith;
  eighteen = λ e. omega arith;
  nineteen = λ e. omega arith;
  last = λ e. omega arith;
}

pub body-apart : Apart 20
body-apart = record {
  two = λ e. omega arith;
  four = λ e. omega arith;
  five = λ e. omega arith;
  six = λ e. omega arith;
  seven = λ e. omega arith;
  eight = λ e. omega arith;
  nine = λ e. omega arith;
  ten = λ e. omega arith;
  eleven = λ e. omega arith;
  fourteen = λ e. omega arith;
  fifteen = λ e. omega arith;
  seventeen = λ e. omega arith;
  eighteen = λ e. omega arith;
  nineteen = λ e. omega arith;
  last = λ e. omega arith;
}

module _ (p v : ℕ) (a : Apart p) where
  added-apart : (counts : List ℕ) (n : ℕ) → (n ≡ p → ⊥) → added (set counts p v) n 1 ≡ set (added counts n 1) p v
  unfolding added
  added-apart counts n apart =
      rw (get_or-set_other counts p n v 0 apart, set_comm counts p n v (min (get_or counts n 0 + 1) 18446744073709551615) (λ e. apart (sym e)))

  call-apart : (counts : List ℕ) → is_not_bad (set counts p v) ≡ is_not_bad counts
  call-apart counts = rw (get_or-set_other counts p 6 v 0 a.six, get_or-set_other counts p 18 v 0 a.eighteen)

  pub judged-text-apart : (expected : List (List ℕ)) (counts answer : List ℕ) → judged_text expected (set counts p v) answer ≡ judged_text expected counts answer
  unfolding judged_text
  judged-text-apart [] counts answer = refl
  judged-text-apart (wanted ∷ others) counts answer = rw (call-apart counts)

  pub announced-apart : (expected : List (List ℕ)) (counts answer : List ℕ) → is_announced expected (set counts p v) answer ≡ is_announced expected counts answer
  unfolding is_announced
  announced-apart [] counts answer = refl
  announced-apart (wanted ∷ others) counts answer = rw (call-apart counts)

  pub judged-counts-apart : (expected : List (List ℕ)) (counts answer : List ℕ) → judged_counts expected (set counts p v) answer ≡ set (judged_counts expected counts answer) p v
  unfolding judged_counts
  judged-counts-apart [] counts answer = refl
  judged-counts-apart (wanted ∷ others) counts answer =
      rw (call-apart counts, added-apart counts 7 a.seven, added-apart (added counts 7 1) 8 a.eight) (go (is_not_bad counts) (begins_with wanted answer))
    where
      go : (t u : Bool) → cond t (cond u (set (added counts 7 1) p v) (set (added (added counts 7 1) 8 1) p v)) (set counts p v)
          ≡ set (cond t (cond u (added counts 7 1) (added (added counts 7 1) 8 1)) counts) p v
      go true true = refl
      go true false = refl
      go false u = refl

  refusal-apart : (told : Bool) (counts : List ℕ) → refusal_counted told (set counts p v) ≡ set (refusal_counted told counts) p v
  unfolding refusal_counted
  refusal-apart true counts = refl
  refusal-apart false counts =
      rw (get_or-set_other counts p 4 v 0 a.four, get_or-set_other counts p 17 v 0 a.seventeen, added-apart counts 5 a.five)
      (go (eqb (get_or counts 4 0) (get_or counts 17 0)))
    where
      go : (t : Bool) → cond t (set counts p v) (set (added counts 5 1) p v) ≡ set (cond t counts (added counts 5 1)) p v
      go true = refl
      go false = refl

  pub closed-counts-apart : (expected : List (List ℕ)) (counts answer : List ℕ) → closed_counts expected (set counts p v) answer ≡ set (closed_counts expected counts answer) p v
  unfolding closed_counts
  closed-counts-apart expected counts answer =
      rw (announced-apart expected counts answer, judged-counts-apart expected counts answer)
      (refusal-apart (is_announced expected counts answer) (judged_counts expected counts answer))

  trouble-apart : (counts : List ℕ) → trouble (set counts p v) ≡ trouble counts
  unfolding trouble
  trouble-apart counts = rw (get_or-set_other counts p 6 v 0 a.six, get_or-set_other counts p 8 v 0 a.eight, get_or-set_other counts p 5 v 0 a.five)

  tail_apart : (names counts : List ℕ) → tail names (set counts p v) ≡ tail names counts
  unfolding tail
  tail_apart names counts = rw (get_or-set_other counts p 15 v 0 a.fifteen)

  pub closed-text-apart : (names counts head answer : List ℕ) → closed_text names (set counts p v) head answer ≡ closed_text names counts head answer
  unfolding closed_text looked_text
  closed-text-apart names counts head answer =
      rw (get_or-set_other counts p 14 v 0 a.fourteen, trouble-apart counts, get_or-set_other counts p 19 v 0 a.nineteen, tail_apart names counts)

  shown-apart : (counts answer : List ℕ) → shown_answer (set counts p v) answer ≡ shown_answer counts answer
  unfolding shown_answer
  shown-apart counts answer = rw (get_or-set_other counts p 14 v 0 a.fourteen)

  told-counts-apart : (expected : List (List ℕ)) (t : Told) → told_counts expected record { texts = t.texts; counts = set t.counts p v } ≡ set (told_counts expected t) p v
  unfolding told_counts
  told-counts-apart expected t =
      rw (shown-apart t.counts (joined t.texts)) (closed-counts-apart expected t.counts (shown_answer t.counts (joined t.texts)))

  told-text-apart : (expected : List (List ℕ)) (names : List ℕ) (head t : Told)
      → told_text expected names head record { texts = t.texts; counts = set t.counts p v } ≡ told_text expected names head t
  unfolding told_text
  told-text-apart expected names head t =
      let answer = shown_answer t.counts (joined t.texts) in
      rw (shown-apart t.counts (joined t.texts), closed-counts-apart expected t.counts answer, judged-text-apart expected t.counts answer)
      (closed-text-apart names (closed_counts expected t.counts answer) (joined head.texts) (judged_text expected t.counts answer))

  pub left-apart : (content : Content) (counts : List ℕ) → left_of content (set counts p v) ≡ left_of content counts
  unfolding left_of
  left-apart content counts =
      rw (fault-same content counts (set counts p v) (get_or-set_other counts p 9 v 0 a.nine) (get_or-set_other counts p 10 v 0 a.ten) (get_or-set_other counts p 11 v 0 a.eleven))

-- ---- by what a line tells

-- what a line tells, with other numbers in the places of the buffer
abbrev pub told_elsewhere : ℕ → ℕ → ℕ → ℕ → Told → Told
told_elsewhere w x y z t = record { texts = t.texts; counts = elsewhere w x y z t.counts }

abbrev placed : ℕ → ℕ → Told → Told
placed p v t = record { texts = t.texts; counts = set t.counts p v }

pub told-counts-elsewhere : (expected : List (List ℕ)) (w x y z : ℕ) (t : Told) → told_counts expected (told_elsewhere w x y z t) ≡ elsewhere w x y z (told_counts expected t)
told-counts-elsewhere expected w x y z t =
    rw (told-counts-apart 20 z body-apart expected (placed 13 y (placed 12 x (placed 0 w t))), told-counts-apart 13 y spare-apart expected (placed 12 x (placed 0 w t)), told-counts-apart 12 x start-apart expected (placed 0 w t), told-counts-apart 0 w ends-apart expected t)

pub told-text-elsewhere : (expected : List (List ℕ)) (names : List ℕ) (head : Told) (w x y z : ℕ) (t : Told)
    → told_text expected names head (told_elsewhere w x y z t) ≡ told_text expected names head t
told-text-elsewhere expected names head w x y z t =
    told-text-apart 20 z body-apart expected names head (placed 13 y (placed 12 x (placed 0 w t)))
    ∙ (told-text-apart 13 y spare-apart expected names head (placed 12 x (placed 0 w t))
    ∙ (told-text-apart 12 x start-apart expected names head (placed 0 w t) ∙ told-text-apart 0 w ends-apart expected names head t))

-- Of the head the text says no more than its own.
pub told-head : (expected : List (List ℕ)) (names : List ℕ) (head own : Told) (counts : List ℕ)
    → told_text expected names record { texts = head.texts; counts = counts } own ≡ told_text expected names head own
unfolding told_text
told-head expected names head own counts = refl

pub left-elsewhere : (content : Content) (w x y z : ℕ) (counts : List ℕ) → left_of content (elsewhere w x y z counts) ≡ left_of content counts
left-elsewhere content w x y z counts =
    left-apart 20 z body-apart content (set (set (set counts 0 w) 12 x) 13 y) ∙ (left-apart 13 y spare-apart content (set (set counts 0 w) 12 x)
    ∙ (left-apart 12 x start-apart content (set counts 0 w) ∙ left-apart 0 w ends-apart content counts))

-- ---- from the head on

module _ (content : Content) (expected : List (List ℕ)) (text numbers names : List ℕ) (s : State) where
  abbrev own : List ℕ → Told
  own = own_told content text numbers names s

  abbrev Kept : ℕ → ℕ → Type 0
  Kept p v = (counts : List ℕ) → own (set counts p v) ≡ record { texts = (own counts).texts; counts = set (own counts).counts p v }

  ends-kept : (v : ℕ) → Kept 0 v
  unfolding own_told
  ends-kept v counts =
      let left = left_of content counts in
      rw (left-set content counts v)
      (behind-aside counts v _ _ (λ after. line_told left numbers (bare s after) s.differences s.probes) (tell-aside left numbers s)
      (behind-aside counts v _ _ (item_told left text names) (item-aside left text names) (fault-aside content counts v))).same

  later-kept : (p v : ℕ) → 11 < p → p < 21 → (p ≡ 15 → ⊥) → Kept p v
  later-kept p v low high apart counts = own-placed p v low high content text numbers names s apart counts

  pub own-elsewhere : (w x y z : ℕ) (counts : List ℕ) → own (elsewhere w x y z counts) ≡ record { texts = (own counts).texts; counts = elsewhere w x y z (own counts).counts }
  own-elsewhere w x y z counts =
      rw (later-kept 20 z (omega arith) (omega arith) (λ e. omega arith) (set (set (set counts 0 w) 12 x) 13 y), later-kept 13 y (omega arith) (omega arith) (λ e. omega arith) (set (set counts 0 w) 12 x), later-kept 12 x (omega arith) (omega arith) (λ e. omega arith) (set counts 0 w), ends-kept w counts)

  -- the counts after the line, and its text, from the counts behind its head on
  pub counts-elsewhere : (w x y z : ℕ) (counts : List ℕ) → told_counts expected (own (elsewhere w x y z counts)) ≡ elsewhere w x y z (told_counts expected (own counts))
  counts-elsewhere w x y z counts = rw (own-elsewhere w x y z counts) (told-counts-elsewhere expected w x y z (own counts))

  pub text-elsewhere : (w x y z : ℕ) (head : Told) (counts : List ℕ)
      → told_text expected (names_after (left_of content (elsewhere w x y z counts)) text names) head (own (elsewhere w x y z counts))
      ≡ told_text expected (names_after (left_of content counts) text names) head (own counts)
  text-elsewhere w x y z head counts =
      rw (own-elsewhere w x y z counts, left-elsewhere content w x y z counts)
      (told-text-elsewhere expected (names_after (left_of content counts) text names) head w x y z (own counts))

pub tail-elsewhere : (names : List ℕ) (w x y z : ℕ) (counts : List ℕ) → tail names (elsewhere w x y z counts) ≡ tail names counts
tail-elsewhere names w x y z counts =
    tail_apart 20 z body-apart names (set (set (set counts 0 w) 12 x) 13 y) ∙ (tail_apart 13 y spare-apart names (set (set counts 0 w) 12 x)
    ∙ (tail_apart 12 x start-apart names (set counts 0 w) ∙ tail_apart 0 w ends-apart names counts))

pub count-elsewhere : (w x y z : ℕ) (counts : List ℕ) (p : ℕ) → (p ≡ 0 → ⊥) → (p ≡ 12 → ⊥) → (p ≡ 13 → ⊥) → (p ≡ 20 → ⊥)
    → get_or (elsewhere w x y z counts) p 0 ≡ get_or counts p 0
count-elsewhere w x y z counts p a b c d =
    get_or-set_other (set (set (set counts 0 w) 12 x) 13 y) 20 p z 0 d ∙ (get_or-set_other (set (set counts 0 w) 12 x) 13 p y 0 c
    ∙ (get_or-set_other (set counts 0 w) 12 p x 0 b ∙ get_or-set_other counts 0 p w 0 a))
