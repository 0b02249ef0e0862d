-- A line's own answer does not go by the counts 12 to 20, but for 15, and leaves them as they are. Assumes nothing.
use Prim.Native.Nat.{ℕ, ◌+◌, ◌<◌}
use mathlib.Core.Path.{◌≡◌, refl, ◌∙◌}
use mathlib.Core.Bool.{Bool, true, false, cond}
use mathlib.Core.List.{List, [], ◌∷◌, ◌++◌}
use native.Mathlib.Omega.{arith}
use lib.Dec.{eqb}
use lib.ListN.{length, get_or, set, take, length-set}
use lib.Seq.{set_comm, get_or-set_same, get_or-set_other}
use Rattle.numeral.specs.Place.{put_each, joined}
use Rattle.line.specs.declared.Content.{Content}
use Rattle.wording.specs.Wording.{line_feed, fault, place}
use Rattle.item_state.specs.Log.{added}
use Rattle.item_checks.specs.Fault.{is_fault, left_of}
use Rattle.item_checks.specs.Open.{line_counted, is_item}
use Rattle.item_checks.specs.Close.{line_words, trouble}
use Rattle.answer_text.specs.Texts.{silent, behind, asked}
use Rattle.answer_text.specs.Line.{line_told}
use Rattle.session.specs.Line.{State}
use Rattle.line_text.specs.Text.{head_told, begun_told, fault_told, item_told, bare, own_told}
use Rattle.line_text.proofs.Told.{fault-same, fault-aside, item-aside, head-counted-long}
use Rattle.line_text.proofs.Whole.{tell-aside}
use Rattle.line_text.proofs.Places.{Placed, either-placed, behind-placed, added-placed, line-placed, place-left}

module _ (p v : ℕ) (low : 11 < p) (high : p < 21) where
  pub fault-there : (content : Content) (counts : List ℕ) → is_fault content (set counts p v) ≡ is_fault content counts
  fault-there content counts =
      fault-same content counts (set counts p v) (get_or-set_other counts p 9 v 0 (λ e. omega arith))
      (get_or-set_other counts p 10 v 0 (λ e. omega arith)) (get_or-set_other counts p 11 v 0 (λ e. omega arith))

  pub left_there : (content : Content) (counts : List ℕ) → left_of content (set counts p v) ≡ left_of content counts
  unfolding left_of
  left_there content counts = rw (fault-there content counts)

  pub fault-placed : (content : Content) → Placed p v low high (fault_told content)
  unfolding fault_told
  fault-placed content counts =
      let bad = added counts 6 1 in
      rw (fault-there content counts, added-placed p v low high counts 6 1 (λ e. omega arith), get_or-set_other bad p 2 v 0 (λ e. omega arith))
      (either-placed p v low high (asked (fault (get_or bad 2 0) content) bad) (silent counts) (is_fault content counts))

  pub item-placed : (content : Content) (text names : List ℕ) → (p ≡ 15 → ⊥) → Placed p v low high (item_told content text names)
  unfolding item_told
  item-placed content text names apart counts =
      let end = (put_each names 4096 (line_words text)).next in
      rw (set_comm counts p 15 v end apart)
      (either-placed p v low high (asked (line_words text ++ (line_feed ∷ [])) (set counts 15 end)) (silent counts) (is_item content))

  tell-placed : (content : Content) (numbers : List ℕ) (s : State) → Placed p v low high (λ counts. line_told content numbers (bare s counts) s.differences s.probes)
  tell-placed content numbers s counts = line-placed p v low high content numbers (bare s counts) s.differences s.probes

  pub own-placed : (content : Content) (text numbers names : List ℕ) (s : State) → (p ≡ 15 → ⊥) → Placed p v low high (own_told content text numbers names s)
  unfolding own_told
  own-placed content text numbers names s apart counts =
      let left = left_of content counts in
      rw (left_there content counts)
      (behind-placed p v low high (behind (fault_told content counts) (item_told left text names)) (behind (fault_told content (set counts p v)) (item_told left text names))
      (λ after. line_told left numbers (bare s after) s.differences s.probes) (tell-placed left numbers s)
      (behind-placed p v low high (fault_told content counts) (fault_told content (set counts p v)) (item_told left text names) (item-placed left text names apart) (fault-placed content counts)))

-- There are as many counts as before.
pub own-long : (content : Content) (text numbers names : List ℕ) (s : State) (counts : List ℕ) → length (own_told content text numbers names s counts).counts ≡ length counts
unfolding own_told
own-long content text numbers names s counts =
    let left = left_of content counts in
    let first = (fault_told content counts).counts in
    let second = (item_told left text names first).counts in
    (tell-aside left numbers s second 0).long ∙ ((item-aside left text names first 0).long ∙ (fault-aside content counts 0).long)

pub own-left : (p : ℕ) → 11 < p → p < 21 → (p ≡ 15 → ⊥) → (content : Content) (text numbers names : List ℕ) (s : State) (counts : List ℕ)
    → p < length counts → get_or (own_told content text numbers names s counts).counts p 0 ≡ get_or counts p 0
own-left p low high apart content text numbers names s counts long =
    place-left p low high (own_told content text numbers names s) counts (own-placed p (get_or counts p 0) low high content text numbers names s apart)
    (rw (own-long content text numbers names s counts) long)

-- ---- where a line and its own answer start

head-start : (names counts : List ℕ) → get_or (head_told names counts).counts 12 0 ≡ get_or counts 12 0
unfolding head_told
head-start names counts = go (eqb (get_or counts 14 0) 0)
  where
    go : (t : Bool) → get_or (cond t (silent counts) (asked (place (take (get_or (set counts 19 (trouble counts)) 16 0) names) (get_or (set counts 19 (trouble counts)) 2 0)) (set counts 19 (trouble counts)))).counts 12 0 ≡ get_or counts 12 0
    go true = refl
    go false = get_or-set_other counts 19 12 (trouble counts) 0 (λ e. omega arith)

added-long : (counts : List ℕ) (n k : ℕ) → length (added counts n k) ≡ length counts
unfolding added
added-long counts n k = length-set counts n _

counted_start : (counts : List ℕ) → 12 < length counts → get_or (line_counted counts) 12 0 ≡ get_or counts 0 0
unfolding line_counted
counted_start counts long =
    let one = set (added counts 2 1) 12 (get_or counts 0 0) in
    let two = set one 17 (get_or counts 4 0) in
    get_or-set_other two 18 12 (get_or counts 6 0) 0 (λ e. omega arith) ∙ (get_or-set_other one 17 12 (get_or counts 4 0) 0 (λ e. omega arith)
    ∙ get_or-set_same (added counts 2 1) 12 (get_or counts 0 0) 0 (rw (added-long counts 2 1) long))

pub begun-start : (names counts : List ℕ) → 12 < length counts → get_or (begun_told names counts).counts 12 0 ≡ get_or counts 0 0
unfolding begun_told
begun-start names counts long =
    get_or-set_other (head_told names (line_counted counts)).counts 20 12 _ 0 (λ e. omega arith) ∙ (head-start names (line_counted counts) ∙ counted_start counts long)

pub begun-body : (names counts : List ℕ) → 20 < length counts → get_or (begun_told names counts).counts 20 0 ≡ get_or counts 0 0 + length (joined (begun_told names counts).texts)
unfolding begun_told
begun-body names counts long = get_or-set_same (head_told names (line_counted counts)).counts 20 _ 0 (rw (head-counted-long names counts) long)
