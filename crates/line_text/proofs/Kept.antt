-- All that a line leaves, whatever the buffer is and wherever the answers ended: its text behind what was written, and the same counts
-- but for the places of the buffer, the same names, model, user flash, record and probe table. Assumes nothing.
use Prim.Native.Nat.{ℕ, ◌+◌, ◌≤◌, ◌<◌}
use mathlib.Core.Path.{◌≡◌, sym, ap, ◌∙◌}
use mathlib.Core.List.{List, [], ◌++◌}
use native.Mathlib.Omega.{arith}
use lib.ListN.{length, get_or, set, length-set}
use lib.Seq.{get_or-set_same, get_or-set_other}
use Rattle.numeral.specs.Place.{no_room, joined}
use Rattle.line.specs.declared.Content.{Content}
use Rattle.line.specs.Line.{line_reading}
use Rattle.item_checks.specs.Fault.{left_of}
use Rattle.item_checks.specs.Close.{expected_of, tail}
use Rattle.answer_text.specs.Texts.{Told, behind}
use Rattle.answer_text.proofs.Aside.{behind-aside}
use Rattle.answer_text.proofs.Calls.{call-model}
use Rattle.answer_text.proofs.Line.{line_kept}
use Rattle.session.specs.Line.{State, line_done, Replay, with_log, content_answered, line_answered}
use Rattle.line_text.specs.Text.{fault_told, item_told, names_after, bare, own_told, closed_counts, head_of, own_of, line_text, line_counts, elsewhere}
use Rattle.line_text.proofs.Close.{closed-tail}
use Rattle.line_text.proofs.Told.{begun-long, left-set, fault-aside, item-aside}
use Rattle.line_text.proofs.Whole.{names-page, model-page, flash-page, differences-page, probes-page}
use Rattle.line_text.proofs.Places.{behind-placed, model-placed, left-placed}
use Rattle.line_text.proofs.Own.{left_there, fault-placed, item-placed}
use Rattle.line_text.proofs.Apart.{own-elsewhere, tail-elsewhere, left-elsewhere, count-elsewhere}
use Rattle.line_text.proofs.Elsewhere.{moved, begun-elsewhere, rebuffered, text_same, counts_same, own-log}
use Rattle.line_text.proofs.Text.{text_of, line_length, Whole, room-told, content-text, content-counts}

-- ---- what is kept beside counts and answers

pub record Alike (s t : State) : Type 0 where
  pub model : s.model ≡ t.model
  pub flash : s.flash ≡ t.flash
  pub differences : s.differences ≡ t.differences
  pub probes : s.probes ≡ t.probes

alike_then : {s t u : State} → Alike s t → Alike t u → Alike s u
alike_then a b = record {
  model = a.model ∙ b.model;
  flash = a.flash ∙ b.flash;
  differences = a.differences ∙ b.differences;
  probes = a.probes ∙ b.probes;
}

module _ (content : Content) (numbers : List ℕ) (s : State) where
  -- what a line does of counts, with no buffer
  abbrev pub done : List ℕ → State
  done counts = line_done content numbers (with_log s record { counts = counts; answers = [] })

  done-later : (p v : ℕ) → 11 < p → p < 21 → (counts : List ℕ) → Alike (done (set counts p v)) (done counts)
  unfolding line_done
  done-later p v low high counts =
      let moves = model-placed p v low high content numbers (bare s counts) in
      let keeps = left-placed p v low high content numbers (bare s counts) s.differences s.probes in
      record { model = moves.0; flash = moves.1; differences = keeps.0; probes = keeps.1 }

  done_first : (v : ℕ) (counts : List ℕ) → 0 < length counts → Alike (done (set counts 0 v)) (done counts)
  unfolding line_done
  done_first v counts some =
      let moves = call-model content numbers (bare s counts) v [] in
      let keeps = line_kept content numbers (bare s counts) s.differences s.probes v [] some in
      record { model = moves.0; flash = moves.1; differences = keeps.0; probes = keeps.1 }

  pub done-elsewhere : (w x y z : ℕ) (counts : List ℕ) → 0 < length counts → Alike (done (elsewhere w x y z counts)) (done counts)
  done-elsewhere w x y z counts some =
      alike_then (done-later 20 z (omega arith) (omega arith) (set (set (set counts 0 w) 12 x) 13 y))
      (alike_then (done-later 13 y (omega arith) (omega arith) (set (set counts 0 w) 12 x))
      (alike_then (done-later 12 x (omega arith) (omega arith) (set counts 0 w)) (done_first w counts some)))

-- ---- before the line's own answer

module _ (content : Content) (text names : List ℕ) where
  abbrev pub before : List ℕ → Told
  before counts = behind (fault_told content counts) (item_told (left_of content counts) text names)

  before-later : (p v : ℕ) → 11 < p → p < 21 → (p ≡ 15 → ⊥) → (counts : List ℕ) → (before (set counts p v)).counts ≡ set (before counts).counts p v
  before-later p v low high apart counts =
      let left = left_of content counts in
      rw (left_there p v low high content counts)
      (ap (λ (t : Told). t.counts)
      (behind-placed p v low high (fault_told content counts) (fault_told content (set counts p v)) (item_told left text names) (item-placed p v low high left text names apart) (fault-placed p v low high content counts)))

  before-first : (v : ℕ) (counts : List ℕ) → (before (set counts 0 v)).counts ≡ set (before counts).counts 0 v
  before-first v counts =
      let left = left_of content counts in
      rw (left-set content counts v)
      (ap (λ (t : Told). t.counts) (behind-aside counts v _ _ (item_told left text names) (item-aside left text names) (fault-aside content counts v)).same)

  pub before-elsewhere : (w x y z : ℕ) (counts : List ℕ) → (before (elsewhere w x y z counts)).counts ≡ elsewhere w x y z (before counts).counts
  before-elsewhere w x y z counts =
      rw (before-later 20 z (omega arith) (omega arith) (λ e. omega arith) (set (set (set counts 0 w) 12 x) 13 y), before-later 13 y (omega arith) (omega arith) (λ e. omega arith) (set (set counts 0 w) 12 x), before-later 12 x (omega arith) (omega arith) (λ e. omega arith) (set counts 0 w), before-first w counts)

  before-long : (counts : List ℕ) → length (before counts).counts ≡ length counts
  before-long counts = (item-aside (left_of content counts) text names (fault_told content counts).counts 0).long ∙ (fault-aside content counts 0).long

-- ---- a whole line

-- A line that is answered whole, and any other buffer that has room for it.
module _ (content : Content) (expected : List (List ℕ)) (text numbers : List ℕ) (r : Replay) (here : Whole content expected text numbers r)
    (w x y z : ℕ) (answers : List ℕ) (small : length answers ≤ no_room) (room : w + line_length content expected text numbers r ≤ length answers) where
  abbrev other : Replay
  other = rebuffered w x y z answers r

  abbrev counts : List ℕ
  counts = r.state.log.counts

  abbrev own : Told
  own = own_of content text numbers r

  abbrev body : ℕ
  body = w + length (joined (head_of r).texts)

  abbrev names : List ℕ
  names = names_after (left_of content (head_of r).counts) text r.names

  head-same : head_of other ≡ moved w y (head_of r)
  head-same = begun-elsewhere r.names w x y z counts here.counts

  head-counts : (head_of other).counts ≡ elsewhere w w y body (head_of r).counts
  head-counts = ap (λ (t : Told). t.counts) head-same

  own_same : own_of content text numbers other ≡ record { texts = own.texts; counts = elsewhere w w y body own.counts }
  own_same =
      ap (own_told content text numbers r.names other.state) head-counts
      ∙ (own-log content text numbers r.names r.state other.state.log (elsewhere w w y body (head_of r).counts)
      ∙ own-elsewhere content expected text numbers r.names r.state w w y body (head_of r).counts)

  left-same : left_of content (head_of other).counts ≡ left_of content (head_of r).counts
  left-same = ap (left_of content) head-counts ∙ left-elsewhere content w w y body (head_of r).counts

  tail-same : tail (names_after (left_of content (head_of other).counts) text r.names) (closed_counts expected (own_of content text numbers other).counts (joined (own_of content text numbers other).texts))
      ≡ tail names (closed_counts expected own.counts (joined own.texts))
  tail-same =
      let there = own_of content text numbers other in
      rw (left-same, closed-tail names expected there.counts (joined there.texts), closed-tail names expected own.counts (joined own.texts))
      (ap (λ (t : Told). tail names t.counts) own_same ∙ tail-elsewhere names w w y body own.counts)

  length-same : line_length content expected text numbers other ≡ line_length content expected text numbers r
  length-same =
      let heads : (head_of other).texts ≡ (head_of r).texts = ap (λ (t : Told). t.texts) head-same in
      let owns : (own_of content text numbers other).texts ≡ own.texts = ap (λ (t : Told). t.texts) own_same in
      rw (tail-same, owns, heads)

  first-there : get_or (elsewhere w x y z counts) 0 0 ≡ w
  first-there =
      get_or-set_other (set (set (set counts 0 w) 12 x) 13 y) 20 0 z 0 (λ e. omega arith)
      ∙ (get_or-set_other (set (set counts 0 w) 12 x) 13 0 y 0 (λ e. omega arith)
      ∙ (get_or-set_other (set counts 0 w) 12 0 x 0 (λ e. omega arith) ∙ get_or-set_same counts 0 w 0 (omega (arith, here.counts))))

  -- There too the line is answered whole.
  pub there : Whole content expected text numbers other
  there = record {
    counts = simp length-set here.counts;
    room = rw (first-there, length-same) room;
    small = small;
    fit = here.fit;
    before = count-elsewhere w x y z counts 21 (λ e. omega arith) (λ e. omega arith) (λ e. omega arith) (λ e. omega arith) ∙ here.before;
    after = ap (λ (t : Told). get_or t.counts 21 0) own_same
        ∙ (count-elsewhere w w y body own.counts 21 (λ e. omega arith) (λ e. omega arith) (λ e. omega arith) (λ e. omega arith) ∙ here.after);
  }

  abbrev here-after : Replay
  here-after = content_answered content expected text numbers r

  abbrev there-after : Replay
  there-after = content_answered content expected text numbers other

  -- It adds the same text
  pub text-there : text_of there-after ≡ text_of other ++ line_text content expected text numbers r
  text-there =
      content-text content expected text numbers other there
      ∙ ap (λ (t : List ℕ). text_of other ++ t) (text_same content expected text numbers r w x y z answers here.counts)

  -- and leaves the same counts, but for the places of the buffer,
  pub counts-there : (p : ℕ) → (p ≡ 0 → ⊥) → (p ≡ 12 → ⊥) → (p ≡ 13 → ⊥) → (p ≡ 20 → ⊥)
      → get_or there-after.state.log.counts p 0 ≡ get_or here-after.state.log.counts p 0
  counts-there p a b c d =
      let mine = line_counts content expected text numbers r in
      let yours = line_counts content expected text numbers other in
      let at : List ℕ → ℕ = λ l. get_or l p 0 in
      ap at (content-counts content expected text numbers other there)
      ∙ (get_or-set_other yours 0 p (get_or there-after.state.log.counts 0 0) 0 a
      ∙ (ap at (counts_same content expected text numbers r w x y z answers here.counts)
      ∙ (count-elsewhere w w y body mine p a b c d
      ∙ (sym (get_or-set_other mine 0 p (get_or here-after.state.log.counts 0 0) 0 a)
      ∙ sym (ap at (content-counts content expected text numbers r here))))))

  some-here : 0 < length counts
  some-here = omega (arith, here.counts)

  some-there : 0 < length other.state.log.counts
  some-there = omega (arith, there.counts)

  -- the same names,
  pub names-there : there-after.names ≡ here-after.names
  names-there =
      names-page content text numbers other some-there (room-told content expected text numbers other there) expected there.before
      ∙ (ap (λ (k : Content). names_after k text r.names) left-same
      ∙ sym (names-page content text numbers r some-here (room-told content expected text numbers r here) expected here.before))

  abbrev done_by : List ℕ → State
  done_by hc = line_done (left_of content hc) numbers (with_log r.state record { counts = (before content text r.names hc).counts; answers = [] })

  done-same : Alike (done_by (head_of other).counts) (done_by (head_of r).counts)
  done-same =
      let hc = (head_of r).counts in
      let hc' = elsewhere w w y body hc in
      let same : done_by (head_of other).counts ≡ line_done (left_of content hc) numbers (with_log r.state record { counts = elsewhere w w y body (before content text r.names hc).counts; answers = [] }) =
      rw (head-counts, before-elsewhere content text r.names w w y body hc, left-elsewhere content w w y body hc) in
      rw same (done-elsewhere (left_of content hc) numbers r.state w w y body (before content text r.names hc).counts (omega (arith, before-long content text r.names hc, head-long)))
    where
      head-long : length (head_of r).counts ≡ 22
      head-long = begun-long r.names counts ∙ here.counts

  -- and the same model, user flash, record and probe table.
  pub kept_there : Alike there-after.state here-after.state
  kept_there =
      let wide = room-told content expected text numbers other there in
      let near = room-told content expected text numbers r here in
      record {
        model = model-page content text numbers other some-there wide expected there.before ∙ (done-same.model ∙ sym (model-page content text numbers r some-here near expected here.before));
        flash = flash-page content text numbers other some-there wide expected there.before ∙ (done-same.flash ∙ sym (flash-page content text numbers r some-here near expected here.before));
        differences = differences-page content text numbers other some-there wide expected there.before
            ∙ (done-same.differences ∙ sym (differences-page content text numbers r some-here near expected here.before));
        probes = probes-page content text numbers other some-there wide expected there.before ∙ (done-same.probes ∙ sym (probes-page content text numbers r some-here near expected here.before));
      }

-- ---- from the line's bytes on

-- What a line leaves of what was kept, beside what it leaves of the same kept with another buffer.
pub record Leaves (more : List ℕ) (before after beside : Replay) : Type 0 where
  pub text : text_of after ≡ text_of before ++ more
  pub counts : (p : ℕ) → (p ≡ 0 → ⊥) → (p ≡ 12 → ⊥) → (p ≡ 13 → ⊥) → (p ≡ 20 → ⊥)
      → get_or after.state.log.counts p 0 ≡ get_or beside.state.log.counts p 0
  pub names : after.names ≡ beside.names
  pub kept : Alike after.state beside.state

module _ (line numbers : List ℕ) where
  abbrev content : Content
  content = (line_reading numbers line).content

  abbrev read : List ℕ
  read = (line_reading numbers line).numbers

  pub line-there : (r : Replay) → Whole content (expected_of line) line read r → (w x y z : ℕ) (answers : List ℕ) → length answers ≤ no_room
      → w + line_length content (expected_of line) line read r ≤ length answers
      → Leaves (line_text content (expected_of line) line read r) (rebuffered w x y z answers r) (line_answered line numbers (rebuffered w x y z answers r)) (line_answered line numbers r)
  unfolding line_answered
  line-there r here w x y z answers small room = record {
    text = text-there content (expected_of line) line read r here w x y z answers small room;
    counts = counts-there content (expected_of line) line read r here w x y z answers small room;
    names = names-there content (expected_of line) line read r here w x y z answers small room;
    kept = kept_there content (expected_of line) line read r here w x y z answers small room;
  }
