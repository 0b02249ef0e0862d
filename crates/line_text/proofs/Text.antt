-- A line adds its text to what is written. Assumes nothing.
use Prim.Native.Nat.{ℕ, ◌+◌, ◌≤◌, ◌<◌}
use mathlib.Core.Path.{◌≡◌, sym, ap, ◌∙◌}
use mathlib.Core.List.{List, ◌++◌}
use native.Mathlib.Omega.{arith}
use lib.ListN.{length, get_or, set, take, length-append, length-set}
use lib.Seq.{get_or-set_other, get_or-set_same, length-take-le}
use Rattle.numeral.specs.Place.{no_room, joined}
use Rattle.listing.proofs.Meaning.{Fit}
use Rattle.line.specs.declared.Content.{Content}
use Rattle.line.specs.Line.{line_reading}
use Rattle.item_state.specs.Log.{Log, put}
use Rattle.item_checks.specs.Fault.{left_of}
use Rattle.item_checks.specs.Close.{expected_of, kept_briefly, tail}
use Rattle.answer_text.specs.Texts.{Told, on_page, HasRoom}
use Rattle.answer_text.proofs.Page.{page-ends, page-text, page-long, joined-append}
use Rattle.session.specs.Line.{Replay, content_answered, line_answered}
use Rattle.line_text.specs.Text.{names_after, shown_answer, closed_counts, told_text, told_counts, head_of, own_of, line_text, line_counts}
use Rattle.line_text.proofs.Close.{Stands, Written, written-briefly, buffer-briefly, ends-briefly, differing, closed-tail, closed-text, closed_same}
use Rattle.line_text.proofs.Own.{own-long, own-left, begun-start, begun-body}
use Rattle.line_text.proofs.Told.{begun-long}
use Rattle.line_text.proofs.Whole.{whole, whole-page}

-- what is written so far
abbrev pub text_of : Replay → List ℕ
text_of r = take (get_or r.state.log.counts 0 0) r.state.log.answers

module _ (content : Content) (expected : List (List ℕ)) (text numbers : List ℕ) (r : Replay) where
  abbrev own : Told
  own = own_of content text numbers r

  abbrev answer : List ℕ
  answer = joined own.texts

  abbrev head : List ℕ
  head = joined (head_of r).texts

  abbrev names : List ℕ
  names = names_after (left_of content (head_of r).counts) text r.names

  -- the longest that the line may put into the buffer: its head, its answer, what it expects, and the item's name
  abbrev pub line_length : ℕ
  line_length = length head + length answer + length (differing expected) + length (joined (tail names (closed_counts expected own.counts answer)))

  -- What is asked of what was kept before a line: 22 counts, room in a buffer of less than 2^64 bytes, differences of 32 bits, and that no
  -- line is under way.
  pub record Begins : Type 0 where
    pub counts : length r.state.log.counts ≡ 22
    pub room : get_or r.state.log.counts 0 0 + line_length ≤ length r.state.log.answers
    pub small : length r.state.log.answers ≤ no_room
    pub fit : Fit r.state.differences
    pub before : get_or r.state.log.counts 21 0 ≡ 0

  module _ (b : Begins) where
    abbrev log : Log
    log = r.state.log

    abbrev at : ℕ
    at = get_or log.counts 0 0

    abbrev told : Told
    told = whole content text numbers r

    pub texts-are : joined told.texts ≡ head ++ answer
    texts-are = joined-append (head_of r).texts own.texts

    pub room-begun : HasRoom told log
    room-begun = rw texts-are (omega (arith, length-append head answer, b.room))

    pub base-long : length (take at log.answers) ≡ at
    base-long = length-take-le at log.answers (omega (arith, b.room))

    pub own-size : length own.counts ≡ 22
    own-size = own-long content text numbers r.names r.state (head_of r).counts ∙ (begun-long r.names log.counts ∙ b.counts)

    some : 0 < length own.counts
    some = omega (arith, own-size)

    pub head-size : length (head_of r).counts ≡ 22
    head-size = begun-long r.names log.counts ∙ b.counts

    -- where the answers end after it
    abbrev end : ℕ
    end = (put told.texts log).next

    pub page-other : (p : ℕ) → (p ≡ 0 → ⊥) → get_or (on_page told log).counts p 0 ≡ get_or own.counts p 0
    unfolding on_page
    page-other p apart = get_or-set_other own.counts 0 p end 0 apart

    pub stands : Stands (take at log.answers) head answer (on_page told log)
    stands = record {
      text = page-text told log room-begun some ∙ ap (λ (x : List ℕ). take at log.answers ++ x) texts-are;
      ends = page-ends told log room-begun some ∙ omega (arith, ap length texts-are, length-append head answer, base-long);
      body = page-other 20 (λ e. omega arith)
          ∙ (own-left 20 (omega arith) (omega arith) (λ e. omega arith) content text numbers r.names r.state (head_of r).counts (omega (arith, head-size))
          ∙ (begun-body r.names log.counts (omega (arith, b.counts)) ∙ omega (arith, base-long)));
      start = page-other 12 (λ e. omega arith)
          ∙ (own-left 12 (omega arith) (omega arith) (λ e. omega arith) content text numbers r.names r.state (head_of r).counts (omega (arith, head-size))
          ∙ (begun-start r.names log.counts (omega (arith, b.counts)) ∙ sym base-long));
    }

    page-same : (on_page told log).counts ≡ set own.counts 0 (get_or (on_page told log).counts 0 0)
    unfolding on_page
    page-same = rw (get_or-set_same own.counts 0 end 0 some)

    page-some : 0 < length (on_page told log).counts
    unfolding on_page
    page-some = rw length-set some

    pub written : Written (take at log.answers) head answer own.counts (on_page told log)
    written = record { stands = stands; same = page-same; some = page-some }

    pub small-page : length (on_page told log).answers ≤ no_room
    small-page = rw (page-long told log) b.small

    -- the same as a check keeps it
    pub shown : Written (take at log.answers) head (shown_answer own.counts answer) own.counts (kept_briefly (on_page told log))
    shown = written-briefly written small-page

    room-left : get_or (kept_briefly (on_page told log)).counts 0 0 + length (differing expected) + length (joined (tail names (closed_counts expected own.counts (shown_answer own.counts answer)))) ≤ length (kept_briefly (on_page told log)).answers
    room-left =
        let named : length (joined (tail names (closed_counts expected own.counts answer))) ≡ length (joined (tail names own.counts)) =
        rw (closed-tail names expected own.counts answer) in
        rw (closed-tail names expected own.counts (shown_answer own.counts answer), buffer-briefly written small-page, page-long told log)
        (omega (arith, ends-briefly written small-page, stands.ends, base-long, b.room, named))

  -- The same, and that the line is not under way after it.
  pub record Whole : Type 0 where
    pub counts : length r.state.log.counts ≡ 22
    pub room : get_or r.state.log.counts 0 0 + line_length ≤ length r.state.log.answers
    pub small : length r.state.log.answers ≤ no_room
    pub fit : Fit r.state.differences
    pub before : get_or r.state.log.counts 21 0 ≡ 0
    pub after : get_or own.counts 21 0 ≡ 0

  pub begins : Whole → Begins
  begins w = record { counts = w.counts; room = w.room; small = w.small; fit = w.fit; before = w.before }

  module _ (w : Whole) where
    pub room-told : HasRoom (whole content text numbers r) r.state.log
    room-told = room-begun (begins w)

    -- What is written after a line is what was written before it, and then its text, whatever the buffer is.
    pub content-text : text_of (content_answered content expected text numbers r) ≡ text_of r ++ line_text content expected text numbers r
    unfolding line_text told_text
    content-text =
        rw (whole-page content text numbers r (omega (arith, w.counts)) room-told w.small w.fit expected w.before w.after)
        (closed-text (shown (begins w)) expected names (room-left (begins w)))

    -- The counts after it are those of the definition, but for the first.
    pub content-counts : (content_answered content expected text numbers r).state.log.counts
        ≡ set (line_counts content expected text numbers r) 0 (get_or (content_answered content expected text numbers r).state.log.counts 0 0)
    unfolding line_counts told_counts
    content-counts =
        rw (whole-page content text numbers r (omega (arith, w.counts)) room-told w.small w.fit expected w.before w.after)
        (closed_same (shown (begins w)) expected names (room-left (begins w)))

-- The same from the line's bytes on.
pub line-text : (text numbers : List ℕ) (r : Replay) → Whole (line_reading numbers text).content (expected_of text) text (line_reading numbers text).numbers r
    → text_of (line_answered text numbers r) ≡ text_of r ++ line_text (line_reading numbers text).content (expected_of text) text (line_reading numbers text).numbers r
unfolding line_answered
line-text text numbers r w = content-text (line_reading numbers text).content (expected_of text) text (line_reading numbers text).numbers r w
