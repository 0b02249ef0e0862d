-- What a line adds to each count that the last line of a text tells, the places 3 to 8; the largest number stands for all above it. Assumes
-- nothing.
use Prim.Native.Nat.{ℕ, ◌+◌, ◌≤◌, ◌<◌, min}
use mathlib.Core.Path.{◌≡◌, refl, sym, ap, ◌∙◌}
use mathlib.Core.Bool.{Bool, true, false, cond}
use mathlib.Core.List.{List, [], ◌∷◌, ◌++◌}
use native.Mathlib.Omega.{arith}
use lib.Dec.{eqb}
use lib.IntN.{ℤ}
use lib.ListN.{length, get_or, set, take, length-set}
use lib.Seq.{get_or-set_same, get_or-set_other, length-take-le}
use borrow.Author.Tests.{le-ltb, ne_eqb}
use Rattle.unit.proofs.Cases.{by-test, by_eqb}
use Rattle.numeral.specs.Place.{put_each, joined}
use Rattle.device.specs.declared.Model.{Model}
use Rattle.device.specs.declared.Answer.{Answer}
use Rattle.device.specs.declared.Answer.TheVariants.{Refused, Accepted, Ticked, Stretched, Good, Failed}
use Rattle.device.specs.Model.{is_sound}
use Rattle.device.specs.Call.{Call}
use Rattle.device.specs.Reply.{reply}
use Rattle.quietest.specs.Quietest.{quietest_place}
use Rattle.listing.specs.Listing.{capture_digits, lines, last_above}
use Rattle.setup_frames.specs.Frames.{frames}
use Rattle.line.specs.declared.Content.{Content}
use Rattle.line.specs.Line.{Reading, Bounded}
use Rattle.line.proofs.BoundLaws.{line-bounded}
use Rattle.numeral.specs.Ascii.{ascii}
use Rattle.wording.specs.Wording.{Texts, line_feed, counted, refused, listing_head, frame_lines}
use Rattle.item_state.specs.Log.{added, refusals, call_counted}
use Rattle.item_calls.specs.Lines.{item_counts, start_moment, moved, moved_by, call_line, timed_line, beside}
use Rattle.item_questions.specs.Answers.{differing}
use Rattle.item_analysis.specs.Kept.{kept_each}
use Rattle.item_analysis.specs.Lines.{degrees_of, record_words, width_of}
use Rattle.item_checks.specs.Open.{is_item}
use Rattle.item_checks.specs.Fault.{is_fault, left_of}
use Rattle.item_checks.specs.Close.{expected_of, line_words, begins_with, refusal_counted, is_announced, is_not_bad}
use Rattle.answer_text.specs.Texts.{Told, silent, asked, answered, told_of_transaction, told_of_bus, told_of_set, told_of_single, told_of_tick, told_of_stretch, told_of_delivery, call_told, told_of_expect, told_of_frames, question_told, told_of_probe, told_in_degrees, told_of_degrees, told_of_record, told_of_listing, told_of_place, told_of_quietest, recorded, analysis_told}
use Rattle.answer_text.specs.Line.{line_told}
use Rattle.session.specs.Line.{State}
use Rattle.line_text.specs.Text.{fault_told, item_told, begun_told, bare, head_of, judged_counts, closed_counts, elsewhere, shown_answer, told_counts}
use Rattle.replay_text.specs.Replay.{tick_lines, ticks_told, told_by, opening, own_whole, Page, content_page, page_line}
use Rattle.replay_text.specs.LastLine.{counts_of, read_on, line_own, is_bad, is_call_line, words_compared, words_differ}
use Rattle.replay_text.proofs.Numbers.{reading-alike}
use Rattle.replay_text.proofs.Counts.{is_passing, begun-alike, begun-bad, begun-fault}
use Rattle.replay_text.proofs.Refusals.{degrees_refused, place_refused, refused_of, refused-same}
use Rattle.refusal.specs.declared.Refusal.{Refusal}
use Rattle.refusal.specs.Number.{number}
use Rattle.std.specs.Prelude.{Result, Ok, Err}

abbrev pub most : ℕ
most = 18446744073709551615

-- There are 22 counts, and this is one of them.
abbrev pub Has : ℕ → ℕ → List ℕ → Type 0
Has k v c = (length c ≡ 22) × (get_or c k 0 ≡ v)

-- so many more in a place
abbrev pub Gains : ℕ → ℕ → List ℕ → List ℕ → Type 0
Gains k g c c' = Has k (min (get_or c k 0 + g) most) c'

-- What a call adds to a count, with its refusals, and `expect` with its words, and those that differ.
abbrev pub in_call : ℕ → ℕ → ℕ
in_call k refusals = cond (eqb k 3) 1 0 + cond (eqb k 4) refusals 0

abbrev pub in_expect : ℕ → ℕ → ℕ → ℕ
in_expect k words differ = cond (eqb k 7) words 0 + cond (eqb k 8) differ 0

abbrev pub in_answer : ℕ → Content → List ℕ → State → List ℕ → ℕ
in_answer k content numbers s c =
    cond (is_call_line content) (in_call k (refused_of content numbers s c)) (in_expect k (words_compared content) (words_differ content numbers s.model))

-- What is counted behind the answer: the `=>`, and a refusal that is not announced.
unfoldable pub in_judged : ℕ → List (List ℕ) → List ℕ → List ℕ → ℕ
in_judged k [] c answer = 0
in_judged k (wanted ∷ others) c answer =
    cond (is_not_bad c) (cond (eqb k 7) 1 0 + cond (eqb k 8) (cond (begins_with wanted answer) 0 1) 0) 0

abbrev pub in_refusal : ℕ → Bool → List ℕ → ℕ
in_refusal k told c = cond (eqb k 5) (cond told 0 (cond (eqb (get_or c 4 0) (get_or c 17 0)) 0 1)) 0

has-set : (k n w v : ℕ) → (k ≡ n → ⊥) → (c : List ℕ) → Has k v c → Has k v (set c n w)
has-set k n w v other c h = (length-set c n w ∙ h.0, get_or-set_other c n k w 0 other ∙ h.1)

has-cond : (k : ℕ) (t : Bool) (v : ℕ) (x y : List ℕ) → Has k v x → Has k v y → Has k v (cond t x y)
has-cond k true v x y one other = one
has-cond k false v x y one other = other

none_more : (t : Bool) → ◌≡◌ {A = ℕ} (cond t 0 0) 0
none_more true = refl
none_more false = refl

module _ (k : ℕ) (some : 2 < k) (low : k < 9) where
  -- another place
  has_other : (n w v : ℕ) → 9 ≤ n → (c : List ℕ) → Has k v c → Has k v (set c n w)
  has_other n w v high c h = has-set k n w v (λ e. omega (arith, low, high, e)) c h

  -- any place that a number is added to
  has_more : (n g v : ℕ) → n < 22 → v ≤ most → (c : List ℕ) → Has k v c → Has k (min (v + cond (eqb k n) g 0) most) (added c n g)
  unfolding added
  has_more n g v here bound c h =
      by_eqb k n
      (λ same e. rw (e, same) (length-set c n _ ∙ h.0, get_or-set_same c n _ 0 (omega (arith, h.0, here)) ∙ (rw same at (ap (λ (x : ℕ). min (x + g) most) h.1))))
      (λ other e. rw e (let same = has-set k n _ v other c h in (same.0, same.1 ∙ omega (arith, bound))))

  has-moved : (g v : ℕ) → v ≤ most → (c : List ℕ) → Has k v c → Has k v (moved g c)
  unfolding moved added
  has-moved g v bound c h = has_other 9 _ v (omega arith) c h

  -- ---- what each line's own answer adds

  module _ (c : List ℕ) (long : length c ≡ 22) (bound : get_or c k 0 ≤ most) where
    itself : Has k (get_or c k 0) c
    itself = (long, refl)

    stays : (c' : List ℕ) → Has k (get_or c k 0) c' → Gains k (in_expect k 0 0) c c'
    stays c' h = (h.0, h.1 ∙ rw (none_more (eqb k 7), none_more (eqb k 8)) (omega (arith, bound)))

    gains-call : (r : ℕ) (c' : List ℕ) → Has k (get_or c k 0) c' → Gains k (in_call k r) c (call_counted r c')
    unfolding call_counted
    gains-call r c' h =
        let one = has_more 3 1 (get_or c k 0) (omega arith) bound c' h in
        let two = has_more 4 r _ (omega arith) (omega arith) (added c' 3 1) one in
        (two.0, two.1 ∙ omega arith)

    gains-start : (a : Answer) (v : ℕ) (c' : List ℕ) → Has k v c' → Has k v (start_moment a c')
    unfolding start_moment
    gains-start (Refused r) v c' h = h
    gains-start (Accepted true temperature) v c' h = has_other 9 0 v (omega arith) c' h
    gains-start (Accepted false true) v c' h = has_other 9 0 v (omega arith) c' h
    gains-start (Accepted false false) v c' h = h
    gains-start (Ticked flight temperature) v c' h = h
    gains-start (Stretched flight temperature) v c' h = h
    gains-start Good v c' h = h
    gains-start Failed v c' h = h

    gains-transaction : (call : Call) (texts : Answer → List ℕ → Texts) (m : Model)
        → Gains k (in_call k (refusals (reply m call).answer)) c (told_of_transaction call texts m c).counts
    unfolding told_of_transaction
    gains-transaction call texts m =
        gains-start (reply m call).answer _ (call_counted (refusals (reply m call).answer) c) (gains-call (refusals (reply m call).answer) c itself)

    has-stretch : (a : Answer) (n : ℕ) → Has k (get_or c k 0) (moved_by a n c)
    unfolding moved_by
    has-stretch a n = has-cond k (eqb (refusals a) 0) (get_or c k 0) (moved n c) c (has-moved n (get_or c k 0) bound c itself) itself

    gains-degrees : (d : Result ℕ Refusal) → Gains k (in_call k (degrees_refused d)) c (told_in_degrees d c).counts
    unfolding told_in_degrees degrees_refused
    gains-degrees (Ok n) = gains-call 0 c itself
    gains-degrees (Err r) = gains-call 1 c itself

    gains-place : (q : Result ℕ Refusal) (values : List ℤ) (width : ℕ) → Gains k (in_call k (place_refused q)) c (told_of_place q values width c).counts
    unfolding told_of_place place_refused
    gains-place (Ok start) values width = gains-call 0 c itself
    gains-place (Err r) values width = gains-call 1 c itself

    gains-either : (t : Bool) (r r' : ℕ) (x y : Told) → Gains k (in_call k r) c x.counts → Gains k (in_call k r') c y.counts
        → Gains k (in_call k (cond t r r')) c (cond t x y).counts
    gains-either true r r' x y one other = one
    gains-either false r r' x y one other = other

    gains-expect : (m : Model) (a : ℕ) (ws : List ℕ) → Gains k (in_expect k (length ws) (differing m a ws)) c (told_of_expect m a ws c).counts
    unfolding told_of_expect
    gains-expect m a ws =
        let one = has_more 7 (length ws) (get_or c k 0) (omega arith) bound c itself in
        let two = has_more 8 (differing m a ws) _ (omega arith) (omega arith) (added c 7 (length ws)) one in
        (two.0, two.1 ∙ omega arith)

    gains-probe : (entries probes : List ℕ) → Gains k (in_expect k 0 0) c (told_of_probe entries probes c).counts
    unfolding told_of_probe
    gains-probe entries probes =
        let used = (kept_each entries record { values = probes; used = get_or c 11 0 }).used in
        stays (set c 11 used) (has_other 11 used (get_or c k 0) (omega arith) c itself)

    -- `record` sets place 10 alone.
    record-sets : (P : List ℕ → Type 0) → ((w : ℕ) → P (set c 10 w)) → (ws : List ℕ) (differences : List ℤ) → P (told_of_record ws differences c).counts
    unfolding told_of_record
    record-sets P each ws differences = each _

    gains-record : (ws : List ℕ) (differences : List ℤ) → Gains k (in_expect k 0 0) c (told_of_record ws differences c).counts
    gains-record = record-sets (Gains k (in_expect k 0 0) c) (λ w. stays (set c 10 w) (has_other 10 w (get_or c k 0) (omega arith) c itself))

    gains-frames : (m : Model) → Gains k (in_call k (cond (is_sound m) 0 1)) c (told_of_frames m c).counts
    unfolding told_of_frames
    gains-frames m =
        let told = ascii "frames " ∷ (counted (length (frames m.setup)) line_feed ++ frame_lines (frames m.setup)) in
        gains-either (is_sound m) 0 1 (answered 0 told c) (answered 1 (refused (ascii "frames") 0) c) (gains-call 0 c itself) (gains-call 1 c itself)

    gains-listing : (d first : ℕ) (values : List ℤ) (used : ℕ) → Gains k (in_call k (cond (last_above d first (length values)) 1 0)) c (told_of_listing d first values used c).counts
    unfolding told_of_listing
    gains-listing d first values used =
        gains-either (last_above d first (length values)) 1 0 (answered 1 (refused (ascii "listing") 20) c) (answered 0 (listing_head used ++ (lines d first values ∷ [])) c)
        (gains-call 1 c itself) (gains-call 0 c itself)

    gains-single : (n : ℕ) (numbers : List ℕ) (s : State) → eqb n 1 ≡ true
        → Gains k (in_call k (refusals (reply s.model Call.tick).answer)) c (line_told (Content.Tick n) numbers (bare s c) s.differences s.probes).counts
    unfolding line_told call_told question_told analysis_told told_of_tick told_of_single
    gains-single n numbers s one =
        rw one (gains-call (refusals (reply s.model Call.tick).answer) (moved 1 c) (has-moved 1 (get_or c k 0) bound c itself))

    gains-tick : (n : ℕ) (numbers : List ℕ) (s : State)
        → Gains k (in_call k (cond (eqb n 1) (refusals (reply s.model Call.tick).answer) 0)) c (told_by (tick_lines (Content.Tick n) c) (Content.Tick n) numbers s c).counts
    unfolding told_by tick_lines ticks_told
    gains-tick n numbers s =
        by-test (eqb n 1) (λ one. rw one (gains-single n numbers s one))
        (λ more. rw more (gains-call 0 (moved n c) (has-moved n (get_or c k 0) bound c itself)))

    -- Of two numbers, or more, `degrees` takes the first two.
    gains-two : (numbers : List ℕ) (s : State) → 2 ≤ length numbers
        → Gains k (in_call k (refused_of Content.Degrees numbers s c)) c (line_told Content.Degrees numbers (bare s c) s.differences s.probes).counts
    unfolding refused_of line_told call_told question_told analysis_told told_of_degrees
    gains-two numbers s two =
        rw (le-ltb (length numbers) 2 two) (gains-degrees (degrees_of (take (get_or c 11 0) s.probes) (get_or numbers 0 0) (get_or numbers 1 0)))

    -- What a line's own answer adds to the count.
    gains-line : (content : Content) (numbers : List ℕ) (s : State) → Bounded content → 256 ≤ length numbers
        → Gains k (in_answer k content numbers s c) c (told_by (tick_lines content c) content numbers s c).counts
    unfolding is_call_line words_compared words_differ refused_of told_by tick_lines ticks_told line_told call_told question_told analysis_told item_counts told_of_bus told_of_set told_of_stretch told_of_delivery told_of_quietest call_line timed_line beside
    gains-line Content.Nothing numbers s bounded many = stays c itself
    gains-line Content.TooLong numbers s bounded many = stays c itself
    gains-line Content.UnknownWord numbers s bounded many = stays c itself
    gains-line Content.BadNumber numbers s bounded many = stays c itself
    gains-line Content.WrongCount numbers s bounded many = stays c itself
    gains-line Content.Item numbers s bounded many =
        let v = get_or c k 0 in
        stays (set (set (set c 9 0) 10 0) 11 0) (has_other 11 0 v (omega arith) (set (set c 9 0) 10 0) (has_other 10 0 v (omega arith) (set c 9 0) (has_other 9 0 v (omega arith) c itself)))
    gains-line (Content.Bus n) numbers s bounded many = gains-transaction _ _ s.model
    gains-line (Content.BusOut size n) numbers s bounded many = gains-transaction _ _ s.model
    gains-line (Content.Tick n) numbers s bounded many = gains-tick n numbers s
    gains-line (Content.Flight up down) numbers s bounded many = gains-call _ c itself
    gains-line (Content.Temperature n) numbers s bounded many = gains-call _ c itself
    gains-line Content.Int numbers s bounded many = stays c itself
    gains-line Content.Awaited numbers s bounded many = stays c itself
    gains-line Content.Regs numbers s bounded many = stays c itself
    gains-line (Content.Expect a n) numbers s bounded many =
        let all : length (take n numbers) ≡ n = length-take-le n numbers (omega (arith, bounded.3, many)) in rw all at (gains-expect s.model a (take n numbers))
    gains-line Content.Show numbers s bounded many = stays c itself
    gains-line (Content.Set a n) numbers s bounded many = gains-transaction _ _ s.model
    gains-line (Content.At t) numbers s bounded many = gains-call 0 (set c 9 t) (has_other 9 t (get_or c k 0) (omega arith) c itself)
    gains-line (Content.Stretch n) numbers s bounded many =
        gains-call _ (moved_by (reply s.model (Call.stretch n)).answer n c) (has-stretch (reply s.model (Call.stretch n)).answer n)
    gains-line Content.Frames numbers s bounded many = gains-frames s.model
    gains-line (Content.Probe n) numbers s bounded many = gains-probe (take n numbers) s.probes
    gains-line Content.Degrees numbers s bounded many = gains-two numbers s (omega (arith, many))
    gains-line (Content.Record n) numbers s bounded many = gains-record (record_words s.model numbers n) s.differences
    gains-line (Content.Listing old first) numbers s bounded many = gains-listing (capture_digits (width_of old)) first (recorded s.differences c) (get_or c 10 0)
    gains-line (Content.Quietest n) numbers s bounded many = gains-place (quietest_place (recorded s.differences c) n) (recorded s.differences c) n

  -- ---- what is counted behind it

  has-judged : (expected : List (List ℕ)) (c answer : List ℕ) (v : ℕ) → v ≤ most → Has k v c
      → Has k (min (v + in_judged k expected c answer) most) (judged_counts expected c answer)
  unfolding judged_counts in_judged
  has-judged [] c answer v bound h = (h.0, h.1 ∙ omega (arith, bound))
  has-judged (wanted ∷ others) c answer v bound h = go (is_not_bad c) (begins_with wanted answer)
    where
      one : Has k (min (v + cond (eqb k 7) 1 0) most) (added c 7 1)
      one = has_more 7 1 v (omega arith) bound c h

      go : (t u : Bool)
          → Has k (min (v + cond t (cond (eqb k 7) 1 0 + cond (eqb k 8) (cond u 0 1) 0) 0) most)
          (cond t (cond u (added c 7 1) (added (added c 7 1) 8 1)) c)
      go true true = (one.0, one.1 ∙ rw (none_more (eqb k 8)) (omega arith))
      go true false = let two = has_more 8 1 _ (omega arith) (omega arith) (added c 7 1) one in (two.0, two.1 ∙ omega arith)
      go false u = (h.0, h.1 ∙ omega (arith, bound))

  has-refusal : (told : Bool) (c : List ℕ) (v : ℕ) → v ≤ most → Has k v c → Has k (min (v + in_refusal k told c) most) (refusal_counted told c)
  unfolding refusal_counted
  has-refusal told c v bound h = go told (eqb (get_or c 4 0) (get_or c 17 0))
    where
      one : Has k (min (v + cond (eqb k 5) 1 0) most) (added c 5 1)
      one = has_more 5 1 v (omega arith) bound c h

      none : Has k (min (v + cond (eqb k 5) 0 0) most) c
      none = (h.0, h.1 ∙ rw (none_more (eqb k 5)) (omega (arith, bound)))

      go : (t u : Bool) → Has k (min (v + cond (eqb k 5) (cond t 0 (cond u 0 1)) 0) most) (cond t c (cond u c (added c 5 1)))
      go true u = none
      go false true = none
      go false false = one

  has-elsewhere : (c : List ℕ) (v : ℕ) → Has k v c → Has k v (elsewhere 0 0 0 0 c)
  has-elsewhere c v h =
      has_other 20 0 v (omega arith) (set (set (set c 0 0) 12 0) 13 0) (has_other 13 0 v (omega arith) (set (set c 0 0) 12 0)
      (has_other 12 0 v (omega arith) (set c 0 0) (has-set k 0 0 v (λ e. omega (arith, some, e)) c h)))

  has-item : (content : Content) (text names : List ℕ) (v : ℕ) (c : List ℕ) → Has k v c → Has k v (item_told content text names c).counts
  unfolding item_told
  has-item content text names v c h = go (is_item content)
    where
      go : (t : Bool) → Has k v (cond t (asked (line_words text ++ (line_feed ∷ [])) (set c 15 (put_each names 4096 (line_words text)).next)) (silent c)).counts
      go true = has_other 15 (put_each names 4096 (line_words text)).next v (omega arith) c h
      go false = h

  tally-stays : (k ≡ 6 → ⊥) → is_passing k ≡ false
  tally-stays other =
      rw (ne_eqb k 0 (λ e. omega (arith, some, e)), ne_eqb k 2 (λ e. omega (arith, some, e)), ne_eqb k 6 other, ne_eqb k 12 (λ e. omega (arith, low, e)), ne_eqb k 13 (λ e. omega (arith, low, e)), ne_eqb k 17 (λ e. omega (arith, low, e)), ne_eqb k 18 (λ e. omega (arith, low, e)), ne_eqb k 19 (λ e. omega (arith, low, e)), ne_eqb k 20 (λ e. omega (arith, low, e)))

  -- The head adds nothing.
  has-head : (names c : List ℕ) → length c ≡ 22 → Has k (get_or c k 0) (begun_told names c).counts
  has-head names c long =
      let a = begun-alike names c long in
      (a.long', by_eqb k 6 (λ same e. rw same (begun-bad names c long)) (λ other e. sym (a.each k (tally-stays other))))

-- ---- a whole line

item-other : (content : Content) (text names : List ℕ) (c : List ℕ) (n : ℕ) → (n ≡ 15 → ⊥) → get_or (item_told content text names c).counts n 0 ≡ get_or c n 0
unfolding item_told
item-other content text names c n other = go (is_item content)
  where
    go : (t : Bool) → get_or (cond t (asked (line_words text ++ (line_feed ∷ [])) (set c 15 (put_each names 4096 (line_words text)).next)) (silent c)).counts n 0 ≡ get_or c n 0
    go true = get_or-set_other c 15 n (put_each names 4096 (line_words text)).next 0 other
    go false = refl

-- What a line adds to a count: a bad one 1 to place 6, any other what its own answer adds;
unfoldable pub in_own : ℕ → List ℕ → Page → ℕ
in_own k line p =
    let read = read_on line p in
    cond (is_bad line p) (cond (eqb k 6) 1 0) (in_answer k read.content read.numbers p.replay.state (counts_of p))

-- and what is counted behind it.
unfoldable pub in_closed : ℕ → List (List ℕ) → List ℕ → List ℕ → ℕ
in_closed k expected c answer =
    in_judged k expected c answer + in_refusal k (is_announced expected c answer) (judged_counts expected c answer)

unfoldable pub in_line : ℕ → List ℕ → Page → ℕ
in_line k line p =
    let own = line_own line p in in_own k line p + in_closed k (expected_of line) own.counts (shown_answer own.counts (joined own.texts))

-- To three of the places nothing is added behind the answer.
pub own_alone : (k : ℕ) → eqb k 5 ≡ false → eqb k 7 ≡ false → eqb k 8 ≡ false → (line : List ℕ) (p : Page) → in_line k line p ≡ in_own k line p
unfolding in_line in_closed in_judged
own_alone k five seven eight line p = go (expected_of line)
  where
    go : (expected : List (List ℕ))
        → in_own k line p + in_closed k expected (line_own line p).counts (shown_answer (line_own line p).counts (joined (line_own line p).texts)) ≡ in_own k line p
    go [] = rw five (omega arith)
    go (wanted ∷ others) = rw (five, seven, eight, none_more (is_not_bad (line_own line p).counts)) (omega arith)

module _ (k : ℕ) (some : 2 < k) (low : k < 9) (line : List ℕ) (p : Page) (long : length (counts_of p) ≡ 22) (bound : get_or (counts_of p) k 0 ≤ most)
    (many : 256 ≤ length p.numbers) where
  abbrev read : Reading
  read = read_on line p

  abbrev c : List ℕ
  c = counts_of p

  abbrev h : List ℕ
  h = (head_of p.replay).counts

  head-is : Has k (get_or c k 0) h
  head-is = has-head k some low p.replay.names c long

  own-bad : is_fault read.content c ≡ true → Gains k (cond (eqb k 6) 1 0) c (line_own line p).counts
  unfolding line_own own_whole opening fault_told left_of item_told is_item told_by tick_lines line_told call_told question_told analysis_told
  own-bad bad =
      rw (begun-fault p.replay.names c long read.content ∙ bad) (has_more k some low 6 1 (get_or c k 0) (omega arith) bound h head-is)

  own-good : is_fault read.content c ≡ false → Gains k (in_answer k read.content read.numbers p.replay.state c) c (line_own line p).counts
  unfolding line_own own_whole opening fault_told left_of
  own-good good =
      let a = begun-alike p.replay.names c long in
      let after = (item_told read.content line p.replay.names h).counts in
      let here = has-item k some low read.content line p.replay.names (get_or c k 0) h head-is in
      let ten : get_or after 10 0 ≡ get_or c 10 0 = item-other read.content line p.replay.names h 10 (λ e. omega arith) ∙ sym (a.each 10 refl) in
      let eleven : get_or after 11 0 ≡ get_or c 11 0 = item-other read.content line p.replay.names h 11 (λ e. omega arith) ∙ sym (a.each 11 refl) in
      let still : 256 ≤ length read.numbers = omega (arith, many, (reading-alike p.numbers p.numbers refl line).kept) in
      let gained = gains-line k some low after here.0 (rw here.1 bound) read.content read.numbers p.replay.state (line-bounded p.numbers line) still in
      rw (begun-fault p.replay.names c long read.content ∙ good)
      (gained.0, rw (here.1, refused-same read.content read.numbers p.replay.state after c ten eleven) at gained.1)

  -- A line's own answer adds to the count,
  pub own-gains : Gains k (in_own k line p) c (line_own line p).counts
  unfolding in_own is_bad
  own-gains = by-test (is_fault read.content c) (λ bad. rw bad (own-bad bad)) (λ good. rw good (own-good good))

  -- and so does what is counted behind it.
  pub line-gains : Gains k (in_line k line p) c (counts_of (page_line line p))
  unfolding page_line content_page told_counts closed_counts in_line in_closed line_own
  line-gains =
      let own = line_own line p in
      let answer = shown_answer own.counts (joined own.texts) in
      let one = own-gains in
      let two = has-judged k some low (expected_of line) own.counts answer _ (omega arith) one in
      let three = has-refusal k some low (is_announced (expected_of line) own.counts answer) (judged_counts (expected_of line) own.counts answer) _ (omega arith) two in
      let four = has-elsewhere k some low (closed_counts (expected_of line) own.counts answer) _ three in
      (four.0, four.1 ∙ omega arith)
