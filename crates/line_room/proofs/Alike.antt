-- The counts and the buffer stay as many as they were, whatever a line does and however much room there is. Assumes nothing.
use Prim.Native.Nat.{ℕ, ◌+◌, ◌*◌, ◌≤◌, ◌<◌, min}
use mathlib.Core.Path.{◌≡◌, refl, sym, ◌∙◌}
use mathlib.Core.Bool.{Bool, true, false, cond}
use mathlib.Core.List.{List, [], ◌∷◌, ◌++◌}
use native.Mathlib.Omega.{arith}
use lib.Dec.{eqb, leb}
use lib.IntN.{ℤ}
use lib.ListN.{length, get_or, set, take, drop, length-set, length-append, length-take, length-drop}
use Rattle.unit.proofs.Cases.{by-test, by-ltb, by-leb}
use Rattle.numeral.specs.Place.{joined}
use Rattle.listing.specs.Listing.{capture_digits, line_length, last_above, listing}
use Rattle.listing.proofs.Meaning.{Fit, lines-length}
use Rattle.line.specs.declared.Content.{Content}
use Rattle.numeral.specs.Ascii.{ascii}
use Rattle.wording.specs.Wording.{Texts, line_feed, place, expected as expected_texts, left_out, refused, listing_head}
use Rattle.item_state.specs.Log.{Log, added, put, said, call_counted, counted, called}
use Rattle.item_calls.specs.Lines.{call_line, timed_line, beside}
use Rattle.item_questions.specs.Answers.{question_line}
use Rattle.item_analysis.specs.Lines.{width_of, listed_at, listing_told, listing_line, analysis_line}
use Rattle.item_checks.specs.Fault.{is_fault, left_of, fault_said, fault_log}
use Rattle.item_checks.specs.Open.{line_counted, headed, begun, is_item, item_named, named, opened}
use Rattle.item_checks.specs.Close.{line_words, answer, place_of, first_end, begins_with, within, inserted, one_more, compared, judged_log, is_announced, refusal_counted, cut_off, kept_briefly, trouble, tail, shortened, looked, closed}
use Rattle.answer_text.specs.Texts.{on_page, is_listing}
use Rattle.answer_text.specs.Line.{line_left, line_told}
use Rattle.answer_text.proofs.Page.{page-long}
use Rattle.answer_text.proofs.Analysis.{recorded-fit}
use Rattle.answer_text.proofs.Line.{line-page, line-aside}
use Rattle.session.specs.Line.{State, with_flash, line_done, line_begun, line_ended}
use Rattle.line_room.proofs.Room.{put-long}
use Rattle.refusal.specs.declared.Refusal.{Refusal}
use Rattle.refusal.specs.Number.{number}
use Rattle.std.specs.Prelude.{Result, Ok, Err}

-- One log has as many counts and as long a buffer as another.
pub record Alike (l l' : Log) : Type 0 where
  pub counts : length l'.counts ≡ length l.counts
  pub answers : length l'.answers ≡ length l.answers

pub alike : (l : Log) → Alike l l
alike l = record { counts = refl; answers = refl }

pub alike_then : {l l' l'' : Log} → Alike l l' → Alike l' l'' → Alike l l''
alike_then a b = record { counts = b.counts ∙ a.counts; answers = b.answers ∙ a.answers }

either-alike : {l : Log} (t : Bool) {a b : Log} → Alike l a → Alike l b → Alike l (cond t a b)
either-alike true h k = h
either-alike false h k = k

-- other counts, as many
counts-alike : (counts : List ℕ) (l : Log) → length counts ≡ length l.counts → Alike l record { counts = counts; answers = l.answers }
counts-alike counts l h = record { counts = h; answers = refl }

added-long : (counts : List ℕ) (p k : ℕ) → length (added counts p k) ≡ length counts
unfolding added
added-long counts p k = length-set counts p _

said-alike : (ts : Texts) (l : Log) → Alike l (said ts l)
unfolding said
said-alike ts l = record { counts = length-set l.counts 0 _; answers = put-long ts l.answers (get_or l.counts 0 0) }

said-then : (ts : Texts) (counts : List ℕ) (l : Log) → length counts ≡ length l.counts → Alike l (said ts record { counts = counts; answers = l.answers })
said-then ts counts l h = alike_then (counts-alike counts l h) (said-alike ts record { counts = counts; answers = l.answers })

counted-long : (counts : List ℕ) (refusals used : ℕ) → length (counted counts refusals used) ≡ length counts
unfolding counted call_counted added
counted-long counts refusals used = simp length-set

called-alike : (refusals : ℕ) (ts : Texts) (l : Log) → Alike l (called refusals ts l)
unfolding called
called-alike refusals ts l = record { counts = counted-long l.counts refusals _; answers = put-long ts l.answers (get_or l.counts 0 0) }

-- ---- before the line's own answer

counted-line : (counts : List ℕ) → length (line_counted counts) ≡ length counts
unfolding line_counted added
counted-line counts = simp length-set

headed-alike : (names : List ℕ) (l : Log) → Alike l (headed names l)
unfolding headed
headed-alike names l =
    let counts = set l.counts 19 (trouble l.counts) in
    either-alike (eqb (get_or l.counts 14 0) 0) (alike l)
    (said-then (place (take (get_or counts 16 0) names) (get_or counts 2 0)) counts l (length-set l.counts 19 (trouble l.counts)))

begun-alike : (names : List ℕ) (l : Log) → Alike l (begun names l)
unfolding begun
begun-alike names l =
    let start : Log = record { counts = line_counted l.counts; answers = l.answers } in
    let head = headed names start in
    alike_then (counts-alike (line_counted l.counts) l (counted-line l.counts))
    (alike_then (headed-alike names start)
    (counts-alike (set head.counts 20 (get_or head.counts 0 0)) head (length-set head.counts 20 (get_or head.counts 0 0))))

fault-alike : (content : Content) (l : Log) → Alike l (fault_log content l)
unfolding fault_log fault_said
fault-alike content l = either-alike (is_fault content l.counts) (said-then _ (added l.counts 6 1) l (added-long l.counts 6 1)) (alike l)

named-alike : (content : Content) (text names : List ℕ) (l : Log) → Alike l (named content text names l).log
unfolding named item_named
named-alike content text names l = go (is_item content)
  where
    go : (t : Bool) → Alike l (cond t (item_named text names l) record { names = names; log = l }).log
    go true = said-then (line_words text ++ (line_feed ∷ [])) (set l.counts 15 _) l (length-set l.counts 15 _)
    go false = alike l

named-long : (content : Content) (text names : List ℕ) (l : Log) → length (named content text names l).names ≡ length names
unfolding named item_named
named-long content text names l = go (is_item content)
  where
    go : (t : Bool) → length (cond t (item_named text names l) record { names = names; log = l }).names ≡ length names
    go true = put-long (line_words text) names 4096
    go false = refl

module _ (content : Content) (text names : List ℕ) (l : Log) where
  opened-alike : Alike l (opened content text names l).log
  unfolding opened
  opened-alike =
      let b = begun names l in
      alike_then (begun-alike names l)
      (alike_then (fault-alike content b) (named-alike (left_of content b.counts) text names (fault_log content b)))

  opened-long : length (opened content text names l).names ≡ length names
  unfolding opened
  opened-long = let b = begun names l in named-long (left_of content b.counts) text names (fault_log content b)

  -- A line that is under way is not begun again.
  pub begun_kept : Alike l (line_begun content text names l).log
  unfolding line_begun
  begun_kept = by-test (eqb (get_or l.counts 21 0) 0) (λ e. rw e opened-alike) (λ e. rw e (alike l))

  pub begun-names : length (line_begun content text names l).names ≡ length names
  unfolding line_begun
  begun-names = by-test (eqb (get_or l.counts 21 0) 0) (λ e. rw e opened-long) (λ e. rw e)

-- ---- the line's own answer

listing-long : (d : ℕ) (values : List ℤ) (first : ℕ) (out : List ℕ) → Fit values → length (listing d values first out).bytes ≡ length out
unfolding listing
listing-long d values first out fit =
    by-test (last_above d first (length values)) (λ e. rw e)
    (λ e. by-ltb (length out) (length values * line_length d) (λ h t. rw (e, t))
    (λ h t. rw (e, t, length-append, length-drop)
    (omega (arith, lines-length d first values fit))))

listed-long : (d : ℕ) (values : List ℤ) (first : ℕ) (l : List ℕ) (at : ℕ) → Fit values → length (listed_at d values first l at).bytes ≡ length l
unfolding listed_at
listed-long d values first l at fit =
    by-leb at (length l)
    (λ h e. rw (e, length-append (take at l) (listing d values first (drop at l)).bytes)
    (omega (arith, length-take at l, length-drop at l, listing-long d values first (drop at l) fit)))
    (λ h e. rw e)

told-alike : (x : Result ℕ Refusal) (at : ℕ) (l : Log) → Alike l (listing_told x at l)
unfolding listing_told
told-alike (Ok n) at l = counts-alike (counted l.counts 0 (min (at + n) 18446744073709551615)) l (counted-long l.counts 0 _)
told-alike (Err r) at l = called-alike 1 (refused (ascii "listing") (number r)) l

listing-alike : (old : Bool) (first : ℕ) (differences : List ℤ) (l : Log) → Fit differences → Alike l (listing_line old first differences l)
unfolding listing_line
listing-alike old first differences l fit =
    let used = get_or l.counts 10 0 in
    let head = put (listing_head used) l in
    let o = listed_at (capture_digits (width_of old)) (take used differences) first head.bytes head.next in
    let whole : Alike l record { counts = l.counts; answers = o.bytes } = record {
      counts = refl;
      answers = listed-long (capture_digits (width_of old)) (take used differences) first head.bytes head.next (recorded-fit differences l.counts fit)
          ∙ put-long (listing_head used) l.answers (get_or l.counts 0 0);
    } in
    alike_then whole (told-alike o.answer head.next record { counts = l.counts; answers = o.bytes })

module _ (numbers : List ℕ) (s : State) (some : 0 < length s.log.counts) where
  -- every line but a listing leaves on the page what it tells, whatever room there is
  plain-alike : (content : Content) → is_listing content ≡ false → Alike s.log (line_done content numbers s).log
  unfolding line_done on_page
  plain-alike content short =
      let told = line_told content numbers (with_flash s) s.differences s.probes in
      let no : is_listing content ≡ true → ⊥ = λ h. let z : ◌≡◌ {A = Bool} true false = sym h ∙ short in let y : ◌≡◌ {A = ℕ} 0 1 = cc in omega arith in
      let same = line-page content numbers (with_flash s) s.differences s.probes some record {
        room = λ h. absurd (no h);
        small = λ h. absurd (no h);
        fit = λ h. absurd (no h);
      } in
      rw same record {
        counts = length-set told.counts 0 _ ∙ (line-aside content numbers (with_flash s) s.differences s.probes 0 []).long;
        answers = page-long told s.log;
      }

  listed-alike : Fit s.differences → (old : Bool) (first : ℕ) → Alike s.log (line_done (Content.Listing old first) numbers s).log
  unfolding line_done line_left call_line timed_line beside question_line analysis_line
  listed-alike fit old first = listing-alike old first s.differences s.log fit

  pub done-alike : Fit s.differences → (content : Content) → Alike s.log (line_done content numbers s).log
  unfolding is_listing
  done-alike fit Content.Nothing = plain-alike Content.Nothing refl
  done-alike fit Content.TooLong = plain-alike Content.TooLong refl
  done-alike fit Content.UnknownWord = plain-alike Content.UnknownWord refl
  done-alike fit Content.BadNumber = plain-alike Content.BadNumber refl
  done-alike fit Content.WrongCount = plain-alike Content.WrongCount refl
  done-alike fit Content.Item = plain-alike Content.Item refl
  done-alike fit (Content.Bus n) = plain-alike (Content.Bus n) refl
  done-alike fit (Content.BusOut size n) = plain-alike (Content.BusOut size n) refl
  done-alike fit (Content.Tick n) = plain-alike (Content.Tick n) refl
  done-alike fit (Content.Flight up down) = plain-alike (Content.Flight up down) refl
  done-alike fit (Content.Temperature n) = plain-alike (Content.Temperature n) refl
  done-alike fit Content.Int = plain-alike Content.Int refl
  done-alike fit Content.Awaited = plain-alike Content.Awaited refl
  done-alike fit Content.Regs = plain-alike Content.Regs refl
  done-alike fit (Content.Expect a n) = plain-alike (Content.Expect a n) refl
  done-alike fit Content.Show = plain-alike Content.Show refl
  done-alike fit (Content.Set a n) = plain-alike (Content.Set a n) refl
  done-alike fit (Content.At t) = plain-alike (Content.At t) refl
  done-alike fit (Content.Stretch n) = plain-alike (Content.Stretch n) refl
  done-alike fit Content.Frames = plain-alike Content.Frames refl
  done-alike fit (Content.Probe n) = plain-alike (Content.Probe n) refl
  done-alike fit Content.Degrees = plain-alike Content.Degrees refl
  done-alike fit (Content.Record n) = plain-alike (Content.Record n) refl
  done-alike fit (Content.Listing old first) = listed-alike fit old first
  done-alike fit (Content.Quietest n) = plain-alike (Content.Quietest n) refl

-- ---- behind it

within-long : (t : List ℕ) (l : Log) → get_or l.counts 0 0 + length t ≤ length l.answers → length (within t l) ≡ length l.answers
unfolding within first_end
within-long t l room =
    let used = get_or l.counts 0 0 in
    let end = min (get_or l.counts 20 0 + place_of 10 (answer l)) used in
    rw (length-append, length-append, length-append)
    (omega (
      arith,
      length-take end l.answers,
      length-drop end (take used l.answers),
      length-take used l.answers,
      length-drop (used + length t) l.answers,
    ))

inserted-alike : (wanted : List ℕ) (l : Log) → Alike l (inserted wanted l)
unfolding inserted
inserted-alike wanted l =
    let t = joined (expected_texts wanted) in
    by-leb (get_or l.counts 0 0 + length t) (length l.answers)
    (λ h e. rw e record { counts = length-set l.counts 0 _; answers = within-long t l h })
    (λ h e. rw e (said-alike (expected_texts wanted) l))

more-alike : (p : ℕ) (l : Log) → Alike l (one_more p l)
more-alike p l = counts-alike (added l.counts p 1) l (added-long l.counts p 1)

compared-alike : (wanted : List ℕ) (l : Log) → Alike l (compared wanted l)
unfolding compared
compared-alike wanted l =
    either-alike (begins_with wanted (answer l)) (more-alike 7 l)
    (alike_then (more-alike 7 l) (alike_then (more-alike 8 (one_more 7 l)) (inserted-alike wanted (one_more 8 (one_more 7 l)))))

judged-alike : (expected : List (List ℕ)) (l : Log) → Alike l (judged_log expected l)
unfolding judged_log
judged-alike [] l = alike l
judged-alike (wanted ∷ others) l = either-alike (eqb (get_or l.counts 6 0) (get_or l.counts 18 0)) (compared-alike wanted l) (alike l)

refusal-long : (told : Bool) (counts : List ℕ) → length (refusal_counted told counts) ≡ length counts
unfolding refusal_counted
refusal-long true counts = refl
refusal-long false counts = go (eqb (get_or counts 4 0) (get_or counts 17 0))
  where
    go : (t : Bool) → length (cond t counts (added counts 5 1)) ≡ length counts
    go true = refl
    go false = added-long counts 5 1

looked-alike : (names : List ℕ) (l : Log) → Alike l (looked names l)
unfolding looked shortened
looked-alike names l =
    either-alike (eqb (trouble l.counts) (get_or l.counts 19 0))
    (counts-alike (set l.counts 0 (get_or l.counts 12 0)) l (length-set l.counts 0 (get_or l.counts 12 0)))
    record { counts = length-set l.counts 0 _; answers = put-long (tail names l.counts) l.answers (first_end l) }

closed-alike : (expected : List (List ℕ)) (names : List ℕ) (l : Log) → Alike l (closed expected names l)
unfolding closed
closed-alike expected names l =
    let j = judged_log expected l in
    let u : Log = record { counts = refusal_counted (is_announced expected l.counts (answer l)) j.counts; answers = j.answers } in
    let first : Alike l u = alike_then (judged-alike expected l) (counts-alike u.counts j (refusal-long (is_announced expected l.counts (answer l)) j.counts)) in
    either-alike (eqb (get_or u.counts 14 0) 0) first (alike_then first (looked-alike names u))

-- In a check the answer is cut.
briefly-alike : (l : Log) → Alike l (kept_briefly l)
unfolding kept_briefly cut_off
briefly-alike l =
    either-alike (eqb (get_or l.counts 14 0) 0) (alike l)
    (either-alike (leb (get_or l.counts 0 0) (min (get_or l.counts 20 0 + 2051) 18446744073709551615)) (alike l)
    record {
      counts = length-set l.counts 0 _;
      answers = put-long left_out l.answers (min (get_or l.counts 20 0 + 2048) 18446744073709551615);
    })

-- A line that is under way is not closed.
pub ended-alike : (expected : List (List ℕ)) (names : List ℕ) (l : Log) → Alike l (line_ended expected names l)
unfolding line_ended
ended-alike expected names l =
    let k = kept_briefly l in
    alike_then (briefly-alike l) (either-alike (eqb (get_or k.counts 21 0) 0) (closed-alike expected names k) (alike k))
