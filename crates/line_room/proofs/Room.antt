-- How many bytes a whole line puts into the buffer at most, with all that stands around its answer. Assumes nothing.
use Prim.Native.Nat.{ℕ, ◌+◌, ◌-◌, ◌≤◌}
use mathlib.Core.Path.{◌≡◌, refl}
use mathlib.Core.Bool.{Bool, true, false, cond}
use mathlib.Core.List.{List, [], ◌∷◌, ◌++◌, map}
use native.Mathlib.Omega.{arith}
use lib.Dec.{eqb, ltb}
use lib.ListN.{length, get_or, set, take, length-append, length-drop}
use Rattle.unit.proofs.Cases.{by-test, by-ltb}
use Rattle.numeral.specs.Place.{put_each, joined}
use Rattle.line.specs.declared.Content.{Content}
use Rattle.line.specs.Words.{is_blank, ended, words_after, words}
use Rattle.line.specs.Mark.{is_mark, behind_mark, takes_mark}
use Rattle.line.specs.Spaced.{blanked, spaced}
use Rattle.line.specs.Line.{Bounded, keyword_of, words_expected, content_length, line_reading, line_expected}
use Rattle.line.proofs.BoundLaws.{line-bounded}
use Rattle.numeral.specs.Ascii.{ascii}
use Rattle.wording.specs.Wording.{Texts, line_feed, place, why, fault, expected as expected_texts, item_name}
use Rattle.item_state.specs.Log.{Log, added}
use Rattle.item_checks.specs.Fault.{is_fault, left_of}
use Rattle.item_checks.specs.Open.{line_counted, is_item}
use Rattle.item_checks.specs.Close.{line_words, expected_of, tail, trouble}
use Rattle.answer_text.specs.Texts.{Told, on_page}
use Rattle.answer_text.specs.Line.{line_told}
use Rattle.answer_text.proofs.Page.{page-long}
use Rattle.answer_length.specs.Longest.{Small}
use Rattle.answer_length.proofs.Sizes.{size, size-joined, size-append, take-most, decimal-most, counted-size}
use Rattle.answer_length.proofs.Line.{line-size, longest-most}
use Rattle.session.specs.Line.{with_flash, Replay, with_log}
use Rattle.line_text.specs.Text.{head_told, begun_told, fault_told, item_told, names_after, bare, own_told, closed_counts, head_of, own_of}
use Rattle.line_text.proofs.Close.{differing}
use Rattle.line_text.proofs.Text.{line_length}
use Rattle.line_room.specs.Form.{InForm, NumbersFit}
use Rattle.line_room.proofs.Numbers.{numbers-kept}

-- ---- the words of a line, parted by one blank

-- the bytes of words, with one more for each
unfoldable pub bytes_in : List (List ℕ) → ℕ
bytes_in [] = 0
bytes_in (w ∷ ws) = length w + 1 + bytes_in ws

ended-few : (w : List ℕ) (ws : List (List ℕ)) → bytes_in (ended w ws) ≤ length w + 1 + bytes_in ws
unfolding ended bytes_in
ended-few [] ws = omega arith
ended-few (c ∷ w) ws = omega arith

after-few : (cs w : List ℕ) → bytes_in (words_after w cs) ≤ length w + length cs + 1
unfolding words_after
after-few [] w = omega (arith, ended-few w [], none)
  where
    none : bytes_in [] ≡ 0
    none = unfold bytes_in in refl
after-few (c ∷ cs) w = go (is_blank c) (after-few cs []) (after-few cs (w ++ (c ∷ [])))
  where
    go : (t : Bool) → bytes_in (words_after [] cs) ≤ 0 + length cs + 1 → bytes_in (words_after (w ++ (c ∷ [])) cs) ≤ length (w ++ (c ∷ [])) + length cs + 1
        → bytes_in (cond t (ended w (words_after [] cs)) (words_after (w ++ (c ∷ [])) cs)) ≤ length w + length (c ∷ cs) + 1
    go true blank word = omega (arith, ended-few w (words_after [] cs), blank)
    go false blank word = omega (arith, word, length-append w (c ∷ []))

pub words-few : (cs : List ℕ) → bytes_in (words cs) ≤ length cs + 1
unfolding words
words-few cs = omega (arith, after-few cs [])

blanked-few : (ws : List (List ℕ)) → size (blanked ws) ≤ bytes_in ws
unfolding size blanked bytes_in
blanked-few [] = omega arith
blanked-few (w ∷ ws) = omega (arith, blanked-few ws)

pub spaced-few : (ws : List (List ℕ)) → size (spaced ws) ≤ bytes_in ws
unfolding size spaced bytes_in
spaced-few [] = omega arith
spaced-few (w ∷ ws) = omega (arith, blanked-few ws)

line-words : (text : List ℕ) → size (line_words text) ≤ content_length text + 1
unfolding line_words
line-words text =
    let cs = take (content_length text) text in
    omega (arith, spaced-few (words cs), words-few cs, take-most (content_length text) text)

-- ---- what a line expects

expected-size : (words : List ℕ) → length (joined (expected_texts words)) ≤ length words + 10
unfolding size expected_texts ascii
expected-size words = rw size-joined (omega arith)

-- the words that are expected, as the one text of a list
abbrev as_texts : List (List (List ℕ)) → List (List ℕ)
as_texts xs = map (λ (ws : List (List ℕ)). joined (spaced ws)) xs

-- the words behind the mark are some of all
behind-few : (ws : List (List ℕ)) (n : ℕ) → bytes_in ws ≤ n → length (differing (as_texts (behind_mark ws))) ≤ n + 10
unfolding behind_mark bytes_in
behind-few [] n h = omega arith
behind-few (w ∷ ws) n h = go (is_mark w) (behind-few ws n (omega arith))
  where
    go : (t : Bool) → length (differing (as_texts (behind_mark ws))) ≤ n + 10
        → length (differing (as_texts (cond t (ws ∷ []) (behind_mark ws)))) ≤ n + 10
    go true rest = omega (arith, expected-size (joined (spaced ws)), size-joined (spaced ws), spaced-few ws)
    go false rest = rest

marked-few : (ws : List (List ℕ)) (n : ℕ) → bytes_in ws ≤ n → length (differing (as_texts (words_expected ws))) ≤ n + 10
unfolding words_expected bytes_in
marked-few [] n h = omega arith
marked-few (w ∷ ws) n h = go (eqb (get_or w 0 0) 35) (takes_mark (keyword_of w)) (behind-few ws n (omega arith))
  where
    go : (t u : Bool) → length (differing (as_texts (behind_mark ws))) ≤ n + 10
        → length (differing (as_texts (cond t [] (cond u (behind_mark ws) [])))) ≤ n + 10
    go true u rest = omega arith
    go false true rest = rest
    go false false rest = omega arith

-- A line of at most 1,000 bytes expects no more than its words, and a longer one nothing.
pub expected-few : (text : List ℕ) → length (differing (expected_of text)) ≤ 1011
unfolding expected_of line_expected
expected-few text =
    let cs = take (content_length text) text in
    by-ltb 1000 (content_length text) (λ h e. rw e (omega arith))
    (λ h e. rw e (marked-few (words cs) 1001 (omega (arith, words-few cs, take-most (content_length text) text))))

-- ---- the head

place-size : (file : List ℕ) (number : ℕ) → size (place file number) ≤ length file + 23
unfolding size place ascii
place-size file number = omega (arith, counted-size number (ascii ": "))

head-size : (names counts : List ℕ) → size (head_told names counts).texts ≤ length names + 23
unfolding size head_told
head-size names counts =
    let kept = set counts 19 (trouble counts) in
    by-test (eqb (get_or counts 14 0) 0) (λ e. rw e (omega arith))
    (λ e. rw e (omega (arith, place-size (take (get_or kept 16 0) names) (get_or kept 2 0), take-most (get_or kept 16 0) names)))

pub begun-size : (names counts : List ℕ) → size (begun_told names counts).texts ≤ length names + 23
unfolding begun_told
begun-size names counts = head-size names (line_counted counts)

-- ---- bad lines and the names of items

why-size : (content : Content) → length (ascii (why content)) ≤ 15
unfolding why ascii
why-size Content.Nothing = omega arith
why-size Content.TooLong = omega arith
why-size Content.UnknownWord = omega arith
why-size Content.BadNumber = omega arith
why-size Content.WrongCount = omega arith
why-size Content.Item = omega arith
why-size (Content.Bus n) = omega arith
why-size (Content.BusOut size n) = omega arith
why-size (Content.Tick n) = omega arith
why-size (Content.Flight up down) = omega arith
why-size (Content.Temperature n) = omega arith
why-size Content.Int = omega arith
why-size Content.Awaited = omega arith
why-size Content.Regs = omega arith
why-size (Content.Expect a n) = omega arith
why-size Content.Show = omega arith
why-size (Content.Set a n) = omega arith
why-size (Content.At t) = omega arith
why-size (Content.Stretch n) = omega arith
why-size Content.Frames = omega arith
why-size (Content.Probe n) = omega arith
why-size Content.Degrees = omega arith
why-size (Content.Record n) = omega arith
why-size (Content.Listing old first) = omega arith
why-size (Content.Quietest n) = omega arith

fault-size : (content : Content) (counts : List ℕ) → size (fault_told content counts).texts ≤ 40
unfolding size fault_told fault ascii
fault-size content counts =
    by-test (is_fault content counts)
    (λ e. rw e (omega (arith, decimal-most (get_or (added counts 6 1) 2 0), why-size content)))
    (λ e. rw e (omega arith))

item-size : (content : Content) (text names counts : List ℕ) → size (item_told content text names counts).texts ≤ content_length text + 2
unfolding size item_told
item-size content text names counts =
    by-test (is_item content)
    (λ e. rw (e, size-append (line_words text) (line_feed ∷ [])) (omega (arith, line-words text)))
    (λ e. rw e (omega arith))

-- A line that is too long is no item's.
item-few : (numbers text names counts after : List ℕ)
    → size (item_told (left_of (line_reading numbers text).content counts) text names after).texts ≤ 1002
item-few numbers text names counts after =
    by-ltb 1000 (content_length text) (λ h e. too_long e)
    (λ h e. omega (arith, item-size (left_of (line_reading numbers text).content counts) text names after))
  where
    too_long : ltb 1000 (content_length text) ≡ true → size (item_told (left_of (line_reading numbers text).content counts) text names after).texts ≤ 1002
    too_long e = unfold item_told left_of line_reading is_fault is_item size in rw e (omega arith)

-- ---- behind the answer

pub tail-size : (names counts : List ℕ) → size (tail names counts) ≤ (length names - 4096) + 4
unfolding size tail item_name ascii
tail-size names counts =
    by-test (eqb (get_or counts 15 0) 0) (λ e. rw e (omega arith))
    (λ e. rw e (omega (arith, length-drop 4096 (take (get_or counts 15 0) names), take-most (get_or counts 15 0) names)))

-- A buffer stays as long as it was, whatever is put into it.
pub put-long : (ts : Texts) (l : List ℕ) (at : ℕ) → length (put_each l at ts).bytes ≡ length l
unfolding on_page
put-long ts l at = page-long record { texts = ts; counts = [] } record { counts = at ∷ []; answers = l }

pub names-long : (content : Content) (text names : List ℕ) → length (names_after content text names) ≡ length names
unfolding names_after
names-long content text names = by-test (is_item content) (λ e. rw e (put-long (line_words text) names 4096)) (λ e. rw e)

-- ---- all of it

pub left-bounded : (content : Content) (counts : List ℕ) → Bounded content → Bounded (left_of content counts)
unfolding left_of
left-bounded content counts h = go (is_fault content counts)
  where
    go : (t : Bool) → Bounded (cond t Content.Nothing content)
    go true = tt
    go false = h

-- What how long an answer is goes by, whatever is written.
pub small_of : (numbers : List ℕ) (r : Replay) → InForm r → NumbersFit numbers → (l : Log) → Small numbers (with_flash (with_log r.state l)) r.state.differences
small_of numbers r i f l = record {
  numbers_few = omega (arith, f.few);
  differences_few = omega (arith, i.many);
  differences_fit = i.fit;
  flight_wait = i.waits.flight.wait;
  temperature_wait = i.waits.temperature.wait;
}

module _ (text numbers : List ℕ) (r : Replay) (i : InForm r) (f : NumbersFit numbers) where
  abbrev content : Content
  content = (line_reading numbers text).content

  abbrev read : List ℕ
  read = (line_reading numbers text).numbers

  abbrev left : Content
  left = left_of content (head_of r).counts

  abbrev first : Told
  first = fault_told content (head_of r).counts

  abbrev second : Told
  second = item_told left text r.names first.counts

  abbrev third : Told
  third = line_told left read (bare r.state second.counts) r.state.differences r.state.probes

  third-size : size third.texts ≤ 94240
  third-size =
      let small = small_of read r i (numbers-kept numbers text f) record { counts = second.counts; answers = [] } in
      let most = line-size read (bare r.state second.counts) r.state.differences r.state.probes small left (left-bounded content (head_of r).counts (line-bounded numbers text)) in
      omega (arith, size-joined third.texts, most, longest-most left)

  own-size : size (own_of content text read r).texts ≤ 95282
  unfolding own_told
  own-size =
      rw (size-append (first.texts ++ second.texts) third.texts, size-append first.texts second.texts)
      (omega (arith, fault-size content (head_of r).counts, item-few numbers text r.names (head_of r).counts first.counts, third-size))

  -- A whole line takes at most 102,464 places.
  pub line-length : line_length content (expected_of text) text read r ≤ 102464
  line-length =
      let own = own_of content text read r in
      let names = names_after left text r.names in
      let counts = closed_counts (expected_of text) own.counts (joined own.texts) in
      omega (
        arith,
        i.names,
        size-joined (head_of r).texts,
        begun-size r.names r.state.log.counts,
        size-joined own.texts,
        own-size,
        expected-few text,
        size-joined (tail names counts),
        tail-size names counts,
        names-long left text r.names,
      )

  -- So there is room for it behind 49,152 bytes.
  pub room : get_or r.state.log.counts 0 0 ≤ 49152 → get_or r.state.log.counts 0 0 + line_length content (expected_of text) text read r ≤ 163840
  room used = omega (arith, line-length)
