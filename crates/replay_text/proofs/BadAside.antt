-- A text with a bad line in it is answered as the text without that line, but for the numbers of the lines behind it and the count of bad
-- lines. Assumes nothing.
use Prim.Native.Nat.{ℕ, ◌+◌, ◌*◌, ◌≤◌, ◌<◌}
use mathlib.Core.Path.{◌≡◌, refl, sym, ap, subst, ◌∙◌}
use mathlib.Core.Bool.{Bool, true, false, cond, true≢false}
use mathlib.Core.List.{List, [], ◌∷◌, ◌++◌, append_assoc}
use native.Mathlib.Omega.{arith}
use lib.Dec.{eqb}
use lib.ListN.{length, get_or}
use borrow.Author.Tests.{eq-eqb}
use Rattle.unit.proofs.Cases.{by-test}
use Rattle.numeral.specs.Place.{joined}
use Rattle.device.specs.declared.Model.{Model}
use Rattle.line.specs.declared.Content.{Content}
use Rattle.line_buffer.specs.Lines.{has_line, with_first, lines_in, rest_in, last_line, text_lines, each_line}
use Rattle.line_buffer.proofs.Pieces.{none_first, lines_cut, rest-cut, each_append}
use Rattle.wording.specs.Wording.{fault, calls, faults}
use Rattle.item_checks.specs.Close.{tail}
use Rattle.session.specs.Ends.{counts_begun, last_texts}
use Rattle.line_text.specs.Text.{shown_answer}
use Rattle.replay_text.specs.Replay.{Page, page_line, first_page, last_page, last_text, replay_text}
use Rattle.replay_text.specs.LastLine.{counts_of, read_on, line_own, is_bad, was_call, answered_no, is_unannounced, words_differ, expectations, differences}
use Rattle.replay_text.specs.Numbered.{told_as, shown_as, needs_look, placed_as, added_as, all_added_as}
use Rattle.replay_text.proofs.Numbers.{used_of, SameNumbers, numbers-taken}
use Rattle.replay_text.proofs.Bad.{line_adds, lines_add, lines-add, AlikeButLines, Counting, bad-line-alike, bad-line-counted, content-same, numbers-same, bad-same, own-alike, any-line-alike}
use Rattle.replay_text.proofs.Text.{line-counted}
use Rattle.replay_text.proofs.Order.{line-adds-to, first-zero}
use Rattle.replay_text.proofs.Below.{Below, at_most_one, below_next, below-first}
use Rattle.replay_text.proofs.Expectations.{line-differences, line-unannounced}
use Rattle.replay_text.proofs.Added.{differences-few, own-told, line-added-as}

-- ---- after some lines of a text

-- Their number, no more of what needs a look than so many lines can have, and whether it is a check.
record Reached (check : Bool) (k : ℕ) (p : Page) : Type 0 where
  below : Below k p
  lines : get_or (counts_of p) 2 0 ≡ k
  unannounced : get_or (counts_of p) 5 0 ≤ k
  differ : get_or (counts_of p) 8 0 ≤ 513 * k
  checked : get_or (counts_of p) 14 0 ≡ cond check 1 0

-- Of texts of fewer lines than this is what follows: 2⁶⁴ − 2; in a check, for the count of what needs a look, 2⁵⁴.
abbrev pub most_lines : Bool → ℕ
most_lines check = cond check 18014398509481984 18446744073709551614

few-lines : (check : Bool) (n : ℕ) → n ≤ most_lines check → n < 18446744073709551615
few-lines true n few = omega (arith, few)
few-lines false n few = omega (arith, few)

module _ (check : Bool) where
  counting : (k : ℕ) (p : Page) → k < 18446744073709551615 → Reached check k p → Counting p
  counting k p few r = record { long = r.below.order.long; few = omega (arith, r.below.bad, few) }

  reached-next : (k : ℕ) (line : List ℕ) (p : Page) → k < 18446744073709551615 → Reached check k p → Reached check (k + 1) (page_line line p)
  reached-next k line p few r =
      let o = r.below.order in
      let c = line-counted line p (counting k p few r) in
      record {
        below = below_next k line p r.below;
        lines = c.lines ∙ omega (arith, r.lines, few);
        unannounced = omega (arith, r.unannounced, (line-adds-to 5 (omega arith) (omega arith) line p o).1, line-unannounced k line p few r.below, at_most_one (is_unannounced line p));
        differ = omega (arith, r.differ, (line-adds-to 8 (omega arith) (omega arith) line p o).1, line-differences k line p few r.below, differences-few line p o.numbers);
        checked = c.check ∙ r.checked;
      }

  reached-all : (ls : List (List ℕ)) (k : ℕ) (p : Page) → k + length ls < 18446744073709551615 → Reached check k p
      → Reached check (k + length ls) (each_line page_line ls p)
  unfolding each_line
  reached-all [] k p few r = let e : k + 0 ≡ k = omega arith in rw e r
  reached-all (l ∷ ls) k p few r =
      let e : k + length (l ∷ ls) ≡ k + 1 + length ls = omega arith in
      rw e (reached-all ls (k + 1) (page_line l p) (omega (arith, few)) (reached-next k l p (omega (arith, few)) r))

first-lines : (path : List ℕ) (check : Bool) → (get_or (counts_of (first_page path check)) 2 0 ≡ 0) × (get_or (counts_of (first_page path check)) 14 0 ≡ cond check 1 0)
unfolding first_page counts_begun
first-lines path true = (refl, refl)
first-lines path false = (refl, refl)

first-reached : (path : List ℕ) (check : Bool) → Reached check 0 (first_page path check)
first-reached path check = record {
  below = below-first path check;
  lines = (first-lines path check).0;
  unannounced = omega (arith, first-zero path check 5 (omega arith) (omega arith));
  differ = omega (arith, first-zero path check 8 (omega arith) (omega arith));
  checked = (first-lines path check).1;
}

reached : (path : List ℕ) (check : Bool) (ls : List (List ℕ)) → length ls < 18446744073709551615
    → Reached check (length ls) (each_line page_line ls (first_page path check))
reached path check ls few =
    let e : 0 + length ls ≡ length ls = omega arith in
    subst (λ (k : ℕ). Reached check k (each_line page_line ls (first_page path check))) e
    (reached-all check ls 0 (first_page path check) (omega (arith, few)) (first-reached path check))

-- ---- two pages, of which one is behind a bad line more

-- The same model, user flash, record, probe table and names, the same counts but for what passes with a line, and a line and a bad line more.
pub record OneMore (p q : Page) : Type 0 where
  pub alike : AlikeButLines p q
  pub lines : get_or (counts_of q) 2 0 ≡ get_or (counts_of p) 2 0 + 1
  pub bad : get_or (counts_of q) 6 0 ≡ get_or (counts_of p) 6 0 + 1

module _ (check : Bool) (k : ℕ) (line : List ℕ) (p : Page) (r : Reached check k p) where
  -- A bad line makes it so.
  bad_more : k < 18446744073709551615 → is_bad line p ≡ true → OneMore p (page_line line p)
  bad_more few bad =
      let c = counting check k p few r in
      let more = bad-line-counted line p c bad in
      record {
        alike = bad-line-alike line p c bad;
        lines = more.0 ∙ omega (arith, r.lines, few);
        bad = more.1;
      }

  module _ (q : Page) (few : k < 18446744073709551614) (m : OneMore p q) where
    counting-here : Counting p
    counting-here = counting check k p (omega (arith, few)) r

    counting-there : Counting q
    counting-there = record { long = m.alike.counts.long'; few = omega (arith, r.below.bad, m.bad, few) }

    -- Every line leaves it so.
    more-next : OneMore (page_line line p) (page_line line q)
    more-next =
        let c = line-counted line p counting-here in
        let d = line-counted line q counting-there in
        let same : ◌≡◌ {A = ℕ} (cond (is_bad line q) 1 0) (cond (is_bad line p) 1 0)
        = ap (λ (t : Bool). cond {A = ℕ} t 1 0) (bad-same line p q m.alike) in
        record {
          alike = any-line-alike line p q m.alike counting-here counting-there;
          lines = omega (arith, c.lines, d.lines, r.lines, m.lines, few);
          bad = omega (arith, c.bad, d.bad, m.bad, same);
        }

more-lines : (check : Bool) (ls : List (List ℕ)) (k : ℕ) (p q : Page) → k + length ls < 18446744073709551614 → Reached check k p → OneMore p q
    → OneMore (each_line page_line ls p) (each_line page_line ls q)
unfolding each_line
more-lines check [] k p q few r m = m
more-lines check (l ∷ ls) k p q few r m =
    more-lines check ls (k + 1) (page_line l p) (page_line l q) (omega (arith, few)) (reached-next check k l p (omega (arith, few)) r)
    (more-next check k l p r q (omega (arith, few)) m)

-- ---- what a line tells of itself on two such pages

differ_same : (content : Content) (l l' : List ℕ) → SameNumbers content l l' → (m : Model) → words_differ content l m ≡ words_differ content l' m
unfolding words_differ used_of
differ_same Content.Nothing l l' same m = refl
differ_same Content.TooLong l l' same m = refl
differ_same Content.UnknownWord l l' same m = refl
differ_same Content.BadNumber l l' same m = refl
differ_same Content.WrongCount l l' same m = refl
differ_same Content.Item l l' same m = refl
differ_same (Content.Bus n) l l' same m = refl
differ_same (Content.BusOut size n) l l' same m = refl
differ_same (Content.Tick n) l l' same m = refl
differ_same (Content.Flight up down) l l' same m = refl
differ_same (Content.Temperature n) l l' same m = refl
differ_same Content.Int l l' same m = refl
differ_same Content.Awaited l l' same m = refl
differ_same Content.Regs l l' same m = refl
differ_same (Content.Expect a n) l l' same m = rw (numbers-taken (Content.Expect a n) l l' same n (omega arith))
differ_same Content.Show l l' same m = refl
differ_same (Content.Set a n) l l' same m = refl
differ_same (Content.At t) l l' same m = refl
differ_same (Content.Stretch n) l l' same m = refl
differ_same Content.Frames l l' same m = refl
differ_same (Content.Probe n) l l' same m = refl
differ_same Content.Degrees l l' same m = refl
differ_same (Content.Record n) l l' same m = refl
differ_same (Content.Listing old first) l l' same m = refl
differ_same (Content.Quietest n) l l' same m = refl

bad-no-call : (line : List ℕ) (p : Page) → is_bad line p ≡ true → was_call line p ≡ false
unfolding was_call
bad-no-call line p bad = rw bad

bad-not-refused : (line : List ℕ) (p : Page) → is_bad line p ≡ true → answered_no line p ≡ false
unfolding answered_no
bad-not-refused line p bad = rw (bad-no-call line p bad)

module _ (line : List ℕ) (p q : Page) (a : AlikeButLines p q) where
  call_same : was_call line q ≡ was_call line p
  unfolding was_call
  call_same = rw (bad-same line p q a, content-same line p q a)

  refused-same : answered_no line q ≡ answered_no line p
  unfolding answered_no
  refused-same =
      by-test (is_bad line p) (λ bad. rw (call_same, bad-no-call line p bad)) (λ good. rw (call_same, own-alike line p q a good))

  unannounced-same : is_unannounced line q ≡ is_unannounced line p
  unfolding is_unannounced shown_answer
  unannounced-same =
      by-test (is_bad line p) (λ bad. rw (refused-same, bad-not-refused line p bad))
      (λ good. rw (refused-same, own-alike line p q a good, a.counts.each 14 refl))

  expectations-same : expectations line q ≡ expectations line p
  unfolding expectations
  expectations-same = rw (bad-same line p q a, content-same line p q a)

  differences-same : differences line q ≡ differences line p
  unfolding differences shown_answer
  differences-same =
      by-test (is_bad line p) (λ bad. rw (bad-same line p q a, bad))
      (λ good. rw (bad-same line p q a, good, own-alike line p q a good, a.counts.each 14 refl, content-same line p q a, a.model, differ_same (read_on line p).content (read_on line p).numbers (read_on line q).numbers (numbers-same line p q a) q.replay.state.model))

  told_same : (number : ℕ) → told_as number line q ≡ told_as number line p
  unfolding told_as
  told_same number =
      by-test (is_bad line p) (λ bad. rw (bad-same line p q a, bad, content-same line p q a))
      (λ good. rw (bad-same line p q a, good, own-alike line p q a good))

  shown-same : (number : ℕ) → shown_as number line q ≡ shown_as number line p
  unfolding shown_as shown_answer
  shown-same number = rw (bad-same line p q a, told_same number, a.counts.each 14 refl)

  look-same : needs_look line q ≡ needs_look line p
  unfolding needs_look
  look-same = rw (bad-same line p q a, unannounced-same, differences-same)

  module _ (b : AlikeButLines (page_line line p) (page_line line q)) where
    placed_same : (number : ℕ) → placed_as number line q ≡ placed_as number line p
    unfolding placed_as tail
    placed_same number = rw (shown-same number, b.names, b.counts.each 15 refl, a.counts.each 16 refl, a.names)

    added-same : (number : ℕ) → added_as number line q ≡ added_as number line p
    unfolding added_as
    added-same number = rw (a.counts.each 14 refl, shown-same number, look-same, placed_same number)

-- A line of this number on one page, and on another page as a line of the next number: it is read as the same and is bad on both or on none,
-- tells the same of itself but for its number, and adds the same to what the last line counts; and of the pages behind it the other is
-- behind one bad line more.
pub record ToldAlike (number : ℕ) (line : List ℕ) (p q : Page) : Type 0 where
  pub content : (read_on line q).content ≡ (read_on line p).content
  pub bad : is_bad line q ≡ is_bad line p
  pub here : (line_own line p).texts ≡ told_as number line p
  pub there : (line_own line q).texts ≡ told_as (number + 1) line p
  pub call : was_call line q ≡ was_call line p
  pub refused : answered_no line q ≡ answered_no line p
  pub unannounced : is_unannounced line q ≡ is_unannounced line p
  pub expected : expectations line q ≡ expectations line p
  pub differing : differences line q ≡ differences line p
  pub pages : OneMore (page_line line p) (page_line line q)

told-as : (check : Bool) (k : ℕ) (line : List ℕ) (p : Page) → k < 18446744073709551615 → Reached check k p → (line_own line p).texts ≡ told_as (k + 1) line p
told-as check k line p few r =
    own-told k line p few r.below (omega (arith, r.lines, few)) ∙ ap (λ (n : ℕ). told_as (n + 1) line p) r.lines

told-alike : (check : Bool) (k : ℕ) (line : List ℕ) (p q : Page) → k < 18446744073709551614 → Reached check k p → Reached check (k + 1) q → OneMore p q
    → ToldAlike (k + 1) line p q
told-alike check k line p q few r s m = record {
  content = content-same line p q m.alike;
  bad = bad-same line p q m.alike;
  here = told-as check k line p (omega (arith, few)) r;
  there = told-as check (k + 1) line q (omega (arith, few)) s ∙ told_same line p q m.alike (k + 1 + 1);
  call = call_same line p q m.alike;
  refused = refused-same line p q m.alike;
  unannounced = unannounced-same line p q m.alike;
  expected = expectations-same line p q m.alike;
  differing = differences-same line p q m.alike;
  pages = more-next check k line p r q few m;
}

-- ---- each line behind a bad one

with-line : (before : List (List ℕ)) (line : List ℕ) (after : List (List ℕ)) (p : Page)
    → each_line page_line (before ++ (line ∷ after)) p ≡ each_line page_line after (page_line line (each_line page_line before p))
unfolding each_line
with-line before line after p = each_append page_line before (line ∷ after) p

-- In a check and outside one: each line behind a bad one, with any lines between the two, tells of itself what it tells without the bad one.
pub each-line-aside : (path : List ℕ) (check : Bool) (before : List (List ℕ)) (bad : List ℕ) (between : List (List ℕ)) (line : List ℕ)
    → length before + length between < 18446744073709551614
    → let start = first_page path check in
    is_bad bad (each_line page_line before start) ≡ true
    → ToldAlike (length before + length between + 1) line (each_line page_line (before ++ between) start)
    (each_line page_line (before ++ (bad ∷ between)) start)
each-line-aside path check before bad between line few is =
    let start = first_page path check in
    let p = each_line page_line before start in
    let k = length before in
    let r = reached path check before (omega (arith, few)) in
    let s = reached-next check k bad p (omega (arith, few)) r in
    let m = bad_more check k bad p r (omega (arith, few)) is in
    let e : k + 1 + length between ≡ k + length between + 1 = omega arith in
    rw (each_append page_line before between start, with-line before bad between start)
    (told-alike check (k + length between) line (each_line page_line between p) (each_line page_line between (page_line bad p)) few
    (reached-all check between k p (omega (arith, few)) r)
    (subst (λ (n : ℕ). Reached check n (each_line page_line between (page_line bad p))) e (reached-all check between (k + 1) (page_line bad p) (omega (arith, few)) s))
    (more-lines check between k p (page_line bad p) few r m))

-- ---- a whole text

-- In a check of so many lines no count of what needs a look is cut off.
room : (check : Bool) (k : ℕ) (line : List ℕ) (p : Page) → k < most_lines check → Reached check k p
    → eqb (get_or (counts_of p) 14 0) 0 ≡ false
    → get_or (counts_of p) 5 0 + get_or (counts_of p) 6 0 + get_or (counts_of p) 8 0 + differences line p + 2 ≤ 18446744073709551615
room true k line p few r inside = omega (arith, few, r.unannounced, r.below.bad, r.differ, differences-few line p r.below.order.numbers)
room false k line p few r inside = absurd (true≢false (sym (eq-eqb (get_or (counts_of p) 14 0) 0 r.checked) ∙ inside))

-- Lines add what they add by their numbers
all-added : (check : Bool) (ls : List (List ℕ)) (k : ℕ) (p : Page) → k + length ls ≤ most_lines check → Reached check k p
    → lines_add ls p ≡ all_added_as (k + 1) ls p
unfolding lines_add all_added_as
all-added check [] k p few r = refl
all-added check (l ∷ ls) k p few r =
    let low : k < most_lines check = omega (arith, few) in
    let high : k < 18446744073709551615 = few-lines check k (omega (arith, low)) in
    let first : line_adds l p ≡ added_as (k + 1) l p
    = line-added-as k l p high r.below (omega (arith, high, r.lines)) (room check k l p low r) ∙ ap (λ (n : ℕ). added_as (n + 1) l p) r.lines in
    rw (first, all-added check ls (k + 1) (page_line l p) (omega (arith, few)) (reached-next check k l p high r))

-- and by the same numbers add the same behind a bad line more.
all_same : (check : Bool) (ls : List (List ℕ)) (number k : ℕ) (p q : Page) → k + length ls < 18446744073709551614 → Reached check k p → OneMore p q
    → all_added_as number ls q ≡ all_added_as number ls p
unfolding all_added_as
all_same check [] number k p q few r m = refl
all_same check (l ∷ ls) number k p q few r m =
    let next = more-next check k l p r q (omega (arith, few)) m in
    let later = all_same check ls (number + 1) (k + 1) (page_line l p) (page_line l q) (omega (arith, few)) (reached-next check k l p (omega (arith, few)) r) next in
    rw (added-same l p q m.alike next.alike number, later)

-- "`end C calls, R refused, U unannounced, B bad lines, E expectations, X differ`"; a check has no such line.
last-is : (check : Bool) (counts : List ℕ) → get_or counts 14 0 ≡ cond check 1 0
    → last_text counts
    ≡ cond check [] (joined (calls (get_or counts 3 0) (get_or counts 4 0) (get_or counts 5 0) ++ faults (get_or counts 6 0) (get_or counts 7 0) (get_or counts 8 0)))
unfolding last_text last_texts
last-is true counts is = rw is
last-is false counts is = rw is

abbrev lines_written : List ℕ → Bool → List (List ℕ) → List ℕ
lines_written path check ls = let p = each_line page_line ls (first_page path check) in p.text ++ last_text (counts_of p)

module _ (path : List ℕ) (check : Bool) (before after : List (List ℕ)) (room : length before + length after < most_lines check) where
  abbrev start : Page
  start = first_page path check

  abbrev p : Page
  p = each_line page_line before start

  abbrev k : ℕ
  k = length before

  abbrev end : Page
  end = each_line page_line after p

  abbrev count : ℕ → ℕ
  count n = get_or (counts_of end) n 0

  -- the last line, with so many bad lines
  abbrev last : ℕ → List ℕ
  last bad = cond check [] (joined (calls (count 3) (count 4) (count 5) ++ faults bad (count 7) (count 8)))

  few : k + length after < 18446744073709551614
  few = let e = few-lines check (k + length after + 1) (omega (arith, room)) in omega (arith, e)

  here : Reached check k p
  here = reached path check before (omega (arith, few))

  there : count 14 ≡ cond check 1 0
  there = (reached-all check after k p (omega (arith, few)) here).checked

  lines-without : lines_written path check (before ++ after) ≡ p.text ++ (all_added_as (k + 1) after p ++ last (count 6))
  lines-without =
      rw (each_append page_line before after start, lines-add after p, last-is check (counts_of end) there, all-added check after k p (omega (arith, room)) here)
      (append_assoc p.text (all_added_as (k + 1) after p) (last (count 6)))

  module _ (line : List ℕ) (bad : is_bad line p ≡ true) where
    abbrev end' : Page
    end' = each_line page_line after (page_line line p)

    first_more : OneMore p (page_line line p)
    first_more = bad_more check k line p here (omega (arith, few)) bad

    last_more : OneMore end end'
    last_more = more-lines check after k p (page_line line p) few here first_more

    last-with : last_text (counts_of end') ≡ last (count 6 + 1)
    last-with =
        let same = last_more.alike.counts in
        last-is check (counts_of end') (sym (same.each 14 refl) ∙ there)
        ∙ rw (last_more.bad, same.each 3 refl, same.each 4 refl, same.each 5 refl, same.each 7 refl, same.each 8 refl)

    text-with : end'.text ≡ p.text ++ (added_as (k + 1) line p ++ all_added_as (k + 1 + 1) after p)
    unfolding each_line all_added_as
    text-with =
        lines-add (line ∷ after) p
        ∙ ap (λ (t : List ℕ). p.text ++ t)
        (all-added check (line ∷ after) k p (omega (arith, room)) here
        ∙ ap (λ (t : List ℕ). added_as (k + 1) line p ++ t) (all_same check after (k + 1 + 1) k p (page_line line p) few here first_more))

    lines-with : lines_written path check (before ++ (line ∷ after))
        ≡ p.text ++ (added_as (k + 1) line p ++ (all_added_as (k + 1 + 1) after p ++ last (count 6 + 1)))
    lines-with =
        rw (with-line before line after start, text-with, last-with)
        (append_assoc p.text (added_as (k + 1) line p ++ all_added_as (k + 1 + 1) after p) (last (count 6 + 1))
        ∙ ap (λ (t : List ℕ). p.text ++ t) (append_assoc (added_as (k + 1) line p) (all_added_as (k + 1 + 1) after p) (last (count 6 + 1))))

replay-lines : (path : List ℕ) (check : Bool) (text : List ℕ) (ls : List (List ℕ)) → text_lines text ≡ ls → replay_text path check text ≡ lines_written path check ls
unfolding replay_text last_page
replay-lines path check text ls are = ap (lines_written path check) are

-- All that is written for a text of some lines and others after them, and for the text with a bad line between them: behind the lines before
-- it what that line adds; then what the lines after it add, each by a number that is one higher; and, outside a check, a last line that tells
-- one bad line more. Counts 3 to 8 are calls, refused, unannounced, bad lines, expectations and differ.
pub text-aside : (path : List ℕ) (check : Bool) (before : List (List ℕ)) (line : List ℕ) (after : List (List ℕ)) (without whole : List ℕ)
    → length before + length after < most_lines check
    → text_lines without ≡ before ++ after
    → text_lines whole ≡ before ++ (line ∷ after)
    → let p = each_line page_line before (first_page path check) in
    let number = length before + 1 in
    let count : ℕ → ℕ = λ n. get_or (counts_of (each_line page_line after p)) n 0 in
    let last : ℕ → List ℕ = λ bad. cond check [] (joined (calls (count 3) (count 4) (count 5) ++ faults bad (count 7) (count 8))) in
    is_bad line p ≡ true
    → (replay_text path check without ≡ p.text ++ (all_added_as number after p ++ last (count 6)))
    × (replay_text path check whole ≡ p.text ++ (added_as number line p ++ (all_added_as (number + 1) after p ++ last (count 6 + 1))))
text-aside path check before line after without whole few are with bad = (
  replay-lines path check without (before ++ after) are ∙ lines-without path check before after few,
  replay-lines path check whole (before ++ (line ∷ after)) with ∙ lines-with path check before after few line bad,
)

bad-outside : (number : ℕ) (line : List ℕ) (p : Page) → get_or (counts_of p) 14 0 ≡ 0 → is_bad line p ≡ true
    → added_as number line p ≡ joined (fault number (read_on line p).content)
unfolding added_as shown_as told_as shown_answer
bad-outside number line p outside bad = rw (outside, bad)

-- The same outside a check: the bad line adds its number and the reason.
pub bad-line-aside : (path : List ℕ) (before : List (List ℕ)) (line : List ℕ) (after : List (List ℕ)) (without whole : List ℕ)
    → length before + length after < 18446744073709551614
    → text_lines without ≡ before ++ after
    → text_lines whole ≡ before ++ (line ∷ after)
    → let p = each_line page_line before (first_page path false) in
    let number = length before + 1 in
    let count : ℕ → ℕ = λ n. get_or (counts_of (each_line page_line after p)) n 0 in
    is_bad line p ≡ true
    → (replay_text path false without
    ≡ p.text ++ (all_added_as number after p ++ joined (calls (count 3) (count 4) (count 5) ++ faults (count 6) (count 7) (count 8))))
    × (replay_text path false whole
    ≡ p.text
    ++ (joined (fault number (read_on line p).content)
    ++ (all_added_as (number + 1) after p
    ++ joined (calls (count 3) (count 4) (count 5) ++ faults (count 6 + 1) (count 7) (count 8)))))
bad-line-aside path before line after without whole few are with bad =
    let p = each_line page_line before (first_page path false) in
    let both = text-aside path false before line after without whole few are with bad in
    let own = bad-outside (length before + 1) line p (reached path false before (omega (arith, few))).checked bad in
    (both.0, rw own at both.1)

-- ---- such texts

line_before : (line rest : List ℕ) → has_line line ≡ false
    → (lines_in (line ++ (10 ∷ rest)) ≡ line ∷ lines_in rest) × (rest_in (line ++ (10 ∷ rest)) ≡ rest_in rest) × (has_line (line ++ (10 ∷ rest)) ≡ true)
unfolding lines_in with_first rest_in has_line
line_before [] rest none = (refl, refl, refl)
line_before (c ∷ cs) rest none =
    let so = none_first c cs none in
    let later = line_before cs rest so.1 in
    (rw (so.0, later.0), rw (so.0, later.2) later.1, rw so.0 later.2)

lines-behind : (lines rest : List ℕ) → rest_in lines ≡ [] → text_lines (lines ++ rest) ≡ lines_in lines ++ text_lines rest
unfolding text_lines
lines-behind lines rest ended =
    rw (lines_cut lines rest, rest-cut lines rest, ended) (append_assoc (lines_in lines) (lines_in rest) (last_line (rest_in rest)))

-- No bytes, or bytes that end with a line feed, and any bytes behind them; and these with a line and its line feed between them.
pub line-between : (lines line rest : List ℕ) → rest_in lines ≡ [] → has_line line ≡ false
    → (text_lines (lines ++ rest) ≡ lines_in lines ++ text_lines rest)
    × (text_lines (lines ++ (line ++ (10 ∷ rest))) ≡ lines_in lines ++ (line ∷ text_lines rest))
unfolding text_lines
line-between lines line rest ended none =
    let it = line_before line rest none in
    (lines-behind lines rest ended, lines-behind lines (line ++ (10 ∷ rest)) ended ∙ rw (it.0, it.1))

-- ---- all lines by their numbers

-- All that is written for a text is what each line adds by its number, from 1 on, and the last line, which a check has not.
pub text-by-lines : (path : List ℕ) (check : Bool) (text : List ℕ) → length (text_lines text) < most_lines check
    → replay_text path check text
    ≡ all_added_as 1 (text_lines text) (first_page path check) ++ cond check [] (joined (last_texts (counts_of (last_page path check text))))
unfolding each_line first_page last_page last_texts
text-by-lines path check text low = replay-lines path check text (text_lines text) refl ∙ lines-without path check [] (text_lines text) (omega (arith, low))

-- "`--check` prints nothing of an item but what needs a look, each as `FILE:LINE: ANSWER`": one line adds this much.
pub check-adds : (number : ℕ) (line : List ℕ) (p : Page) → eqb (get_or (counts_of p) 14 0) 0 ≡ false
    → (needs_look line p ≡ true → added_as number line p ≡ placed_as number line p) × (needs_look line p ≡ false → added_as number line p ≡ [])
unfolding added_as
check-adds number line p inside = (λ look. rw (inside, look), λ none. rw (inside, none))
