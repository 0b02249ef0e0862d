-- What is done behind a line's answer is what the text says. Assumes nothing.
use Prim.Native.Nat.{ℕ, ◌+◌, ◌≤◌, ◌<◌, min}
use mathlib.Core.Path.{◌≡◌, refl, sym, ap, ◌∙◌}
use mathlib.Core.Bool.{Bool, true, false, cond}
use mathlib.Core.List.{List, [], ◌∷◌, ◌++◌, append_assoc, append-nil}
use native.Mathlib.Decide.{dec_le}
use native.Mathlib.Omega.{arith}
use lib.Dec.{leb, eqb}
use lib.ListN.{length, get_or, set, take, drop, length-append, length-set, length-take, length-drop, take-append-drop}
use lib.Seq.{set_comm, set-set, get_or-set_same, get_or-set_other, length-take-le, take_at, drop_at, take-take}
use borrow.Author.Tests.{le-leb, lt-leb}
use Rattle.numeral.specs.Place.{no_room, overwrite, put_each, joined}
use Rattle.numeral.proofs.PlaceLaws.{length-overwrite, put-each}
use Rattle.wording.specs.Wording.{expected as expected_texts, left_out}
use Rattle.item_state.specs.Log.{Log, added}
use Rattle.item_checks.specs.Close.{answer, place_of, first_end, begins_with, within, inserted, one_more, compared, judged_log, refusal_counted, briefly, cut_off, kept_briefly, trouble, tail, shortened, dropped, looked, closed, is_announced, is_not_bad}
use Rattle.item_checks.proofs.Briefly.{dots, left_out_lem, briefly-short, briefly-long, briefly-shorter}
use Rattle.line_text.specs.Text.{differing_text, judged_text, judged_counts, shown_answer, closed_counts, looked_text, closed_text}

-- The answers are the text before a line, its head and its own answer, and the counts have where each starts.
pub record Stands (base head own : List ℕ) (l : Log) : Type 0 where
  pub text : take (get_or l.counts 0 0) l.answers ≡ base ++ (head ++ own)
  pub ends : get_or l.counts 0 0 ≡ length base + (length head + length own)
  pub body : get_or l.counts 20 0 ≡ length base + length head
  pub start : get_or l.counts 12 0 ≡ length base

place-low : (c : ℕ) (bytes : List ℕ) → place_of c bytes ≤ length bytes
unfolding place_of
place-low c [] = omega arith
place-low c (b ∷ bs) = let rest = place-low c bs in go (eqb b c) rest
  where
    go : (t : Bool) → place_of c bs ≤ length bs → cond t 0 (place_of c bs + 1) ≤ length (b ∷ bs)
    go true rest = omega arith
    go false rest = omega arith

module _ {base head own : List ℕ} {l : Log} (s : Stands base head own l) where
  abbrev k : ℕ
  k = place_of 10 own

  abbrev used : ℕ
  used = get_or l.counts 0 0

  -- The line's own answer is what stands behind the head.
  answer-is : answer l ≡ own
  answer-is = rw (s.text, s.body, ← append_assoc base head own) (drop_at (base ++ head) own (length base + length head) (length-append base head))

  first-end : first_end l ≡ length base + length head + k
  unfolding first_end
  first-end = rw (answer-is, s.body, s.ends) (omega (arith, place-low 10 own))

  -- the text up to so many bytes of the line's own answer
  abbrev start : ℕ → List ℕ
  start n = base ++ (head ++ take n own)

  start-then : (n : ℕ) (more : List ℕ) → start n ++ more ≡ base ++ (head ++ (take n own ++ more))
  start-then n more = append_assoc base (head ++ take n own) more ∙ ap (λ (x : List ℕ). base ++ x) (append_assoc head (take n own) more)

  split : (n : ℕ) → base ++ (head ++ own) ≡ start n ++ drop n own
  split n = sym (start-then n (drop n own) ∙ ap (λ (x : List ℕ). base ++ (head ++ x)) (take-append-drop n own))

  module _ (n : ℕ) (low : n ≤ length own) where
    start-long : length (start n) ≡ length base + length head + n
    start-long = rw (length-append, length-append, length-take-le n own low) (omega arith)

    start_is : take (length base + length head + n) l.answers ≡ start n
    start_is =
        let at = length base + length head + n in
        sym (take-take at used l.answers (omega (arith, s.ends, low))) ∙ (ap (take at) (s.text ∙ split n) ∙ take_at (start n) (drop n own) at start-long)

  abbrev front : List ℕ
  front = start k

  front_long : length front ≡ first_end l
  front_long = start-long k (place-low 10 own) ∙ sym first-end

  early : first_end l ≤ used
  early = omega (arith, first-end, place-low 10 own, s.ends)

  -- the answers up to the end of the answer's first line, and those behind it
  front-is : take (first_end l) l.answers ≡ front
  front-is = rw first-end (start_is k (place-low 10 own))

  back_is : drop (first_end l) (take used l.answers) ≡ drop k own
  back_is = ap (drop (first_end l)) (s.text ∙ split k) ∙ drop_at front (drop k own) (first_end l) front_long

  front-then : (more : List ℕ) → front ++ more ≡ base ++ (head ++ (take k own ++ more))
  front-then more = start-then k more

  back_long : first_end l + length (drop k own) ≡ used
  back_long = rw (first-end, length-drop k own) (omega (arith, place-low 10 own, s.ends))

  -- A text within the answers, behind the first line.
  module _ (t : List ℕ) where
    within-front : length (front ++ (t ++ drop k own)) ≡ used + length t
    within-front = length-append front (t ++ drop k own) ∙ omega (arith, length-append t (drop k own), front_long, back_long)

    within_text : take (used + length t) (within t l) ≡ base ++ (head ++ (take k own ++ (t ++ drop k own)))
    unfolding within
    within_text =
        let rest = drop (used + length t) l.answers in
        let whole : front ++ (t ++ (drop k own ++ rest)) ≡ (front ++ (t ++ drop k own)) ++ rest =
        sym (append_assoc front (t ++ drop k own) rest ∙ ap (λ (x : List ℕ). front ++ x) (append_assoc t (drop k own) rest)) in
        rw (front-is, back_is)
        (ap (take (used + length t)) whole ∙ (take_at (front ++ (t ++ drop k own)) rest (used + length t) within-front ∙ front-then (t ++ drop k own)))

    within-long : used + length t ≤ length l.answers → length (within t l) ≡ length l.answers
    unfolding within
    within-long room =
        let rest = drop (used + length t) l.answers in
        rw (front-is, back_is)
        (length-append front (t ++ (drop k own ++ rest))
        ∙ omega (arith, length-append t (drop k own ++ rest), length-append (drop k own) rest, length-drop (used + length t) l.answers, front_long, back_long))

  -- A count that is no place.
  stands-count : (p v : ℕ) → (p ≡ 0 → ⊥) → (p ≡ 12 → ⊥) → (p ≡ 20 → ⊥) → Stands base head own record { counts = set l.counts p v; answers = l.answers }
  stands-count p v a b c =
      let zero : get_or (set l.counts p v) 0 0 ≡ get_or l.counts 0 0 = get_or-set_other l.counts p 0 v 0 (λ e. a (sym e)) in
      record {
        text = rw zero s.text;
        ends = zero ∙ s.ends;
        body = get_or-set_other l.counts p 20 v 0 (λ e. c (sym e)) ∙ s.body;
        start = get_or-set_other l.counts p 12 v 0 (λ e. b (sym e)) ∙ s.start;
      }

  stands-more : (p : ℕ) → (p ≡ 0 → ⊥) → (p ≡ 12 → ⊥) → (p ≡ 20 → ⊥) → Stands base head own (one_more p l)
  unfolding added
  stands-more p a b c = stands-count p _ a b c

-- ---- what differs

differing-long : (wanted own : List ℕ) → length (differing_text wanted own) ≡ length own + length (joined (expected_texts wanted))
unfolding differing_text
differing-long wanted own =
    rw (length-append, length-append, length-take-le (place_of 10 own) own (place-low 10 own), length-drop (place_of 10 own) own)
    (omega (arith, place-low 10 own))

module _ {base head own : List ℕ} {l : Log} (s : Stands base head own l) (wanted : List ℕ) (some : 0 < length l.counts)
    (room : get_or l.counts 0 0 + length (joined (expected_texts wanted)) ≤ length l.answers) where
  abbrev t : List ℕ
  t = joined (expected_texts wanted)

  abbrev later : ℕ
  later = get_or l.counts 0 0 + length t

  inserted-is : inserted wanted l ≡ record { counts = set l.counts 0 later; answers = within t l }
  unfolding inserted
  inserted-is = rw (le-leb later (length l.answers) room)

  inserted-long : length (inserted wanted l).answers ≡ length l.answers
  inserted-long = rw inserted-is (within-long s t room)

  differing-is : take later (within t l) ≡ base ++ (head ++ differing_text wanted own)
  unfolding differing_text
  differing-is = within_text s t

  inserted-stands : Stands base head (differing_text wanted own) (inserted wanted l)
  inserted-stands =
      let end : get_or (set l.counts 0 later) 0 0 ≡ later = get_or-set_same l.counts 0 later 0 some in
      rw inserted-is record {
        text = rw end differing-is;
        ends = end ∙ omega (arith, differing-long wanted own, s.ends);
        body = get_or-set_other l.counts 0 20 later 0 (λ e. omega arith) ∙ s.body;
        start = get_or-set_other l.counts 0 12 later 0 (λ e. omega arith) ∙ s.start;
      }

-- ---- the counts that are no places

-- The same, and the counts are those given, but for the first.
pub record Written (base head own counts : List ℕ) (l : Log) : Type 0 where
  pub stands : Stands base head own l
  pub same : l.counts ≡ set counts 0 (get_or l.counts 0 0)
  pub some : 0 < length l.counts

added-set : (counts : List ℕ) (p place : ℕ) → (0 ≡ p → ⊥) → added (set counts 0 place) p 1 ≡ set (added counts p 1) 0 place
unfolding added
added-set counts p place apart =
    rw (get_or-set_other counts 0 p place 0 (λ e. apart (sym e)), set_comm counts 0 p place (min (get_or counts p 0 + 1) 18446744073709551615) apart)

added-first : (counts : List ℕ) (p : ℕ) → (0 ≡ p → ⊥) → get_or (added counts p 1) 0 0 ≡ get_or counts 0 0
unfolding added
added-first counts p apart = get_or-set_other counts p 0 _ 0 apart

added-long : (counts : List ℕ) (p : ℕ) → length (added counts p 1) ≡ length counts
unfolding added
added-long counts p = length-set counts p _

module _ {base head own counts : List ℕ} {l : Log} (w : Written base head own counts l) where
  other-count : (p : ℕ) → (p ≡ 0 → ⊥) → get_or l.counts p 0 ≡ get_or counts p 0
  other-count p apart = ap (λ (c : List ℕ). get_or c p 0) w.same ∙ get_or-set_other counts 0 p (get_or l.counts 0 0) 0 apart

  written-more : (p : ℕ) → (p ≡ 0 → ⊥) → (p ≡ 12 → ⊥) → (p ≡ 20 → ⊥) → Written base head own (added counts p 1) (one_more p l)
  written-more p a b c = record {
    stands = stands-more w.stands p a b c;
    same = ap (λ (x : List ℕ). added x p 1) w.same
        ∙ (added-set counts p (get_or l.counts 0 0) (λ e. a (sym e)) ∙ ap (set (added counts p 1) 0) (sym (added-first l.counts p (λ e. a (sym e)))));
    some = rw (added-long l.counts p) w.some;
  }

  written-inserted : (wanted : List ℕ) → get_or l.counts 0 0 + length (joined (expected_texts wanted)) ≤ length l.answers
      → Written base head (differing_text wanted own) counts (inserted wanted l)
  written-inserted wanted room =
      let end = get_or l.counts 0 0 + length (joined (expected_texts wanted)) in
      let is = inserted-is w.stands wanted w.some room in
      let first : get_or (set l.counts 0 end) 0 0 ≡ end = get_or-set_same l.counts 0 end 0 w.some in
      record {
        stands = inserted-stands w.stands wanted w.some room;
        same = rw (is, first) (ap (λ (x : List ℕ). set x 0 end) w.same ∙ set-set counts 0 (get_or l.counts 0 0) end);
        some = rw (is, length-set) w.some;
      }

  -- A refusal that nothing announces.
  written-refused : (told : Bool) → Written base head own (refusal_counted told counts) record { counts = refusal_counted told l.counts; answers = l.answers }
  unfolding refusal_counted
  written-refused true = w
  written-refused false = rw (other-count 4 (λ e. omega arith), other-count 17 (λ e. omega arith)) (go (eqb (get_or counts 4 0) (get_or counts 17 0)))
    where
      go : (t : Bool) → Written base head own (cond t counts (added counts 5 1)) record { counts = cond t l.counts (added l.counts 5 1); answers = l.answers }
      go true = w
      go false = written-more 5 (λ e. omega arith) (λ e. omega arith) (λ e. omega arith)

-- ---- "of an answer of more than 2,051 bytes, its line feeds among them, the first 2,048 and ` ..`"

-- The other counts stay as they are.
cut-count : (l : Log) (p : ℕ) → (p ≡ 0 → ⊥) → get_or (cut_off l).counts p 0 ≡ get_or l.counts p 0
unfolding cut_off
cut-count l p apart = get_or-set_other l.counts 0 p _ 0 apart

pub briefly-count : (l : Log) (p : ℕ) → (p ≡ 0 → ⊥) → get_or (kept_briefly l).counts p 0 ≡ get_or l.counts p 0
unfolding kept_briefly
briefly-count l p apart =
    go (eqb (get_or l.counts 14 0) 0) (leb (get_or l.counts 0 0) (min (get_or l.counts 20 0 + 2051) 18446744073709551615))
  where
    go : (t u : Bool) → get_or (cond t l (cond u l (cut_off l))).counts p 0 ≡ get_or l.counts p 0
    go true u = refl
    go false true = refl
    go false false = cut-count l p apart

shown-shorter : (counts own : List ℕ) → length (shown_answer counts own) ≤ length own
unfolding shown_answer
shown-shorter counts own = go (eqb (get_or counts 14 0) 0)
  where
    go : (t : Bool) → length (cond t own (briefly own)) ≤ length own
    go true = omega arith
    go false = briefly-shorter own

module _ {base head own counts : List ℕ} {l : Log} (w : Written base head own counts l) (small : length l.answers ≤ no_room) where
  abbrev at : ℕ
  at = length base + length head + 2048

  -- The answers end in the buffer.
  in_buffer : get_or l.counts 0 0 ≤ length l.answers
  in_buffer =
      let long : length (take (get_or l.counts 0 0) l.answers) ≡ length base + (length head + length own) =
      ap length w.stands.text ∙ (length-append base (head ++ own) ∙ omega (arith, length-append head own)) in
      omega (arith, long, length-take (get_or l.counts 0 0) l.answers, w.stands.ends)

  module _ (long : 2052 ≤ length own) where
    room : at + 3 ≤ length l.answers
    room = omega (arith, in_buffer, w.stands.ends, long)

    cut-is : cut_off l ≡ record { counts = set l.counts 0 (at + 3); answers = overwrite l.answers at dots }
    unfolding cut_off
    cut-is =
        let place : min (get_or l.counts 20 0 + 2048) 18446744073709551615 ≡ at = omega (arith, w.stands.body, room, small) in
        rw (place, put-each left_out l.answers at (rw left_out_lem room), left_out_lem)

    cut-text : take (at + 3) (overwrite l.answers at dots) ≡ base ++ (head ++ (take 2048 own ++ dots))
    unfolding overwrite
    cut-text =
        let low : 2048 ≤ length own = omega (arith, long) in
        let first = start w.stands 2048 in
        rw (start_is w.stands 2048 low)
        (take_at (first ++ dots) (drop (at + 3) l.answers) (at + 3) (length-append first dots ∙ omega (arith, start-long w.stands 2048 low))
        ∙ start-then w.stands 2048 dots)

    cut_stands : Stands base head (take 2048 own ++ dots) (cut_off l)
    cut_stands =
        let end : get_or (set l.counts 0 (at + 3)) 0 0 ≡ at + 3 = get_or-set_same l.counts 0 (at + 3) 0 w.some in
        rw cut-is record {
          text = rw end cut-text;
          ends = end ∙ omega (arith, length-append (take 2048 own) dots, length-take-le 2048 own (omega (arith, long)));
          body = get_or-set_other l.counts 0 20 (at + 3) 0 (λ e. omega arith) ∙ w.stands.body;
          start = get_or-set_other l.counts 0 12 (at + 3) 0 (λ e. omega arith) ∙ w.stands.start;
        }

    cut-written : Written base head (take 2048 own ++ dots) counts (cut_off l)
    cut-written = record {
      stands = cut_stands;
      same = rw (cut-is, get_or-set_same l.counts 0 (at + 3) 0 w.some)
          (ap (λ (x : List ℕ). set x 0 (at + 3)) w.same ∙ set-set counts 0 (get_or l.counts 0 0) (at + 3));
      some = rw (cut-is, length-set) w.some;
    }

    cut-buffer : length (cut_off l).answers ≡ length l.answers
    cut-buffer = rw cut-is (length-overwrite l.answers at dots room)

    past : min (get_or l.counts 20 0 + 2051) 18446744073709551615 < get_or l.counts 0 0
    past = omega (arith, w.stands.ends, w.stands.body, long)

  up_to : length own ≤ 2051 → get_or l.counts 0 0 ≤ min (get_or l.counts 20 0 + 2051) 18446744073709551615
  up_to short = omega (arith, w.stands.ends, w.stands.body, in_buffer, small, short)

  -- what is left of the buffer in a check
  abbrev checked : Log
  checked = cond (leb (get_or l.counts 0 0) (min (get_or l.counts 20 0 + 2051) 18446744073709551615)) l (cut_off l)

  checked-briefly : Written base head (briefly own) counts checked × (length checked.answers ≡ length l.answers)
  checked-briefly = go (dec_le (length own) 2051)
    where
      go : Dec (length own ≤ 2051) → Written base head (briefly own) counts checked × (length checked.answers ≡ length l.answers)
      go (yes p) =
          rw (briefly-short own p, le-leb (get_or l.counts 0 0) (min (get_or l.counts 20 0 + 2051) 18446744073709551615) (up_to p)) (w, refl)
      go (no p) =
          let long : 2052 ≤ length own = omega arith in
          rw (briefly-long own long, lt-leb (get_or l.counts 0 0) (min (get_or l.counts 20 0 + 2051) 18446744073709551615) (past long))
          (cut-written long, cut-buffer long)

  -- What a check keeps of the answer is what it shows
  pub written-briefly : Written base head (shown_answer counts own) counts (kept_briefly l)
  unfolding shown_answer kept_briefly
  written-briefly = rw (other-count w 14 (λ e. omega arith)) (go (eqb (get_or counts 14 0) 0))
    where
      go : (t : Bool) → Written base head (cond t own (briefly own)) counts (cond t l checked)
      go true = w
      go false = checked-briefly.0

  -- in a buffer of the same length,
  pub buffer-briefly : length (kept_briefly l).answers ≡ length l.answers
  unfolding kept_briefly
  buffer-briefly = go (eqb (get_or l.counts 14 0) 0)
    where
      go : (t : Bool) → length (cond t l checked).answers ≡ length l.answers
      go true = refl
      go false = checked-briefly.1

  -- and takes no more of it.
  pub ends-briefly : get_or (kept_briefly l).counts 0 0 ≤ get_or l.counts 0 0
  ends-briefly = omega (arith, written-briefly.stands.ends, w.stands.ends, shown-shorter counts own)

-- ---- "`=>` and the words that its answer begins with"

-- the text that may be put into the answer
abbrev pub differing : List (List ℕ) → List ℕ
differing [] = []
differing (wanted ∷ others) = joined (expected_texts wanted)

module _ {base head own counts : List ℕ} {l : Log} (w : Written base head own counts l) where
  more-end : get_or (one_more 8 (one_more 7 l)).counts 0 0 ≡ get_or l.counts 0 0
  more-end = added-first (added l.counts 7 1) 8 (λ e. omega arith) ∙ added-first l.counts 7 (λ e. omega arith)

  one_more_lem : Written base head own (added counts 7 1) (one_more 7 l)
  one_more_lem = written-more w 7 (λ e. omega arith) (λ e. omega arith) (λ e. omega arith)

  two-more : Written base head own (added (added counts 7 1) 8 1) (one_more 8 (one_more 7 l))
  two-more = written-more one_more_lem 8 (λ e. omega arith) (λ e. omega arith) (λ e. omega arith)

  pub judged : (expected : List (List ℕ)) → get_or l.counts 0 0 + length (differing expected) ≤ length l.answers
      → Written base head (judged_text expected counts own) (judged_counts expected counts own) (judged_log expected l)
  unfolding judged_text judged_counts judged_log compared
  judged [] room = w
  judged (wanted ∷ others) room =
      rw (other-count w 6 (λ e. omega arith), other-count w 18 (λ e. omega arith), answer-is w.stands)
      (go (is_not_bad counts) (begins_with wanted own))
    where
      go : (t u : Bool) → Written base head (cond t (cond u own (differing_text wanted own)) own)
          (cond t (cond u (added counts 7 1) (added (added counts 7 1) 8 1)) counts)
          (cond t (cond u (one_more 7 l) (inserted wanted (one_more 8 (one_more 7 l)))) l)
      go true true = one_more_lem
      go true false = written-inserted two-more wanted (rw more-end room)
      go false u = w

  judged-buffer : (expected : List (List ℕ)) → get_or l.counts 0 0 + length (differing expected) ≤ length l.answers
      → length (judged_log expected l).answers ≡ length l.answers
  unfolding judged_log compared
  judged-buffer [] room = refl
  judged-buffer (wanted ∷ others) room = go (eqb (get_or l.counts 6 0) (get_or l.counts 18 0)) (begins_with wanted (answer l))
    where
      go : (t u : Bool) → length (cond t (cond u (one_more 7 l) (inserted wanted (one_more 8 (one_more 7 l)))) l).answers ≡ length l.answers
      go true true = refl
      go true false = inserted-long two-more.stands wanted two-more.some (rw more-end room)
      go false u = refl

  judged-long : (expected : List (List ℕ)) → length (judged_text expected counts own) ≤ length own + length (differing expected)
  unfolding judged_text
  judged-long [] = omega arith
  judged-long (wanted ∷ others) = go (is_not_bad counts) (begins_with wanted own)
    where
      go : (t u : Bool) → length (cond t (cond u own (differing_text wanted own)) own) ≤ length own + length (joined (expected_texts wanted))
      go true true = omega arith
      go true false = omega (arith, differing-long wanted own)
      go false u = omega arith

  announced-is : (expected : List (List ℕ)) → is_announced expected l.counts (answer l) ≡ is_announced expected counts own
  unfolding is_announced
  announced-is [] = refl
  announced-is (wanted ∷ others) = rw (other-count w 6 (λ e. omega arith), other-count w 18 (λ e. omega arith), answer-is w.stands)

-- ---- a check

-- The item's name goes by neither the answer nor what is expected of it.
refusal-name : (told : Bool) (counts : List ℕ) → get_or (refusal_counted told counts) 15 0 ≡ get_or counts 15 0
unfolding refusal_counted added
refusal-name true counts = refl
refusal-name false counts = go (eqb (get_or counts 4 0) (get_or counts 17 0))
  where
    go : (t : Bool) → get_or (cond t counts (set counts 5 (min (get_or counts 5 0 + 1) 18446744073709551615))) 15 0 ≡ get_or counts 15 0
    go true = refl
    go false = get_or-set_other counts 5 15 _ 0 (λ e. omega arith)

added-name : (counts : List ℕ) (p : ℕ) → (15 ≡ p → ⊥) → get_or (added counts p 1) 15 0 ≡ get_or counts 15 0
unfolding added
added-name counts p apart = get_or-set_other counts p 15 _ 0 apart

judged-name : (expected : List (List ℕ)) (counts answer : List ℕ) → get_or (judged_counts expected counts answer) 15 0 ≡ get_or counts 15 0
unfolding judged_counts
judged-name [] counts answer = refl
judged-name (wanted ∷ others) counts answer = go (is_not_bad counts) (begins_with wanted answer)
  where
    go : (t u : Bool) → get_or (cond t (cond u (added counts 7 1) (added (added counts 7 1) 8 1)) counts) 15 0 ≡ get_or counts 15 0
    go true true = added-name counts 7 (λ e. omega arith)
    go true false = added-name (added counts 7 1) 8 (λ e. omega arith) ∙ added-name counts 7 (λ e. omega arith)
    go false u = refl

pub closed-tail : (names : List ℕ) (expected : List (List ℕ)) (counts answer : List ℕ) → tail names (closed_counts expected counts answer) ≡ tail names counts
unfolding tail closed_counts
closed-tail names expected counts answer =
    rw (refusal-name (is_announced expected counts answer) (judged_counts expected counts answer), judged-name expected counts answer)

module _ {base head own counts : List ℕ} {l : Log} (w : Written base head own counts l) (names : List ℕ) where
  trouble-is : trouble l.counts ≡ trouble counts
  unfolding trouble
  trouble-is = rw (other-count w 6 (λ e. omega arith), other-count w 8 (λ e. omega arith), other-count w 5 (λ e. omega arith))

  tail-is : tail names l.counts ≡ tail names counts
  unfolding tail
  tail-is = rw (other-count w 15 (λ e. omega arith))

  -- what is written then
  abbrev text_of : Log → List ℕ
  text_of q = take (get_or q.counts 0 0) q.answers

  dropped-text : text_of (dropped l) ≡ base ++ []
  dropped-text =
      let at : get_or (set l.counts 0 (get_or l.counts 12 0)) 0 0 ≡ length base = get_or-set_same l.counts 0 _ 0 w.some ∙ w.stands.start in
      rw (at, append-nil, ← take-take (length base) (get_or l.counts 0 0) l.answers (omega (arith, w.stands.ends)), w.stands.text)
      (take_at base (head ++ own) (length base) refl)

  shortened-text : first_end l + length (joined (tail names counts)) ≤ length l.answers
      → text_of (shortened names l) ≡ base ++ (head ++ (take (place_of 10 own) own ++ joined (tail names counts)))
  unfolding shortened overwrite
  shortened-text room =
      let text = joined (tail names counts) in
      let end = first_end l + length text in
      let start = front w.stands in
      let long : length (start ++ text) ≡ end = length-append start text ∙ ap (λ (n : ℕ). n + length text) (front_long w.stands) in
      rw (tail-is, put-each (tail names counts) l.answers (first_end l) room, get_or-set_same l.counts 0 end 0 w.some, front-is w.stands, take_at (start ++ text) (drop end l.answers) end long)
      (front-then w.stands text)

  looked-text : get_or l.counts 0 0 + length (joined (tail names counts)) ≤ length l.answers
      → text_of (looked names l) ≡ base ++ looked_text names counts head own
  unfolding looked looked_text
  looked-text room =
      rw (trouble-is, other-count w 19 (λ e. omega arith)) (go (eqb (trouble counts) (get_or counts 19 0)))
    where
      go : (t : Bool) → text_of (cond t (dropped l) (shortened names l)) ≡ base ++ cond t [] (head ++ (take (place_of 10 own) own ++ joined (tail names counts)))
      go true = dropped-text
      go false = shortened-text (omega (arith, room, early w.stands))

  written-text : get_or l.counts 0 0 + length (joined (tail names counts)) ≤ length l.answers
      → text_of (cond (eqb (get_or l.counts 14 0) 0) l (looked names l)) ≡ base ++ closed_text names counts head own
  unfolding closed_text
  written-text room = rw (other-count w 14 (λ e. omega arith)) (go (eqb (get_or counts 14 0) 0))
    where
      go : (t : Bool) → text_of (cond t l (looked names l)) ≡ base ++ cond t (head ++ own) (looked_text names counts head own)
      go true = w.stands.text
      go false = looked-text room

  first-set : (n : ℕ) → set l.counts 0 n ≡ set counts 0 (get_or (set l.counts 0 n) 0 0)
  first-set n =
      rw (get_or-set_same l.counts 0 n 0 w.some) (ap (λ (x : List ℕ). set x 0 n) w.same ∙ set-set counts 0 (get_or l.counts 0 0) n)

  looked-same : (looked names l).counts ≡ set counts 0 (get_or (looked names l).counts 0 0)
  unfolding looked shortened
  looked-same = go (eqb (trouble l.counts) (get_or l.counts 19 0))
    where
      go : (t : Bool) → (cond t (dropped l) (shortened names l)).counts ≡ set counts 0 (get_or (cond t (dropped l) (shortened names l)).counts 0 0)
      go true = first-set (get_or l.counts 12 0)
      go false = first-set (put_each l.answers (first_end l) (tail names l.counts)).next

  checked-same : (cond (eqb (get_or l.counts 14 0) 0) l (looked names l)).counts
      ≡ set counts 0 (get_or (cond (eqb (get_or l.counts 14 0) 0) l (looked names l)).counts 0 0)
  checked-same = go (eqb (get_or l.counts 14 0) 0)
    where
      go : (t : Bool) → (cond t l (looked names l)).counts ≡ set counts 0 (get_or (cond t l (looked names l)).counts 0 0)
      go true = w.same
      go false = looked-same

-- ---- all of it

module _ {base head own counts : List ℕ} {l : Log} (w : Written base head own counts l) (expected : List (List ℕ)) (names : List ℕ)
    (room : get_or l.counts 0 0 + length (differing expected) + length (joined (tail names (closed_counts expected counts own))) ≤ length l.answers) where
  abbrev kept : List ℕ
  kept = judged_counts expected counts own

  first-room : get_or l.counts 0 0 + length (differing expected) ≤ length l.answers
  first-room = omega (arith, room)

  abbrev counted : Log
  counted = record { counts = refusal_counted (is_announced expected counts own) (judged_log expected l).counts; answers = (judged_log expected l).answers }

  closing : Written base head (judged_text expected counts own) (closed_counts expected counts own) counted
  unfolding closed_counts
  closing = written-refused (judged w expected first-room) (is_announced expected counts own)

  -- A line that is closed has written what the text says.
  pub closed-text : take (get_or (closed expected names l).counts 0 0) (closed expected names l).answers
      ≡ base ++ closed_text names (closed_counts expected counts own) head (judged_text expected counts own)
  unfolding closed
  closed-text =
      rw (announced-is w expected)
      (written-text closing names (omega (arith, closing.stands.ends, w.stands.ends, judged-long w expected, judged-buffer w expected first-room, room)))

  -- The counts after it are those of the definition, but for the first.
  pub closed_same : (closed expected names l).counts ≡ set (closed_counts expected counts own) 0 (get_or (closed expected names l).counts 0 0)
  unfolding closed
  closed_same = rw (announced-is w expected) (checked-same closing names)
