-- What the definitions of `OwnParts` come to. Assumes nothing.
use Prim.Native.Nat.{ℕ, zero, suc, ◌+◌, ◌-◌, ◌≤◌, ◌<◌}
use mathlib.Core.Path.{◌≡◌, refl, sym, ap, ◌∙◌}
use mathlib.Core.Bool.{Bool, true, false}
use mathlib.Core.List.{List, [], ◌∷◌, ◌++◌, append-nil, append_assoc}
use native.Mathlib.Decide.{dec_lt}
use native.Mathlib.Nat.{sub-zero}
use native.Mathlib.Omega.{arith}
use lib.ListN.{length, take, drop, length-append}
use lib.Seq.{get_or-take, drop-cons, drop-drop, take-add, take-take, take-nil, take-append_seam}
use Rattle.std.specs.Prelude.{Option, Some, None}
use Rattle.unit.specs.Choice.{pick}
use Rattle.unit.proofs.Cases.{by-test, by_eqb}
use Rattle.numeral.specs.Ascii.{ascii}
use Rattle.text.specs.declared.Span.{Span}
use Rattle.text.specs.Text.{Text, is_blank, begun_before, words_after, words, same, is}
use Rattle.text.specs.OwnPart.{part}
use Rattle.text_code.specs.OwnWords.{between, Next}
use Rattle.item_line.specs.Line.{Expected}
use Rattle.item_line.specs.Reading.{before_mark, behind_mark, without_comment}
use Rattle.item_line.specs.OwnRead.{as_expected}
use Rattle.item_line_code.specs.declared.Cut.{Cut}
use Rattle.item_line_code.specs.OwnParts.{Within, after, Opens, NextIn, is_stop, until_stop, from_stop, CutAt, SplitAt}

-- ---- the first bytes of a text

pub drop-take : (i e : ℕ) (s : Text) → i ≤ e → drop i (take e s) ≡ between i e s
drop-take zero e s h = rw sub-zero
drop-take (suc i) zero s h = absurd (omega arith)
drop-take (suc i) (suc e) [] h = sym (take-nil (suc e - suc i))
drop-take (suc i) (suc e) (c ∷ s) h =
    let less : suc e - suc i ≡ e - i = omega arith in
    rw less (drop-take i e s (omega arith))

-- A part before the end of the first bytes is that of all.
pub inner : (i j e : ℕ) (s : Text) → j ≤ e → between i j (take e s) ≡ between i j s
inner i j e s h = go (dec_lt i j)
  where
    go : Dec (i < j) → between i j (take e s) ≡ between i j s
    go (yes p) = rw (drop-take i e s (omega arith)) (take-take (j - i) (e - i) (drop i s) (omega arith))
    go (no p) = let none : j - i ≡ 0 = omega arith in rw none

-- The first word of a part.
pub next-part : (text : Text) (rest : Span) → Within text rest → {i j : ℕ} → Next (take rest.end text) rest.start i j → length (take rest.end text) ≡ rest.end
    → NextIn text rest (record { start = i; end = j })
unfolding part
next-part text rest h {i} {j} n long =
    let e = rest.end in
    let whole = drop-take rest.start e text h.ordered in
    let high : j ≤ e = omega (arith, n.high, long) in
    record {
      low = n.low;
      ordered = n.ordered;
      high = high;
      some = λ s. ap words (sym whole) ∙ n.some s ∙ rw (inner i j e text high, drop-take j e text high);
      none = λ s. ap words (sym whole) ∙ n.none s;
      stops = λ s k. rw (← get_or-take e text j 0 k) (n.stops s (omega (arith, long)));
    }

-- ---- words of parts that stand one after the other

-- A word does not go on with these bytes.
abbrev Stops : Text → Type 0
Stops [] = Unit
Stops (c ∷ cs) = is_blank c ≡ true

begun-append : (w : Text) (a b : List Text) → begun_before w (a ++ b) ≡ begun_before w a ++ b
unfolding begun_before
begun-append [] a b = refl
begun-append (c ∷ w) a b = refl

after-append : (xs w ys : Text) → Stops ys → words_after w (xs ++ ys) ≡ words_after w xs ++ words_after [] ys
unfolding words_after begun_before
after-append [] w [] h = sym (append-nil _)
after-append [] w (c ∷ ys) h = rw h (begun-append w [] (words_after [] ys))
after-append (c ∷ xs) w ys h =
    by-test (is_blank c) (λ e. rw (e, after-append xs [] ys h) (begun-append w _ _)) (λ e. rw e (after-append xs (w ++ (c ∷ [])) ys h))

words_append : (xs ys : Text) → Stops ys → words (xs ++ ys) ≡ words xs ++ words ys
unfolding words
words_append xs ys h = after-append xs [] ys h

cancel : {A : Type 0} (a b r : List A) → a ++ r ≡ b ++ r → a ≡ b
cancel a b r e =
    let long : length a ≡ length b = omega (arith, sym (length-append a r) ∙ ap length e ∙ length-append b r) in
    sym (take-append_seam a r) ∙ rw (long, e) (take-append_seam b r)

module _ (s : Text) where
  between_split : (i j e : ℕ) → i ≤ j → j ≤ e → between i e s ≡ between i j s ++ between j e s
  between_split i j e h h' =
      let sum : e - i ≡ (j - i) + (e - j) = omega arith in
      let there : i + (j - i) ≡ j = omega arith in
      rw sum (take-add (j - i) (e - j) (drop i s) ∙ ap (λ (t : Text). between i j s ++ take (e - j) t) (drop-drop (j - i) i s ∙ ap (λ (n : ℕ). drop n s) there))

  stops-between : (i e : ℕ) → e ≤ length s → Opens s i e → Stops (between i e s)
  stops-between i e h o = go (dec_lt i e)
    where
      go : Dec (i < e) → Stops (between i e s)
      go (yes p) =
          let more : e - i ≡ suc (e - suc i) = omega arith in
          rw (drop-cons s i 0 (omega arith), more) (o p)
      go (no p) = let none : e - i ≡ 0 = omega arith in rw none tt

  words-split : (i j e : ℕ) → i ≤ j → j ≤ e → e ≤ length s → Opens s j e → words (between i e s) ≡ words (between i j s) ++ words (between j e s)
  words-split i j e h h' high o = ap words (between_split i j e h h') ∙ words_append (between i j s) (between j e s) (stops-between j e high o)

-- The search for a word that ends what counts has passed the words up to the place i.
pub record Looked (marks : Bool) (text : Text) (rest : Span) (i : ℕ) : Type 0 where
  pub low : rest.start ≤ i
  pub high : i ≤ rest.end
  pub stops : Opens text i rest.end
  pub before : until_stop marks (words (part text rest)) ≡ words (between rest.start i text) ++ until_stop marks (words (between i rest.end text))
  pub from : from_stop marks (words (part text rest)) ≡ from_stop marks (words (between i rest.end text))

module _ (marks : Bool) (text : Text) (rest : Span) (within : Within text rest) where
  pub looked-first : Opens text rest.start rest.end → Looked marks text rest rest.start
  unfolding words words_after begun_before part
  looked-first stops =
      let none : rest.start - rest.start ≡ 0 = omega arith in
      record { low = omega arith; high = within.ordered; stops = stops; before = rw none; from = refl }

  module _ {i : ℕ} (k : Looked marks text rest i) {w : Span} (n : NextIn text (record { start = i; end = rest.end }) w) where
    -- The next word is none of them.
    pub looked-next : w.start < w.end → is_stop marks (part text w) ≡ false → Looked marks text rest w.end
    unfolding until_stop from_stop part
    looked-next some other =
        let b = w.end in
        let low : i ≤ b = omega (arith, n.low, n.ordered) in
        let one : words (between i b text) ≡ between w.start b text ∷ [] =
        cancel (words (between i b text)) (between w.start b text ∷ []) (words (between b rest.end text))
        (sym (words-split text i b rest.end low n.high within.high (n.stops some)) ∙ n.some some) in
        let all : words (between rest.start b text) ≡ words (between rest.start i text) ++ (between w.start b text ∷ []) =
        words-split text rest.start i b k.low low (omega (arith, n.high, within.high)) (λ h. k.stops (omega (arith, n.high)))
        ∙ ap (λ (t : List Text). words (between rest.start i text) ++ t) one in
        record {
          low = omega (arith, k.low, low);
          high = n.high;
          stops = n.stops some;
          before = k.before ∙ rw (all, n.some some, other) (sym (append_assoc (words (between rest.start i text)) (between w.start b text ∷ []) _));
          from = k.from ∙ rw (n.some some, other);
        }

    -- It is the one that is looked for.
    pub looked-found : w.start < w.end → is_stop marks (part text w) ≡ true → CutAt marks text rest (record { end = i; word = w })
    unfolding until_stop from_stop part
    looked-found some this = record {
      low = k.low;
      high = k.high;
      before = sym (k.before ∙ rw (n.some some, this) (append-nil _));
      inside = n.high;
      some = λ _. k.from ∙ rw (n.some some, this);
      none = λ h. absurd (omega arith);
      stops = n.stops;
    }

    -- There is no further word.
    pub looked-all : w.end ≤ w.start → CutAt marks text rest (record { end = i; word = w })
    unfolding until_stop from_stop part
    looked-all none = record {
      low = k.low;
      high = k.high;
      before = sym (k.before ∙ rw (n.none none) (append-nil _));
      inside = n.high;
      some = λ h. absurd (omega arith);
      none = λ _. k.from ∙ rw (n.none none);
      stops = n.stops;
    }

  pub looked-end : {i : ℕ} → Looked marks text rest i → rest.end ≤ i → CutAt marks text rest (record { end = i; word = record { start = i; end = i } })
  unfolding until_stop from_stop part words words_after begun_before
  looked-end {i} k end =
      let none : rest.end - i ≡ 0 = omega arith in
      record {
        low = k.low;
        high = k.high;
        before = sym (k.before ∙ rw none (append-nil _));
        inside = k.high;
        some = λ h. absurd (omega arith);
        none = λ _. k.from ∙ rw none;
        stops = λ h. absurd (omega arith);
      }

-- ---- what stands before a comment and before the mark

hash-no-mark : (w : Text) → is "#" w ≡ true → is "=>" w ≡ false
unfolding same ascii
hash-no-mark [] e = refl
hash-no-mark (c ∷ cs) e =
    by_eqb c 35 (λ i t. rw i) (λ i t. let z : false ≡ true = rw t at e in absurd (never z))
  where
    never : false ≡ true → ⊥
    never z = let n : ◌≡◌ {A = ℕ} 0 1 = cc in omega arith

pub comment-cut : (ws : List Text) → until_stop false ws ≡ without_comment ws
unfolding until_stop without_comment is_stop
comment-cut [] = refl
comment-cut (w ∷ ws) = by-test (is "#" w) (λ e. rw e) (λ e. rw (e, comment-cut ws))

mark-cut : (ws : List Text) → until_stop true ws ≡ before_mark (without_comment ws)
unfolding until_stop without_comment is_stop before_mark
mark-cut [] = refl
mark-cut (w ∷ ws) = by-test (is "#" w) (λ e. rw e) (λ e. by-test (is "=>" w) (λ m. rw (e, m)) (λ m. rw (e, m, mark-cut ws)))

abbrev behind_of : List Text → Expected
behind_of [] = Expected.unmarked
behind_of (w ∷ ws) = pick (is "=>" w) (Expected.marked (without_comment ws)) Expected.unmarked

mark-from : (ws : List Text) → behind_of (from_stop true ws) ≡ behind_mark (without_comment ws)
unfolding from_stop without_comment is_stop behind_mark
mark-from [] = refl
mark-from (w ∷ ws) =
    by-test (is "#" w) (λ e. rw (e, hash-no-mark w e)) (λ e. by-test (is "=>" w) (λ m. rw (e, m) (rw m)) (λ m. rw (e, m, mark-from ws)))

module _ (text : Text) (rest : Span) (within : Within text rest) (r : Cut) (k : CutAt true text rest r) where
  split-as : (x : Option Span) → as_expected text x ≡ behind_of (from_stop true (words (part text rest)))
      → SplitAt text rest (record { before = record { start = rest.start; end = r.end }; expected = x })
  split-as x e = record {
    within = record { ordered = k.low; high = omega (arith, k.high, within.high); short = omega (arith, k.high, within.short) };
    before = k.before ∙ mark-cut (words (part text rest));
    expected = e ∙ mark-from (words (part text rest));
  }

  pub split-none : r.word.end ≤ r.word.start → SplitAt text rest (record { before = record { start = rest.start; end = r.end }; expected = None })
  unfolding as_expected
  split-none none = split-as None (rw (k.none none))

  pub split-comment : r.word.start < r.word.end → is "=>" (part text r.word) ≡ false
      → SplitAt text rest (record { before = record { start = rest.start; end = r.end }; expected = None })
  unfolding as_expected
  split-comment some e = split-as None (rw (k.some some, e))

  pub split-mark : r.word.start < r.word.end → is "=>" (part text r.word) ≡ true → {b : Cut} → CutAt false text (after r.word rest) b
      → SplitAt text rest (record { before = record { start = rest.start; end = r.end }; expected = Some (record { start = r.word.end; end = b.end }) })
  unfolding as_expected
  split-mark some e {b} h =
      split-as (Some (record { start = r.word.end; end = b.end }))
      (rw (k.some some, e) (ap Expected.marked (h.before ∙ comment-cut (words (part text (after r.word rest))))))
