-- The first line of an answer as words parted by blanks, and when it begins with the words that a line expects. Assumes nothing.
use Prim.Native.Nat.{ℕ, suc, ◌+◌, ◌≤◌, ◌<◌}
use mathlib.Core.Bool.{Bool, true, false, cond, false≢true, true≢false}
use mathlib.Core.List.{List, [], ◌∷◌, ◌++◌, append_assoc}
use mathlib.Core.Logic.{◌↔◌, ◌⊎◌, inl, inr, ⊎_elim}
use mathlib.Core.Path.{◌≡◌, refl, sym, ap, subst, ◌∙◌}
use native.Mathlib.Omega.{arith}
use lib.Dec.{eqb, leb, ltb}
use lib.ListN.{length, get_or, take, length-append, drop_of_length-le}
use borrow.Author.Tests.{ltb-false, le-leb, lt-leb, ne_eqb, eqb-false}
use Rattle.unit.proofs.Cases.{by-test, by_eqb}
use Rattle.numeral.specs.Ascii.{ascii}
use Rattle.numeral.specs.Place.{joined}
use Rattle.line.specs.Words.{words}
use Rattle.line_buffer.specs.Lines.{has_line, with_first, lines_in, rest_in, last_line, text_lines}
use Rattle.line.specs.Mark.{takes_mark, is_mark, behind_mark}
use Rattle.line.specs.Line.{keyword_of, words_expected, content_length, line_expected}
use Rattle.line.specs.Spaced.{blanked, spaced}
use Rattle.wording.specs.Wording.{Texts, line_feed}
use Rattle.item_checks.specs.Close.{place_of, starts_with, begins_with, later_part}
use Rattle.item_checks.proofs.Answers.{Above, AllAbove, AllApart, NoFeed, begins-exactly, feed-take, words-apart}
use Rattle.answer_text.proofs.Page.{joined-append, joined-last}

-- ---- the words of the first line

-- no byte is below the blank
unfoldable pub visible : List ℕ → Bool
visible [] = true
visible (c ∷ cs) = cond (ltb c 32) false (visible cs)

-- the first word: up to a blank or the line feed
unfoldable pub first_word : List ℕ → List ℕ
first_word [] = []
first_word (c ∷ cs) = cond (leb c 32) [] (c ∷ first_word cs)

-- the words behind it, up to the line feed: each stands behind one blank
unfoldable pub later_words : List ℕ → List (List ℕ)
later_words [] = []
later_words (c ∷ cs) = cond (eqb c 10) [] (cond (eqb c 32) (first_word cs ∷ later_words cs) (later_words cs))

-- An answer whose first line has no byte below the blank; that line has a blank, or no line stands behind it.
pub record FirstLine (bytes : List ℕ) : Type 0 where
  pub start : List ℕ
  pub rest : List ℕ
  pub is : bytes ≡ start ++ (10 ∷ rest)
  pub shown : visible start ≡ true
  pub parted : (rest ≡ []) ⊎ (0 < length (later_words bytes))

-- so of a refusal, and of an answer of two lines
example-words : (first_word (ascii "bus no 6 busy\n") ≡ ascii "bus")
    × (later_words (ascii "bus no 6 busy\n") ≡ ascii "no" ∷ ascii "6" ∷ ascii "busy" ∷ [])
    × (later_words (ascii "frames 1\nframe 04\n") ≡ ascii "1" ∷ [])
unfolding first_word later_words ascii
example-words = (refl, refl, refl)

visible-cons : (c : ℕ) (cs : List ℕ) → visible (c ∷ cs) ≡ true → (32 ≤ c) × (visible cs ≡ true)
unfolding visible
visible-cons c cs shown =
    by-test (ltb c 32) (λ e. absurd (false≢true (rw e at shown))) (λ e. (ltb-false c 32 e, rw e at shown))

-- It is its first word, and then each later word behind one blank.
module _ (rest : List ℕ) where
  split : (u : List ℕ) → visible u ≡ true
      → let b = u ++ (10 ∷ rest) in
      (b ≡ first_word b ++ (joined (blanked (later_words b)) ++ (10 ∷ rest))) × Above (first_word b) × AllAbove (later_words b)
  unfolding first_word later_words blanked joined
  split [] shown = (refl, tt, tt)
  split (c ∷ u) shown =
      let s = visible-cons c u shown in
      let r = split u s.1 in
      let b = u ++ (10 ∷ rest) in
      let f = first_word b in
      let j = joined (blanked (later_words b)) in
      let line : eqb c 10 ≡ false = ne_eqb c 10 (λ e. omega (arith, s.0, e)) in
      by_eqb c 32
      (λ blank e.
      rw (le-leb c 32 (omega (arith, blank)), line, e)
      (ap (λ (x : ℕ). x ∷ b) blank ∙ ap (λ (l : List ℕ). 32 ∷ l) (r.0 ∙ sym (append_assoc f j (10 ∷ rest))), tt, (r.1, r.2)))
      (λ other e.
      rw (lt-leb c 32 (omega (arith, s.0, other)), line, e)
      (ap (λ (l : List ℕ). c ∷ l) r.0, (omega (arith, s.0, other), r.1), r.2))

-- ---- an answer of one word

only-place : (first : List ℕ) → Above first → place_of 32 (first ++ (10 ∷ [])) ≡ length first + 1
unfolding place_of
only-place [] a = refl
only-place (c ∷ first) a = rw (ne_eqb c 32 (λ e. omega (arith, a.0, e))) (omega (arith, only-place first a.1))

only-later : (first : List ℕ) → Above first → later_part (first ++ (10 ∷ [])) ≡ []
only-later first a =
    rw (only-place first a, drop_of_length-le (first ++ (10 ∷ [])) {i = length first + 1} (omega (arith, length-append first (10 ∷ [])))) refl

only-begins : (first : List ℕ) (ws : List (List ℕ)) → Above first → AllApart ws
    → (begins_with (joined (spaced ws)) (first ++ (10 ∷ [])) ≡ true) ↔ (take (length ws) [] ≡ ws)
unfolding begins_with starts_with spaced joined
only-begins first [] a apart = (λ _. refl, λ _. refl)
only-begins first ([] ∷ ws) a apart = absurd (omega (arith, apart.0))
only-begins first ((c ∷ w) ∷ ws) a apart =
    rw (only-later first a, ne_eqb (suc (length (w ++ joined (blanked ws)))) 0 (λ e. omega (arith, e)))
    (λ e. absurd (false≢true e), λ e. let z : ◌≡◌ {A = ℕ} 0 1 = cc in absurd (omega (arith, z)))

-- ---- "the words that its answer begins with, the first word of the answer left out"

pub begins-words : (bytes : List ℕ) → FirstLine bytes → (ws : List (List ℕ)) → AllApart ws
    → (begins_with (joined (spaced ws)) bytes ≡ true) ↔ (take (length ws) (later_words bytes) ≡ ws)
unfolding blanked joined
begins-words bytes f ws apart =
    let whole : bytes ≡ f.start ++ (10 ∷ f.rest) = f.is in
    let s = split f.rest f.start f.shown in
    let parted : (f.rest ≡ []) ⊎ (0 < length (later_words (f.start ++ (10 ∷ f.rest))))
    = subst (λ (b : List ℕ). (f.rest ≡ []) ⊎ (0 < length (later_words b))) whole f.parted in
    subst (λ (b : List ℕ). (begins_with (joined (spaced ws)) b ≡ true) ↔ (take (length ws) (later_words b) ≡ ws)) (sym whole)
    (go f.rest (first_word (f.start ++ (10 ∷ f.rest))) (later_words (f.start ++ (10 ∷ f.rest))) (f.start ++ (10 ∷ f.rest)) s.0 s.1 s.2 parted)
  where
    go : (rest first : List ℕ) (vs : List (List ℕ)) (b : List ℕ) → b ≡ first ++ (joined (blanked vs) ++ (10 ∷ rest)) → Above first → AllAbove vs
        → (rest ≡ []) ⊎ (0 < length vs) → (begins_with (joined (spaced ws)) b ≡ true) ↔ (take (length ws) vs ≡ ws)
    go rest first (v ∷ vs) b e a all parted =
        subst (λ (x : List ℕ). (begins_with (joined (spaced ws)) x ≡ true) ↔ (take (length ws) (v ∷ vs) ≡ ws)) (sym e)
        (begins-exactly first v vs ws rest a all apart)
    go rest first [] b e a all parted =
        let none : rest ≡ [] = ⊎_elim (λ (r : rest ≡ []). r) (λ (some : 0 < 0). absurd (omega (arith, some))) parted in
        subst (λ (x : List ℕ). (begins_with (joined (spaced ws)) x ≡ true) ↔ (take (length ws) [] ≡ ws)) (sym (e ∙ ap (λ (r : List ℕ). first ++ (10 ∷ r)) none))
        (only-begins first ws a apart)

-- ---- the words that a line expects

behind-apart : (ws given : List (List ℕ)) → AllApart given → behind_mark given ≡ ws ∷ [] → AllApart ws
unfolding behind_mark
behind-apart ws [] apart e = let z : ◌≡◌ {A = ℕ} 0 1 = cc in absurd (omega (arith, z))
behind-apart ws (w ∷ given) apart e = go (is_mark w) e (λ later. behind-apart ws given apart.2 later)
  where
    go : (t : Bool) → cond t (given ∷ []) (behind_mark given) ≡ ws ∷ [] → (behind_mark given ≡ ws ∷ [] → AllApart ws) → AllApart ws
    go true is later = let same : given ≡ ws = cc in subst AllApart same apart.2
    go false is later = later is

given-apart : (ws given : List (List ℕ)) → AllApart given → words_expected given ≡ ws ∷ [] → AllApart ws
unfolding words_expected
given-apart ws [] apart e = let z : ◌≡◌ {A = ℕ} 0 1 = cc in absurd (omega (arith, z))
given-apart ws (w ∷ given) apart e = go (eqb (get_or w 0 0) 35) (takes_mark (keyword_of w)) e
  where
    go : (t u : Bool) → cond t [] (cond u (behind_mark given) []) ≡ ws ∷ [] → AllApart ws
    go true u is = let z : ◌≡◌ {A = ℕ} 0 1 = cc in absurd (omega (arith, z))
    go false true is = behind-apart ws given apart.2 is
    go false false is = let z : ◌≡◌ {A = ℕ} 0 1 = cc in absurd (omega (arith, z))

-- No word behind `=>` has a blank, and of a line without a line feed none has one.
pub line-apart : (line : List ℕ) (ws : List (List ℕ)) → NoFeed line → line_expected line ≡ ws ∷ [] → AllApart ws
unfolding line_expected
line-apart line ws clean e = go (ltb 1000 (content_length line)) e
  where
    go : (t : Bool) → cond t [] (words_expected (words (take (content_length line) line))) ≡ ws ∷ [] → AllApart ws
    go true is = let z : ◌≡◌ {A = ℕ} 0 1 = cc in absurd (omega (arith, z))
    go false is =
        given-apart ws (words (take (content_length line) line)) (words-apart (take (content_length line) line) (feed-take (content_length line) line clean)) is

-- ---- the lines of a text have no line feed

abbrev Clean : List (List ℕ) → Type 0
Clean [] = Unit
Clean (l ∷ ls) = NoFeed l × Clean ls

with-clean : (c : ℕ) (ls : List (List ℕ)) → (c ≡ 10 → ⊥) → Clean ls → Clean (with_first c ls)
unfolding with_first
with-clean c [] other h = tt
with-clean c (l ∷ ls) other h = ((other, h.0), h.1)

in_clean : (bytes : List ℕ) → Clean (lines_in bytes)
unfolding lines_in
in_clean [] = tt
in_clean (c ∷ cs) =
    by_eqb c 10 (λ _ e. rw e (tt, in_clean cs)) (λ other e. rw e (with-clean c (lines_in cs) other (in_clean cs)))

no_line : (bytes : List ℕ) → has_line bytes ≡ false → NoFeed bytes
unfolding has_line
no_line [] e = tt
no_line (c ∷ cs) e =
    by-test (eqb c 10) (λ t. absurd (true≢false (rw t at e))) (λ t. (eqb-false c 10 t, no_line cs (rw t at e)))

rest-clean : (bytes : List ℕ) → NoFeed (rest_in bytes)
unfolding rest_in
rest-clean [] = tt
rest-clean (c ∷ cs) = by-test (has_line (c ∷ cs)) (λ e. rw e (rest-clean cs)) (λ e. rw e (no_line (c ∷ cs) e))

last-clean : (rest : List ℕ) → NoFeed rest → Clean (last_line rest)
unfolding last_line
last-clean [] h = tt
last-clean (c ∷ cs) h = (h, tt)

clean-append : (a b : List (List ℕ)) → Clean a → Clean b → Clean (a ++ b)
clean-append [] b x y = y
clean-append (l ∷ a) b x y = (x.0, clean-append a b x.1 y)

clean-behind : (before after : List (List ℕ)) (line : List ℕ) → Clean (before ++ (line ∷ after)) → NoFeed line
clean-behind [] after line h = h.0
clean-behind (l ∷ before) after line h = clean-behind before after line h.1

pub text-line-clean : (text : List ℕ) (before after : List (List ℕ)) (line : List ℕ) → text_lines text ≡ before ++ (line ∷ after) → NoFeed line
unfolding text_lines
text-line-clean text before after line e =
    clean-behind before after line
    (subst Clean e (clean-append (lines_in text) (last_line (rest_in text)) (in_clean text) (last-clean (rest_in text) (rest-clean text))))

-- ---- texts of an answer

-- no text has a byte below the blank
unfoldable pub seen : Texts → Bool
seen [] = true
seen (t ∷ ts) = cond (visible t) (seen ts) false

pub visible-append : (s t : List ℕ) → visible s ≡ true → visible t ≡ true → visible (s ++ t) ≡ true
unfolding visible
visible-append [] t a b = b
visible-append (c ∷ s) t a b =
    by-test (ltb c 32) (λ e. absurd (false≢true (rw e at a))) (λ e. rw e (visible-append s t (rw e at a) b))

pub seen-append : (a b : Texts) → seen a ≡ true → seen b ≡ true → seen (a ++ b) ≡ true
unfolding seen
seen-append [] b x y = y
seen-append (t ∷ a) b x y =
    by-test (visible t) (λ e. rw e (seen-append a b (rw e at x) y)) (λ e. absurd (false≢true (rw e at x)))

pub seen-joined : (a : Texts) → seen a ≡ true → visible (joined a) ≡ true
unfolding seen joined visible
seen-joined [] x = refl
seen-joined (t ∷ a) x =
    by-test (visible t) (λ e. visible-append t (joined a) e (seen-joined a (rw e at x))) (λ e. absurd (false≢true (rw e at x)))

-- Such texts and a line feed are an answer of one line.
pub one_line : (a : Texts) → seen a ≡ true → FirstLine (joined (a ++ (line_feed ∷ [])))
one_line a x = record { start = joined a; rest = []; is = joined-last a line_feed; shown = seen-joined a x; parted = inl refl }

-- So are they, with texts behind the line feed, where there is a blank among them.
pub some-line : (a b : Texts) → seen a ≡ true → 0 < length (later_words (joined (a ++ (line_feed ∷ b)))) → FirstLine (joined (a ++ (line_feed ∷ b)))
unfolding joined
some-line a b x blank =
    record { start = joined a; rest = joined b; is = joined-append a (line_feed ∷ b); shown = seen-joined a x; parted = inr blank }
