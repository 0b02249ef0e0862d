-- What the definitions of `Open` and `Close` mean for a line's answer. Assumes nothing.
use Prim.Native.Nat.{ℕ, zero, suc, ◌+◌, ◌-◌, ◌≤◌, ◌<◌, min}
use mathlib.Core.Path.{◌≡◌, refl, sym, ap, ◌∙◌}
use mathlib.Core.Bool.{Bool, true, false, cond}
use mathlib.Core.List.{List, [], ◌∷◌, ◌++◌, append_assoc}
use native.Mathlib.Decide.{dec_le}
use native.Mathlib.Omega.{arith}
use lib.Dec.{ltb, eqb}
use lib.ListN.{length, get_or, set, take, drop, length-append, length-take, length-drop, length-set, take-append-drop, drop_of_length-le}
use lib.Seq.{drop-append_seam, drop-append-le, length-take-le, take_at, drop_at, take_all, take-nil, get_or-drop, get_or-set_same, get_or-set_other}
use borrow.Author.Tests.{eq-eqb, ne_eqb, eqb-true, leb-true, ltb-false}
use Rattle.unit.proofs.Cases.{by_eqb}
use Rattle.numeral.specs.Place.{overwrite, put_each, joined}
use Rattle.numeral.proofs.PlaceLaws.{put-each}
use Rattle.line.specs.Words.{is_blank, ended, words_after, words}
use Rattle.line.specs.Line.{content_length, words_expected, line_expected}
use Rattle.line.specs.Mark.{Expects}
use Rattle.line.specs.Spaced.{blanked, spaced}
use Rattle.wording.specs.Wording.{place, item_name}
use Rattle.item_state.specs.Log.{Log, added, said, call_counted, counted, called}
use Rattle.item_checks.specs.Close.{line_words, answer, place_of, starts_with, begins_with, wanted_in, inserted, one_more, compared, expected_from, expected_of, judged_log, is_announced, refusal_counted, trouble, tail, closed}
use Rattle.item_checks.specs.Open.{line_counted, headed, begun, item_named}

-- ---- "the words that its answer begins with, the first word of the answer left out"

-- An answer's word: each byte is above the blank.
abbrev pub Above : List ℕ → Type 0
Above [] = Unit
Above (c ∷ cs) = (32 < c) × Above cs

abbrev pub AllAbove : List (List ℕ) → Type 0
AllAbove [] = Unit
AllAbove (v ∷ vs) = Above v × AllAbove vs

-- A word that is wanted: no byte is a blank or a line feed. So it is of each word of a line.
abbrev pub Apart : List ℕ → Type 0
Apart [] = Unit
Apart (c ∷ cs) = (c ≡ 32 → ⊥) × (c ≡ 10 → ⊥) × Apart cs

abbrev pub AllApart : List (List ℕ) → Type 0
AllApart [] = Unit
AllApart (w ∷ ws) = (0 < length w) × Apart w × AllApart ws

-- what follows a word that is wanted, and what follows one of the answer
abbrev Behind : List ℕ → Type 0
Behind [] = Unit
Behind (c ∷ cs) = c ≡ 32

abbrev Ahead : List ℕ → Type 0
Ahead [] = Unit
Ahead (c ∷ cs) = (d : ℕ) → (d ≡ 32 → ⊥) → (d ≡ 10 → ⊥) → c ≡ d → ⊥

-- equal bytes go on
same_byte : (c w : ℕ) (ws cs : List ℕ) → starts_with (w ∷ ws) (c ∷ cs) ≡ true → (c ≡ w) × (starts_with ws cs ≡ true)
unfolding starts_with
same_byte c w ws cs = go (eqb c w) refl
  where
    go : (t : Bool) → eqb c w ≡ t → cond t (starts_with ws cs) false ≡ true → (c ≡ w) × (starts_with ws cs ≡ true)
    go true e h = (eqb-true c w e, h)
    go false e h = let z : ◌≡◌ {A = ℕ} 0 1 = cc in absurd (omega arith)

stop-byte : (c : ℕ) (cs : List ℕ) → starts_with [] (c ∷ cs) ≡ true → c ≤ 32
unfolding starts_with
stop-byte c cs h = leb-true c 32 h

short : (w : ℕ) (ws : List ℕ) → starts_with (w ∷ ws) [] ≡ true → ⊥
unfolding starts_with
short w ws h = let z : ◌≡◌ {A = ℕ} 0 1 = cc in omega arith

-- The first word that is wanted is the answer's.
first-same : (w v x y : List ℕ) → Apart w → Above v → Behind x → Ahead y → starts_with (w ++ x) (v ++ y) ≡ true
    → (w ≡ v) × (starts_with x y ≡ true)
first-same [] [] x y a b bx by h = (refl, h)
first-same [] (c ∷ v) [] y a b bx by h = absurd (omega (arith, stop-byte c (v ++ y) h))
first-same [] (c ∷ v) (d ∷ x) y a b bx by h = absurd (omega (arith, (same_byte c d x (v ++ y) h).0))
first-same (c ∷ w) [] x [] a b bx by h = absurd (short c (w ++ x) h)
first-same (c ∷ w) [] x (d ∷ y) a b bx by h = absurd (by c a.0 a.1 (same_byte d c (w ++ x) y h).0)
first-same (c ∷ w) (d ∷ v) x y a b bx by h =
    let s = same_byte d c (w ++ x) (v ++ y) h in
    let rest = first-same w v x y a.2 b.1 bx by s.1 in
    let all : ◌≡◌ {A = List ℕ} (c ∷ w) (d ∷ v) = cc (s.0, rest.0) in
    (all, rest.1)

same_first : (w x y : List ℕ) → starts_with (w ++ x) (w ++ y) ≡ starts_with x y
unfolding starts_with
same_first [] x y = refl
same_first (c ∷ w) x y = rw (eq-eqb c c refl) (same_first w x y)

-- Words with a blank before each, up to the end of the answer's first line.
abbrev later : List (List ℕ) → List ℕ → List ℕ
later vs rest = joined (blanked vs) ++ (10 ∷ rest)

behind-words : (ws : List (List ℕ)) → Behind (joined (blanked ws))
unfolding blanked joined
behind-words [] = tt
behind-words (w ∷ ws) = refl

ahead-words : (vs : List (List ℕ)) (rest : List ℕ) → Ahead (later vs rest)
unfolding blanked joined
ahead-words [] rest = λ d a b e. b (sym e)
ahead-words (v ∷ vs) rest = λ d a b e. a (sym e)

later-cons : (v : List ℕ) (vs : List (List ℕ)) (rest : List ℕ) → later (v ∷ vs) rest ≡ 32 ∷ (v ++ later vs rest)
unfolding blanked joined
later-cons v vs rest = ap (λ (l : List ℕ). 32 ∷ l) (append_assoc v (joined (blanked vs)) (10 ∷ rest))

wanted-cons : (w : List ℕ) (ws : List (List ℕ)) → joined (blanked (w ∷ ws)) ≡ 32 ∷ (w ++ joined (blanked ws))
unfolding blanked joined
wanted-cons w ws = refl

none-wanted : (vs : List (List ℕ)) (rest : List ℕ) → starts_with (joined (blanked [])) (later vs rest) ≡ true
unfolding starts_with blanked joined
none-wanted [] rest = refl
none-wanted (v ∷ vs) rest = refl

none_left : (w : List ℕ) (ws : List (List ℕ)) (rest : List ℕ) → starts_with (joined (blanked (w ∷ ws))) (later [] rest) ≡ true → ⊥
unfolding starts_with blanked joined
none_left w ws rest h = let z : ◌≡◌ {A = ℕ} 0 1 = cc in omega arith

both_left : (w v : List ℕ) (ws vs : List (List ℕ)) (rest : List ℕ)
    → starts_with (joined (blanked (w ∷ ws))) (later (v ∷ vs) rest) ≡ starts_with (w ++ joined (blanked ws)) (v ++ later vs rest)
both_left w v ws vs rest =
    rw (later-cons v vs rest, wanted-cons w ws) (same_first (32 ∷ []) (w ++ joined (blanked ws)) (v ++ later vs rest))

words-begin : (ws vs : List (List ℕ)) (rest : List ℕ) → AllApart ws → AllAbove vs
    → starts_with (joined (blanked ws)) (later vs rest) ≡ true → take (length ws) vs ≡ ws
words-begin [] vs rest a b h = refl
words-begin (w ∷ ws) [] rest a b h = absurd (none_left w ws rest h)
words-begin (w ∷ ws) (v ∷ vs) rest a b h =
    let s = first-same w v (joined (blanked ws)) (later vs rest) a.1 b.0 (behind-words ws) (ahead-words vs rest) (sym (both_left w v ws vs rest) ∙ h) in
    let more = words-begin ws vs rest a.2 b.1 s.1 in
    cc (s.0, more)

begin-words : (ws vs : List (List ℕ)) (rest : List ℕ) → take (length ws) vs ≡ ws → starts_with (joined (blanked ws)) (later vs rest) ≡ true
begin-words [] vs rest e = none-wanted vs rest
begin-words (w ∷ ws) [] rest e = let z : ◌≡◌ {A = ℕ} 0 1 = cc in absurd (omega arith)
begin-words (w ∷ ws) (v ∷ vs) rest e =
    let same : v ≡ w = cc in
    let more : take (length ws) vs ≡ ws = cc in
    both_left w v ws vs rest ∙ rw same (same_first w (joined (blanked ws)) (later vs rest)) ∙ begin-words ws vs rest more

-- of a `=>` without words "any answer will do"
pub any-answer : (bytes : List ℕ) → begins_with (joined (spaced [])) bytes ≡ true
unfolding begins_with spaced joined
any-answer bytes = refl

-- Behind the first word of an answer stands its first blank.
first-blank : (first z : List ℕ) → Above first → place_of 32 (first ++ (32 ∷ z)) ≡ length first
unfolding place_of
first-blank [] z a = refl
first-blank (c ∷ first) z a = rw (ne_eqb c 32 (λ e. omega arith)) (omega (arith, first-blank first z a.1))

-- An answer: its first word, at least one more, and the end of its first line.
abbrev pub answer_of : List ℕ → List ℕ → List (List ℕ) → List ℕ → List ℕ
answer_of first v vs rest = first ++ later (v ∷ vs) rest

begins-later : (first v w : List ℕ) (vs ws : List (List ℕ)) (rest : List ℕ) → Above first → 0 < length w
    → begins_with (joined (spaced (w ∷ ws))) (answer_of first v vs rest) ≡ starts_with (w ++ joined (blanked ws)) (v ++ later vs rest)
unfolding begins_with spaced joined
begins-later first v w vs ws rest a some =
    let full : length (w ++ joined (blanked ws)) ≡ length w + length (joined (blanked ws)) = length-append w (joined (blanked ws)) in
    let long : length (w ++ joined (blanked ws)) ≡ 0 → ⊥ = λ e. omega arith in
    rw (ne_eqb (length (w ++ joined (blanked ws))) 0 long, later-cons v vs rest, first-blank first (v ++ later vs rest) a, drop-append_seam first (32 ∷ (v ++ later vs rest)))

begins-is : (first v w : List ℕ) (vs ws : List (List ℕ)) (rest : List ℕ) → Above first → 0 < length w
    → begins_with (joined (spaced (w ∷ ws))) (answer_of first v vs rest) ≡ starts_with (joined (blanked (w ∷ ws))) (later (v ∷ vs) rest)
begins-is first v w vs ws rest a some = begins-later first v w vs ws rest a some ∙ sym (both_left w v ws vs rest)

-- "the words that its answer begins with": the answer is as expected where its later words begin with those wanted, and only there.
pub begins-exactly : (first v : List ℕ) (vs ws : List (List ℕ)) (rest : List ℕ) → Above first → AllAbove (v ∷ vs) → AllApart ws
    → (begins_with (joined (spaced ws)) (answer_of first v vs rest) ≡ true → take (length ws) (v ∷ vs) ≡ ws)
    × (take (length ws) (v ∷ vs) ≡ ws → begins_with (joined (spaced ws)) (answer_of first v vs rest) ≡ true)
begins-exactly first v vs [] rest a b g = (λ h. refl, λ h. any-answer (answer_of first v vs rest))
begins-exactly first v vs (w ∷ ws) rest a b g =
    let is = begins-is first v w vs ws rest a g.0 in
    (λ h. words-begin (w ∷ ws) (v ∷ vs) rest g b (sym is ∙ h), λ e. is ∙ begin-words (w ∷ ws) (v ∷ vs) rest e)

-- ---- what a line leaves that is not checked alone

-- no test counts a refusal in the place of the check
refusal-apart : (told : Bool) (counts : List ℕ) → get_or (refusal_counted told counts) 14 0 ≡ get_or counts 14 0
unfolding refusal_counted added
refusal-apart true counts = refl
refusal-apart false counts = go (eqb (get_or counts 4 0) (get_or counts 17 0))
  where
    go : (t : Bool) → get_or (cond t counts (set counts 5 (min (get_or counts 5 0 + 1) 18446744073709551615))) 14 0 ≡ get_or counts 14 0
    go true = refl
    go false = get_or-set_other counts 5 14 _ 0 (λ e. omega arith)

-- A line without `=>` keeps its answer as it is.
pub no-mark : (names : List ℕ) (l : Log) → get_or l.counts 14 0 ≡ 0
    → closed [] names l ≡ record { counts = refusal_counted false l.counts; answers = l.answers }
unfolding closed judged_log is_announced
no-mark names l h = rw (refusal-apart false l.counts, h)

-- An answer that is as expected stays as it is, and is counted among the expectations.
pub as-expected : (wanted : List ℕ) (l : Log) → is_announced (wanted ∷ []) l.counts (answer l) ≡ true → judged_log (wanted ∷ []) l ≡ record { counts = added l.counts 7 1; answers = l.answers }
unfolding is_announced judged_log compared
as-expected wanted l = go (eqb (get_or l.counts 6 0) (get_or l.counts 18 0)) (begins_with wanted (answer l))
  where
    go : (t u : Bool) → cond t u false ≡ true
        → cond t (cond u (one_more 7 l) (inserted wanted (one_more 8 (one_more 7 l)))) l ≡ record { counts = added l.counts 7 1; answers = l.answers }
    go true true h = refl
    go true false h = let z : ◌≡◌ {A = ℕ} 0 1 = cc in absurd (omega arith)
    go false u h = let z : ◌≡◌ {A = ℕ} 0 1 = cc in absurd (omega arith)

-- ---- the words expected are those behind `=>`

-- a part of the end is a part of the whole
middle : (l : List ℕ) (e n : ℕ) → e ≤ n → n ≤ length l → take (n - e) (drop e l) ≡ drop e (take n l)
middle l e n h k =
    let whole : drop e l ≡ drop e (take n l) ++ drop n l =
    ap (drop e) (sym (take-append-drop n l)) ∙ drop-append-le e (take n l) (drop n l) (rw length-take (omega arith)) in
    ap (take (n - e)) whole ∙ take_at (drop e (take n l)) (drop n l) (n - e) (rw (length-drop e (take n l), length-take n l) (omega arith))

-- the end of a line has the carriage return that the line has
content-left : (line : List ℕ) (e : ℕ) → e < length line → content_length (drop e line) ≡ content_length line - e
unfolding content_length
content-left line e h =
    let at : e + (length line - e - 1) ≡ length line - 1 = omega arith in
    rw (length-drop e line, get_or-drop e line (length line - e - 1) 0, at) (go (eqb (get_or line (length line - 1) 0) 13))
  where
    go : (t : Bool) → cond t (length line - e - 1) (length line - e) ≡ cond t (length line - 1) (length line) - e
    go true = omega arith
    go false = refl

content-size : (line : List ℕ) → (content_length line ≤ length line) × (length line ≤ content_length line + 1)
unfolding content_length
content-size line = go (eqb (get_or line (length line - 1) 0) 13)
  where
    go : (t : Bool) → (cond t (length line - 1) (length line) ≤ length line) × (length line ≤ cond t (length line - 1) (length line) + 1)
    go true = (omega arith, omega arith)
    go false = (omega arith, omega arith)

content-end : (line : List ℕ) (e : ℕ) → take (content_length (drop e line)) (drop e line) ≡ drop e (take (content_length line) line)
content-end line e = go (dec_le (length line) e)
  where
    go : Dec (length line ≤ e) → take (content_length (drop e line)) (drop e line) ≡ drop e (take (content_length line) line)
    go (yes p) =
        let none : length (take (content_length line) line) ≤ e = rw length-take (omega arith) in
        rw (drop_of_length-le line p, drop_of_length-le (take (content_length line) line) none) (take-nil (content_length []))
    go (no p) =
        let size = content-size line in
        rw (content-left line e (omega arith)) (middle line e (content_length line) (omega arith) size.0)

wanted-end : (line : List ℕ) (e : ℕ) → length line ≤ 1024 → wanted_in (drop e line) ≡ joined (spaced (words (drop e (take (content_length line) line))))
unfolding wanted_in line_words
wanted-end line e h =
    rw (take_all 1024 (drop e line) (rw length-drop (omega arith)), content-end line e)

-- a line that is not too long
short-enough : (line : List ℕ) {ws : List (List ℕ)} → line_expected line ≡ ws ∷ [] → content_length line ≤ 1000
unfolding line_expected
short-enough line {ws} = go (ltb 1000 (content_length line)) refl
  where
    go : (t : Bool) → ltb 1000 (content_length line) ≡ t → cond t [] (words_expected (words (take (content_length line) line))) ≡ ws ∷ [] → content_length line ≤ 1000
    go true e h = let z : ◌≡◌ {A = ℕ} 0 1 = cc in absurd (omega arith)
    go false e h = ltb-false 1000 (content_length line) e

-- What `close` compares the answer with, and puts into it, are the line's words behind `=>`, parted by one blank.
pub wanted-are : (line : List ℕ) (e : ℕ) (ws : List (List ℕ)) → line_expected line ≡ ws ∷ []
    → Expects (line_expected line) (take (content_length line) line) e → 0 < e → wanted_in (drop e line) ≡ joined (spaced ws)
wanted-are line e ws marked says some =
    let same : words (drop e (take (content_length line) line)) ≡ ws = cc (says.some some) in
    let short = short-enough line marked in
    let size = content-size line in
    rw (← same) (wanted-end line e (omega arith))

-- Where the words that a line expects stand is no matter.
pub expected-are : (line : List ℕ) (e : ℕ) → Expects (line_expected line) (take (content_length line) line) e → expected_from line e ≡ expected_of line
unfolding expected_from expected_of
expected-are line e says =
    by_eqb e 0 (λ none t. rw (t, says.none none))
    (λ other t.
    let some : 0 < e = omega arith in
    let marked = says.some some in rw (t, marked, wanted-are line e (words (drop e (take (content_length line) line))) marked says some))

-- A line without `=>` has no place of expected words.
pub unmarked : (line : List ℕ) (e : ℕ) → line_expected line ≡ [] → Expects (line_expected line) (take (content_length line) line) e → e ≡ 0
unmarked line e none says = go (dec_le 1 e)
  where
    go : Dec (1 ≤ e) → e ≡ 0
    go (yes p) = let z : ◌≡◌ {A = ℕ} 0 1 = cc (says.some p) in absurd (omega arith)
    go (no p) = omega arith

-- ---- a line with `=>`, as a whole

-- A line has no line feed.
abbrev pub NoFeed : List ℕ → Type 0
NoFeed [] = Unit
NoFeed (c ∷ cs) = (c ≡ 10 → ⊥) × NoFeed cs

pub feed-take : (n : ℕ) (cs : List ℕ) → NoFeed cs → NoFeed (take n cs)
feed-take zero cs h = tt
feed-take (suc n) [] h = tt
feed-take (suc n) (c ∷ cs) h = (h.0, feed-take n cs h.1)

feed-drop : (n : ℕ) (cs : List ℕ) → NoFeed cs → NoFeed (drop n cs)
feed-drop zero cs h = h
feed-drop (suc n) [] h = tt
feed-drop (suc n) (c ∷ cs) h = feed-drop n cs h.1

no-blank : (c : ℕ) → is_blank c ≡ false → c ≡ 32 → ⊥
unfolding is_blank
no-blank c h e = let z : ◌≡◌ {A = Bool} true false = rw (eq-eqb c 32 e) at h in let y : ◌≡◌ {A = ℕ} 0 1 = cc in omega arith

apart_snoc : (w : List ℕ) (c : ℕ) → Apart w → (c ≡ 32 → ⊥) → (c ≡ 10 → ⊥) → Apart (w ++ (c ∷ []))
apart_snoc [] c a b f = (b, f, tt)
apart_snoc (d ∷ w) c a b f = (a.0, a.1, apart_snoc w c a.2 b f)

ended-apart : (w : List ℕ) (ws : List (List ℕ)) → Apart w → AllApart ws → AllApart (ended w ws)
unfolding ended
ended-apart [] ws a b = b
ended-apart (c ∷ w) ws a b = (omega arith, a, b)

after-apart : (cs w : List ℕ) → NoFeed cs → Apart w → AllApart (words_after w cs)
unfolding words_after
after-apart [] w f a = ended-apart w [] a tt
after-apart (c ∷ cs) w f a = go (is_blank c) refl (after-apart cs [] f.1 tt) (λ b. after-apart cs (w ++ (c ∷ [])) f.1 b)
  where
    go : (t : Bool) → is_blank c ≡ t → AllApart (words_after [] cs) → (Apart (w ++ (c ∷ [])) → AllApart (words_after (w ++ (c ∷ [])) cs))
        → AllApart (cond t (ended w (words_after [] cs)) (words_after (w ++ (c ∷ [])) cs))
    go true e h k = ended-apart w (words_after [] cs) a h
    go false e h k = k (apart_snoc w c a (no-blank c e) f.0)

pub words-apart : (cs : List ℕ) → NoFeed cs → AllApart (words cs)
unfolding words
words-apart cs f = after-apart cs [] f tt

module _ (line : List ℕ) (e : ℕ) (ws : List (List ℕ)) (clean : NoFeed line) (marked : line_expected line ≡ ws ∷ [])
    (says : Expects (line_expected line) (take (content_length line) line) e) (some : 0 < e) where
  expected-apart : AllApart ws
  expected-apart =
      let same : words (drop e (take (content_length line) line)) ≡ ws = cc (says.some some) in
      rw same at (words-apart (drop e (take (content_length line) line)) (feed-drop e (take (content_length line) line) (feed-take (content_length line) line clean)))

  module _ (l : Log) (call : get_or l.counts 6 0 ≡ get_or l.counts 18 0) (first v : List ℕ) (vs : List (List ℕ)) (rest : List ℕ)
      (there : answer l ≡ answer_of first v vs rest) (a : Above first) (b : AllAbove (v ∷ vs)) where
    announced-is : is_announced (expected_from line e) l.counts (answer l) ≡ begins_with (joined (spaced ws)) (answer_of first v vs rest)
    unfolding is_announced expected_from
    announced-is =
        rw (ne_eqb e 0 (λ z. omega arith), eq-eqb (get_or l.counts 6 0) (get_or l.counts 18 0) call, wanted-are line e ws marked says some, there)

    -- A call whose line has `=>` and words ws is answered as expected where the words behind the answer's first begin with ws, and
    -- only there.
    pub announced-exactly : (is_announced (expected_from line e) l.counts (answer l) ≡ true → take (length ws) (v ∷ vs) ≡ ws) × (take (length ws) (v ∷ vs) ≡ ws → is_announced (expected_from line e) l.counts (answer l) ≡ true)
    announced-exactly =
        let exact = begins-exactly first v vs ws rest a b expected-apart in
        (λ h. exact.0 (sym announced-is ∙ h), λ h. announced-is ∙ exact.1 h)

-- ---- the name of an item

-- What a check puts behind an answer is what the line `item` left, where there was room for it.
pub name-kept : (text names : List ℕ) (l : Log) → 4096 + length (joined (line_words text)) ≤ length names → 15 < length l.counts
    → tail (item_named text names l).names (item_named text names l).log.counts ≡ item_name (joined (line_words text))
unfolding item_named said tail overwrite
name-kept text names l room long =
    let t = joined (line_words text) in
    let end = 4096 + length t in
    let front : length (take 4096 names) ≡ 4096 = length-take-le 4096 names (omega arith) in
    let both : length (take 4096 names ++ t) ≡ end = length-append (take 4096 names) t ∙ ap (λ (n : ℕ). n + length t) front in
    rw (
      put-each (line_words text) names 4096 room,
      get_or-set_other (set l.counts 15 end) 0 15 _ 0 (λ e. omega arith),
      get_or-set_same l.counts 15 end 0 long,
      ne_eqb end 0 (λ e. omega arith),
      take_at (take 4096 names ++ t) (drop end names) end both,
      drop_at (take 4096 names) t 4096 front,
    )

-- ---- the answer is what was put since the line was opened

-- Before anything is put, the line's answer is empty.
body-set : (counts : List ℕ) → 20 < length counts → get_or (set counts 20 (get_or counts 0 0)) 20 0 ≡ get_or (set counts 20 (get_or counts 0 0)) 0 0
body-set counts long =
    get_or-set_same counts 20 (get_or counts 0 0) 0 long ∙ sym (get_or-set_other counts 20 0 (get_or counts 0 0) 0 (λ e. omega arith))

counted-length : (counts : List ℕ) → length (line_counted counts) ≡ length counts
unfolding line_counted added
counted-length counts = simp length-set

headed-length : (names : List ℕ) (l : Log) → length (headed names l).counts ≡ length l.counts
unfolding headed said
headed-length names l =
    go (eqb (get_or l.counts 14 0) 0) (set l.counts 19 (trouble l.counts)) (length-set l.counts 19 (trouble l.counts))
  where
    go : (t : Bool) (counts : List ℕ) → length counts ≡ length l.counts → length (cond t l (said (place (take (get_or counts 16 0) names) (get_or counts 2 0)) record { counts = counts; answers = l.answers })).counts ≡ length l.counts
    go true counts h = refl
    go false counts h = length-set counts 0 _ ∙ h

pub begun-empty : (names : List ℕ) (l : Log) → 20 < length l.counts
    → get_or (begun names l).counts 20 0 ≡ get_or (begun names l).counts 0 0
unfolding begun
begun-empty names l long =
    body-set (headed names record { counts = line_counted l.counts; answers = l.answers }).counts
    (rw (headed-length names record { counts = line_counted l.counts; answers = l.answers }, counted-length l.counts) long)

-- Texts that were put behind the answers, from the place on at which the line's own starts, are the line's answer, where they had room.
pub answer-put : (texts : List (List ℕ)) (answers : List ℕ) (at : ℕ) (l : Log) → at + length (joined texts) ≤ length answers
    → get_or l.counts 20 0 ≡ at → get_or l.counts 0 0 ≡ (put_each answers at texts).next → l.answers ≡ (put_each answers at texts).bytes
    → answer l ≡ joined texts
unfolding overwrite
answer-put texts answers at l room body used bytes =
    let t = joined texts in
    let front : length (take at answers) ≡ at = length-take-le at answers (omega arith) in
    let both : length (take at answers ++ t) ≡ at + length t = length-append (take at answers) t ∙ ap (λ (n : ℕ). n + length t) front in
    rw (body, used, bytes, put-each texts answers at room, take_at (take at answers ++ t) (drop (at + length t) answers) (at + length t) both, drop_at (take at answers) t at front)

pub answer-said : (texts : List (List ℕ)) (l : Log) → 20 < length l.counts → get_or l.counts 20 0 ≡ get_or l.counts 0 0
    → get_or l.counts 0 0 + length (joined texts) ≤ length l.answers → answer (said texts l) ≡ joined texts
unfolding said
answer-said texts l long body room =
    answer-put texts l.answers (get_or l.counts 0 0) (said texts l) room
    (get_or-set_other l.counts 0 20 _ 0 (λ e. omega arith) ∙ body) (get_or-set_same l.counts 0 _ 0 (omega arith)) refl

added-length : (counts : List ℕ) (place k : ℕ) → length (added counts place k) ≡ length counts
unfolding added
added-length counts place k = length-set counts place (min (get_or counts place 0 + k) 18446744073709551615)

counted-body : (counts : List ℕ) (refused used : ℕ) → get_or (counted counts refused used) 20 0 ≡ get_or counts 20 0
unfolding counted call_counted added
counted-body counts refused used =
    let calls = min (get_or counts 3 0 + 1) 18446744073709551615 in
    let one = set counts 3 calls in
    let refusals = min (get_or one 4 0 + refused) 18446744073709551615 in
    get_or-set_other (set one 4 refusals) 0 20 used 0 (λ e. omega arith) ∙ get_or-set_other one 4 20 refusals 0 (λ e. omega arith)
    ∙ get_or-set_other counts 3 20 calls 0 (λ e. omega arith)

counted-used : (counts : List ℕ) (refused used : ℕ) → 20 < length counts → get_or (counted counts refused used) 0 0 ≡ used
unfolding counted call_counted
counted-used counts refused used long =
    get_or-set_same (added (added counts 3 1) 4 refused) 0 used 0 (rw (added-length (added counts 3 1) 4 refused, added-length counts 3 1) (omega arith))

pub answer-called : (refused : ℕ) (texts : List (List ℕ)) (l : Log) → 20 < length l.counts → get_or l.counts 20 0 ≡ get_or l.counts 0 0
    → get_or l.counts 0 0 + length (joined texts) ≤ length l.answers → answer (called refused texts l) ≡ joined texts
unfolding called
answer-called refused texts l long body room =
    let end = (put_each l.answers (get_or l.counts 0 0) texts).next in
    answer-put texts l.answers (get_or l.counts 0 0) (called refused texts l) room
    (counted-body l.counts refused end ∙ body) (counted-used l.counts refused end long) refl
