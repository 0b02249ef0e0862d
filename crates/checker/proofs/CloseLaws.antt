-- What the definitions of `Close` come to, place by place. Assumes nothing.
use Prim.Native.Nat.{ℕ, ◌+◌, ◌-◌, ◌≤◌, ◌<◌}
use mathlib.Core.Path.{◌≡◌, refl, sym, ap, ◌∙◌}
use mathlib.Core.Bool.{Bool, true, false, cond}
use mathlib.Core.List.{List, [], ◌∷◌, ◌++◌, append_assoc}
use native.Mathlib.Decide.{dec_le}
use native.Mathlib.Numerals.{add-one}
use native.Mathlib.Omega.{arith}
use lib.Dec.{leb, eqb}
use lib.ListN.{length, get_or, set, take, drop, length-append, length-take, drop_of_length-le}
use lib.Seq.{drop-cons, drop-drop, take_at, drop_at, take-append-le, take-take, length-take-le}
use borrow.Rule.Slice.PartMut.{put_mid, Post-is}
use Rattle.std.proofs.lemmas.List.{drop-take}
use Rattle.std.specs.Cmp.Lexicographic.{pointwise}
use Rattle.unit.proofs.Cases.{by_eqb}
use borrow.Author.Tests.{eq-eqb, ne_eqb, le-leb, lt-leb}
use Rattle.numeral.specs.Place.{no_room, overwrite, next_place, written, Placed, put_each, joined}
use Rattle.numeral.proofs.PlaceLaws.{length-overwrite, put-each}
use Rattle.line.specs.Words.{is_blank, ended, words_after, words}
use Rattle.line.specs.Line.{content_length}
use Rattle.line.specs.Spaced.{blanked, spaced}
use Rattle.numeral.specs.Ascii.{ascii}
use Rattle.wording.specs.Text.{PutEach}
use Rattle.wording.specs.Wording.{expected}
use Rattle.item_state.specs.Log.{Log, said}
use Rattle.item_checks.specs.Close.{line_words, place_of, first_end, starts_with, wanted_in, within, inserted}

-- ---- the place of a byte

module _ (c : ℕ) (bytes : List ℕ) (i : ℕ) where
  pub place_here : i < length bytes → get_or bytes i 0 ≡ c → place_of c (drop i bytes) ≡ 0
  unfolding place_of
  place_here h e = rw (drop-cons bytes i 0 h, eq-eqb (get_or bytes i 0) c e)

  pub place-later : i < length bytes → (get_or bytes i 0 ≡ c → ⊥) → place_of c (drop i bytes) ≡ place_of c (drop (i + 1) bytes) + 1
  unfolding place_of
  place-later h e = rw (add-one i, drop-cons bytes i 0 h, ne_eqb (get_or bytes i 0) c e)

  pub place_none : length bytes ≤ i → place_of c (drop i bytes) ≡ 0
  unfolding place_of
  place_none h = rw (drop_of_length-le bytes h)

-- ---- the words wanted, and what stands behind them

starts-is : (wanted bytes : List ℕ)
    → starts_with wanted bytes ≡ cond (pointwise eqb wanted (take (length wanted) bytes)) (starts_with [] (drop (length wanted) bytes)) false
unfolding starts_with
starts-is [] bytes = refl
starts-is (w ∷ ws) [] = refl
starts-is (w ∷ ws) (c ∷ cs) = by_eqb c w
    (λ same e. rw (e, eq-eqb w c (sym same)) (starts-is ws cs))
    (λ other e. rw (e, ne_eqb w c (λ same. other (sym same))))

module _ (wanted bytes : List ℕ) where
  pub starts-not : pointwise eqb wanted (take (length wanted) bytes) ≡ false → starts_with wanted bytes ≡ false
  starts-not e = rw (starts-is wanted bytes, e)

  pub starts-all : pointwise eqb wanted (take (length wanted) bytes) ≡ true → length bytes ≤ length wanted → starts_with wanted bytes ≡ true
  unfolding starts_with
  starts-all e h = rw (starts-is wanted bytes, e, drop_of_length-le bytes h)

  pub starts-stops : pointwise eqb wanted (take (length wanted) bytes) ≡ true → length wanted < length bytes
      → starts_with wanted bytes ≡ leb (get_or bytes (length wanted) 0) 32
  unfolding starts_with
  starts-stops e h = rw (starts-is wanted bytes, e, drop-cons bytes (length wanted) 0 h)

-- ---- two neighbouring parts exchanged

-- two neighbouring parts exchanged
abbrev pub exchanged : ℕ → ℕ → ℕ → List ℕ → List ℕ
exchanged first middle last l = take first l ++ (drop middle (take last l) ++ (drop first (take middle l) ++ drop last l))

-- What lies from one place to another, counted from the first.
part : (a b : ℕ) (l : List ℕ) → a ≤ b → take (b - a) (drop a l) ≡ drop a (take b l)
part a b l h = let e : a + (b - a) ≡ b = omega arith in sym (drop-take a (b - a) l) ∙ ap (λ (n : ℕ). drop a (take n l)) e

-- A part whose two halves were exchanged, put back.
pub exchanged-rotated : (l turned : List ℕ) (first middle last : ℕ) → first ≤ middle → middle ≤ last
    → turned ≡ drop (middle - first) (take (last - first) (drop first l)) ++ take (middle - first) (take (last - first) (drop first l))
    → put_mid first (last - first) l turned ≡ exchanged first middle last l
exchanged-rotated l turned first middle last h k e =
    let on : first + (middle - first) ≡ middle = omega arith in
    let back : drop (middle - first) (take (last - first) (drop first l)) ≡ drop middle (take last l) =
    ap (drop (middle - first)) (part first last l (omega arith)) ∙ drop-drop (middle - first) first (take last l) ∙ ap (λ (n : ℕ). drop n (take last l)) on in
    let front : take (middle - first) (take (last - first) (drop first l)) ≡ drop first (take middle l) =
    take-take (middle - first) (last - first) (drop first l) (omega arith) ∙ part first middle l h in
    rw (e, back, front, Post-is first last l (omega arith)) (ap (λ (m : List ℕ). take first l ++ m) (append_assoc (drop middle (take last l)) (drop first (take middle l)) (drop last l)))

-- ---- the words wanted fit their buffer

-- Words, with one blank before each, are longer by one byte at most than the bytes that they stand in.
ended-length : (w : List ℕ) (ws : List (List ℕ)) → length (joined (blanked (ended w ws))) ≤ length w + 1 + length (joined (blanked ws))
unfolding ended blanked joined
ended-length [] ws = omega arith
ended-length (c ∷ w) ws = omega (arith, length-append w (joined (blanked ws)))

blanked-none : length (joined (blanked [])) ≡ 0
unfolding blanked joined
blanked-none = refl

after-length : (cs w : List ℕ) → length (joined (blanked (words_after w cs))) ≤ length w + length cs + 1
unfolding words_after
after-length [] w = omega (arith, ended-length w [], blanked-none)
after-length (c ∷ cs) w = go (is_blank c) (after-length cs []) (after-length cs (w ++ (c ∷ [])))
  where
    go : (t : Bool) → length (joined (blanked (words_after [] cs))) ≤ 0 + length cs + 1
        → length (joined (blanked (words_after (w ++ (c ∷ [])) cs))) ≤ length (w ++ (c ∷ [])) + length cs + 1
        → length (joined (blanked (cond t (ended w (words_after [] cs)) (words_after (w ++ (c ∷ [])) cs)))) ≤ length w + length (c ∷ cs) + 1
    go true h k = omega (arith, ended-length w (words_after [] cs))
    go false h k = omega (arith, length-append w (c ∷ []))

spaced-length : (ws : List (List ℕ)) (n : ℕ) → length (joined (blanked ws)) ≤ n + 1 → length (joined (spaced ws)) ≤ n
unfolding spaced blanked joined
spaced-length [] n h = omega arith
spaced-length (w ∷ ws) n h = omega arith

words-length : (cs : List ℕ) → length (joined (spaced (words cs))) ≤ length cs
unfolding words
words-length cs = spaced-length (words_after [] cs) (length cs) (omega (arith, after-length cs []))

line-length : (text : List ℕ) → length (joined (line_words text)) ≤ length text
unfolding line_words
line-length text = omega (arith, words-length (take (content_length text) text), length-take (content_length text) text)

-- What is put into an empty buffer of 1,024 places.
pub wanted-put : (text empty : List ℕ) {n : ℕ} {bytes : List ℕ} → length empty ≡ 1024
    → ◌≡◌ {A = Placed} (record { next = n; bytes = bytes }) (put_each empty 0 (line_words (take 1024 text))) → take n bytes ≡ wanted_in text
unfolding wanted_in overwrite
wanted-put text empty {n} {bytes} long e =
    let t = joined (line_words (take 1024 text)) in
    let fits : 0 + length t ≤ length empty = omega (arith, line-length (take 1024 text), length-take 1024 text) in
    let there = e ∙ put-each (line_words (take 1024 text)) empty 0 fits in
    let next : n ≡ 0 + length t = ap (λ (p : Placed). p.next) there in
    let put : bytes ≡ overwrite empty 0 t = ap (λ (p : Placed). p.bytes) there in
    rw (next, put) (take_at t (drop (0 + length t) empty) (0 + length t) (omega arith))

-- ---- what was expected, behind the answer's first line

-- Two texts whose end lies in the buffer had room.
second-room : (l b : List ℕ) (n : ℕ) → length l < no_room → next_place l n b ≤ length l → n + length b ≤ length l
unfolding next_place
second-room l b n small = go (dec_le (n + length b) (length l))
  where
    go : Dec (n + length b ≤ length l) → cond (leb (n + length b) (length l)) (n + length b) no_room ≤ length l → n + length b ≤ length l
    go (yes p) = λ h. p
    go (no p) = let more : length l < n + length b = omega arith in rw (lt-leb (n + length b) (length l) more) (λ h. absurd (omega arith))

first-room : (l a b : List ℕ) (at : ℕ) → length l < no_room → next_place (written l at a) (next_place l at a) b ≤ length l
    → at + (length a + length b) ≤ length l
unfolding next_place written
first-room l a b at small = go (dec_le (at + length a) (length l))
  where
    go : Dec (at + length a ≤ length l) → next_place (cond (leb (at + length a) (length l)) (overwrite l at a) l) (cond (leb (at + length a) (length l)) (at + length a) no_room) b ≤ length l
        → at + (length a + length b) ≤ length l
    go (yes p) =
        let same = length-overwrite l at a p in
        rw (le-leb (at + length a) (length l) p) (λ h. omega (arith, same, second-room (overwrite l at a) b (at + length a) (omega (arith, same)) (omega (arith, same, h))))
    go (no p) =
        let more : length l < at + length a = omega arith in
        rw (lt-leb (at + length a) (length l) more) (λ h. let room = second-room l b no_room small h in absurd (omega arith))

pub had-room : (words : List ℕ) (l : List ℕ) (at : ℕ) → length l < no_room → (put_each l at (expected words)).next ≤ length l
    → at + length (joined (expected words)) ≤ length l
unfolding put_each expected joined
had-room words l at small h =
    omega (arith, first-room l (ascii " expected ") words at small h, length-append (ascii " expected ") (words ++ []), length-append words [])

pub first-early : (l : Log) → first_end l ≤ get_or l.counts 0 0
unfolding first_end
first-early l = omega arith

module _ (wanted : List ℕ) (l : Log) where
  abbrev used : ℕ
  used = get_or l.counts 0 0

  abbrev told : List ℕ
  told = joined (expected wanted)

  pub expected-next : used + length told ≤ length l.answers → (put_each l.answers used (expected wanted)).next ≡ used + length told
  expected-next h = ap (λ (p : Placed). p.next) (put-each (expected wanted) l.answers used h)

  -- There was no room.
  pub inserted-none : length l.answers < (put_each l.answers used (expected wanted)).next → said (expected wanted) l ≡ inserted wanted l
  unfolding inserted
  inserted-none h = go (dec_le (used + length told) (length l.answers))
    where
      go : Dec (used + length told ≤ length l.answers) → said (expected wanted) l ≡ cond (leb (used + length told) (length l.answers)) record { counts = set l.counts 0 (used + length told); answers = within told l } (said (expected wanted) l)
      go (yes p) = absurd (omega (arith, h, expected-next p))
      go (no p) = let more : length l.answers < used + length told = omega arith in rw (lt-leb (used + length told) (length l.answers) more)

  -- There was, and the two parts are exchanged.
  within-exchanged : used + length told ≤ length l.answers
      → exchanged (first_end l) used (used + length told) (overwrite l.answers used told) ≡ within told l
  unfolding overwrite within
  within-exchanged room =
      let a = take used l.answers in
      let c = drop (used + length told) l.answers in
      let la : length a ≡ used = length-take-le used l.answers (omega arith) in
      let whole : (a ++ told) ++ c ≡ a ++ (told ++ c) = append_assoc a told c in
      let lab : length (a ++ told) ≡ used + length told = length-append a told ∙ ap (λ (n : ℕ). n + length told) la in
      let head : take (first_end l) ((a ++ told) ++ c) ≡ take (first_end l) l.answers =
      ap (take (first_end l)) whole ∙ take-append-le (first_end l) a (told ++ c) (omega (arith, la, first-early l)) ∙ take-take (first_end l) used l.answers (first-early l) in
      let middle : take used ((a ++ told) ++ c) ≡ a = ap (take used) whole ∙ take_at a (told ++ c) used la in
      rw (head, take_at (a ++ told) c (used + length told) lab, drop_at a told used la, middle, drop_at (a ++ told) c (used + length told) lab)

  pub inserted-done : length l.answers < no_room → (put_each l.answers used (expected wanted)).next ≤ length l.answers
      → ◌≡◌ {A = Log} record {
        counts = set l.counts 0 (put_each l.answers used (expected wanted)).next;
        answers = exchanged (first_end l) used (put_each l.answers used (expected wanted)).next (put_each l.answers used (expected wanted)).bytes;
      } (inserted wanted l)
  unfolding inserted
  inserted-done small h =
      let room = had-room wanted l.answers used small h in
      rw (put-each (expected wanted) l.answers used room, le-leb (used + length told) (length l.answers) room, within-exchanged room)

-- The same for what a function leaves that put the text behind the answers.
module _ (wanted counts answers : List ℕ) {last : ℕ} {bytes : List ℕ} (put : PutEach answers (get_or counts 0 0) (expected wanted) last bytes)
    (same : length bytes ≡ length answers) where
  abbrev before : Log
  before = record { counts = counts; answers = answers }

  pub inserted-short : length bytes < last → ◌≡◌ {A = Log} record { counts = set counts 0 last; answers = bytes } (inserted wanted before)
  unfolding said
  inserted-short h =
      let past : length answers < (put_each answers (get_or counts 0 0) (expected wanted)).next = omega (arith, put.next) in
      rw (put.next, put.bytes) (inserted-none wanted before past)

  module _ (small : length answers < no_room) (h : last ≤ length bytes) where
    ends : (put_each answers (get_or counts 0 0) (expected wanted)).next ≤ length answers
    ends = omega (arith, put.next)

    pub in_order : get_or counts 0 0 ≤ last
    in_order =
        let room = had-room wanted answers (get_or counts 0 0) small ends in
        omega (arith, put.next, expected-next wanted before room)

    pub inserted-long : {turned : List ℕ} → turned ≡ exchanged (first_end before) (get_or counts 0 0) last bytes
        → ◌≡◌ {A = Log} record { counts = set counts 0 last; answers = turned } (inserted wanted before)
    inserted-long e = rw (e, put.next, put.bytes) (inserted-done wanted before small ends)
