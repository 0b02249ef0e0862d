-- What is put together is taken apart again. Assumes nothing.
use Prim.Native.Nat.{ℕ}
use mathlib.Core.Bool.{Bool, true, false}
use mathlib.Core.List.{List, [], ◌∷◌, ◌++◌, append-nil, append_assoc}
use mathlib.Core.Path.{◌≡◌, refl, ◌∙◌, ap}
use lib.Dec.{eqb}
use borrow.Author.Tests.{eq-eqb}
use Rattle.unit.specs.Choice.{either}
use Rattle.numeral.specs.Ascii.{ascii}
use Rattle.text.specs.Text.{Text, ended, ended_each, spaced_each, spaced, begun_before, lines_after, lines, is_blank, words_after, words, fits}

-- every element
pub data Each {A : Type 0} (P : A → Type 0) : List A → Type 0 where
  none : Each P []
  first : {x : A} {xs : List A} → P x → Each P xs → Each P (x ∷ xs)

-- A byte that is no blank and no tab; one that is no line feed.
abbrev pub InWord : ℕ → Type 0
InWord c = is_blank c ≡ false

abbrev pub InLine : ℕ → Type 0
InLine c = eqb c 10 ≡ false

-- A word: some bytes that are no blanks.
pub data Word : Text → Type 0 where
  word : {c : ℕ} {cs : Text} → InWord c → Each InWord cs → Word (c ∷ cs)

-- the bytes of a word go to the one that has begun
word-begun : (b cs rest : Text) → Each InWord cs → words_after b (cs ++ rest) ≡ words_after (b ++ cs) rest
unfolding words_after
word-begun b [] rest none = rw (append-nil b)
word-begun b (c ∷ cs) rest (first h hs) =
    rw h (word-begun (b ++ (c ∷ [])) cs rest hs ∙ ap (λ l. words_after l rest) (append_assoc b (c ∷ []) cs))

-- behind a word stands a blank and the next word, or nothing
words-behind : (w : Text) (ws : List Text) → Word w → Each Word ws → words_after [] (w ++ spaced_each ws) ≡ w ∷ ws
unfolding spaced_each ascii words_after begun_before is_blank
words-behind [] ws none-here _ = elim none-here [ ]
words-behind (c ∷ cs) [] (word h hs) none = word-begun [] (c ∷ cs) [] (first h hs)
words-behind (c ∷ cs) (v ∷ vs) (word h hs) (first g gs) =
    word-begun [] (c ∷ cs) (spaced_each (v ∷ vs)) (first h hs) ∙ ap (λ l. (c ∷ cs) ∷ l) (words-behind v vs g gs)

-- Words parted by one blank are the words of the line that they make.
pub words-spaced : (ws : List Text) → Each Word ws → words (spaced ws) ≡ ws
unfolding words spaced words_after begun_before
words-spaced [] none = refl
words-spaced (w ∷ ws) (first h hs) = words-behind w ws h hs

-- The bytes of a line go to the one that has begun.
pub line-begun : (b cs rest : Text) → Each InLine cs → lines_after b (cs ++ rest) ≡ lines_after (b ++ cs) rest
unfolding lines_after
line-begun b [] rest none = rw (append-nil b)
line-begun b (c ∷ cs) rest (first h hs) =
    rw h (line-begun (b ++ (c ∷ [])) cs rest hs ∙ ap (λ l. lines_after l rest) (append_assoc b (c ∷ []) cs))

-- Lines that have no line feed, each with one behind it, are the lines of the text that they make.
pub lines-ended : (ls : List Text) → Each (Each InLine) ls → lines (ended_each ls) ≡ ls
unfolding lines ended_each ended lines_after begun_before
lines-ended [] none = refl
lines-ended (l ∷ ls) (first h hs) =
    ap (lines_after []) (append_assoc l (10 ∷ []) (ended_each ls))
    ∙ (line-begun [] l (10 ∷ ended_each ls) h ∙ ap (λ t. l ∷ t) (lines-ended ls hs))

either_true : (b : Bool) → either b true ≡ true
either_true true = refl
either_true false = refl

-- A text that is wanted fits itself.
pub fits-itself : (t : Text) → fits t t ≡ true
unfolding fits
fits-itself [] = refl
fits-itself (c ∷ cs) = rw (eq-eqb c c refl, either_true (eqb c 0x78), fits-itself cs)
