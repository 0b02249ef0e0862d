-- The lines `read` and `expect`, by their words. Assumes nothing.
use Prim.Native.Nat.{ℕ, zero, suc, ◌+◌, ◌*◌, ◌%◌, ◌≤◌, ◌<◌}
use mathlib.Core.List.{List, ◌∷◌, map}
use mathlib.Core.Path.{◌≡◌, refl, sym, ap, ◌∙◌}
use native.Mathlib.Numerals.{add-one}
use native.Mathlib.Omega.{arith}
use lib.ListN.{length, set, take, replicate, length-map}
use lib.Seq.{length-take-le}
use Rattle.numeral.specs.Ascii.{ascii}
use Rattle.device.specs.declared.Model.{Model}
use Rattle.text.specs.Text.{Text, words}
use Rattle.item_line.specs.Line.{Wanted, Line}
use Rattle.item_line.specs.OwnBounds.{Fours, LineBound}
use Rattle.item_line.specs.Reading.{four_digits}
use Rattle.item_answer.specs.declared.Carried.{Carried}
use Rattle.item_answer.specs.declared.Stepped.{Stepped}
use Rattle.item_answer.specs.Words.{words_of, registers}
use Rattle.item_answer.specs.Answer.{read_words}
use Rattle.item_answer.specs.Step.{compared_step, line_step}
use Rattle.item_answer.specs.OwnView.{item_of}
use Rattle.item_chip_code.specs.declared.Exchanged.{Exchanged}
use Rattle.item_chip_code.specs.OwnAnswered.{Exchanges}
use Rattle.item_chip_code.specs.OwnCompared.{Steps, StepsBeside, Compares, ReadsWords}
use Rattle.item_chip_code.proofs.FrameFacts.{zeros, take-replicate}

-- ---- the read

pub read-frame : (a n : ℕ) {frame : List ℕ} → a < 256 → n ≤ 80 → frame ≡ take (2 * n + 1) (set zeros 0 (a % 256)) → frame ≡ a ∷ replicate (2 * n) 0
read-frame a n {frame} low few there =
    let same : a % 256 ≡ a = omega arith in
    let others : List ℕ = replicate 199 0 in
    let rest : take (2 * n) others ≡ replicate (2 * n) 0 = take-replicate (2 * n) 199 0 (omega arith) in
    there ∙ rw (same, add-one (2 * n)) (ap (λ (t : List ℕ). a ∷ t) rest)

pub reads-words : {c : Carried} (a n : ℕ) {flash flash' frame out out' has : List ℕ} {e : Exchanged} → frame ≡ a ∷ replicate (2 * n) 0
    → out ≡ replicate (2 * n) 0xEE → Exchanges c frame out flash e out' flash' → has ≡ words_of out' → length has ≡ n
    → ReadsWords c a n flash e.carried has flash'
unfolding read_words item_of
reads-words {c} a n {flash} {flash'} {frame} {out} {out'} {has} {e} same size x filled long =
    let y : Exchanges c (a ∷ replicate (2 * n) 0) (replicate (2 * n) 0xEE) flash e out' flash' = rw (← size, ← same) x in
    record { long = long; words_are = λ ds es. filled ∙ ap words_of y.output; item = λ ds es. y.item ds es }

-- ---- how many words

pub record WantedFits (a : ℕ) (ws : List Wanted) : Type 0 where
  pub low : 0xB0 ≤ a
  pub high : a + length ws ≤ 256
  pub some : 1 ≤ length ws
  pub fours : Fours ws

pub read_fits : {a : ℕ} {ws : List Wanted} → LineBound (Line.read a ws) → WantedFits a ws
read_fits (LineBound.read low high some fours) = record { low = low; high = high; some = some; fours = fours }

pub expect-fits : {a : ℕ} {ws : List Wanted} → LineBound (Line.expect a ws) → WantedFits a ws
expect-fits (LineBound.expect low high some fours) = record { low = low; high = high; some = some; fours = fours }

abbrev eighty : List ℕ
eighty = replicate 80 0

-- So many words of a part of the line, in a buffer of 80 words.
pub record Sized (a n : ℕ) (wanted t : Text) : Type 0 where
  pub few : n ≤ 80
  pub many : n ≡ length (map four_digits (words t))
  pub counted : n ≡ length (words wanted)
  pub fours : Fours (map four_digits (words wanted))
  pub low : 0xB0 ≤ a
  pub high : a + n ≤ 256
  pub address : a < 256
  pub room : length (take n eighty) ≡ n

pub sized : {a n : ℕ} {wanted t : Text} → WantedFits a (map four_digits (words t)) → wanted ≡ t → n ≡ length (words wanted) → Sized a n wanted t
sized {a} {n} {wanted} {t} f same count =
    let all : length (map four_digits (words t)) ≡ n = rw (length-map, ← same) (sym count) in
    let high = f.high in
    let low = f.low in
    let some = f.some in
    let few : n ≤ 80 = omega (arith, high, low, all) in record {
      few = few;
      many = sym all;
      counted = count;
      fours = rw same f.fours;
      low = f.low;
      high = omega (arith, high, all);
      address = omega (arith, high, some);
      room = length-take-le n eighty few;
    }

-- ---- the lines

pub read-steps : (a : ℕ) (t : Text) {wanted : Text} {n at : ℕ} {c c' : Carried} {flash flash' has l l' : List ℕ} {r : Stepped} → wanted ≡ t
    → n ≡ length (map four_digits (words t)) → ReadsWords c a n flash c' has flash'
    → Compares (ascii "read ") 1 a has (map four_digits (words wanted)) c' l at r l'
    → Steps (line_step 0 (Line.read a (map four_digits (words t)))) c flash l at r flash' l'
unfolding line_step compared_step ascii
read-steps a t {wanted} {n} {at} {c} {c'} {flash} {flash'} {has} {l} {l'} {r} same many x y =
    let x' : ReadsWords c a (length (map four_digits (words t))) flash c' has flash' = rw (← many) x in
    let y' : Compares (ascii "read ") 1 a has (map four_digits (words t)) c' l at r l' = rw (← same) y in record {
      text = λ ds es. rw (← x'.words_are ds es) y'.text;
      item = λ ds es. ap (λ (i : Carried). item_of i flash' ds es) y'.carried ∙ x'.item ds es;
      adds = λ ds es. rw (← x'.words_are ds es) y'.adds;
    }

pub expect-steps : (a : ℕ) (t : Text) {wanted : Text} {n at : ℕ} {c : Carried} {has l l' : List ℕ} {r : Stepped} → wanted ≡ t
    → n ≡ length (map four_digits (words t)) → has ≡ registers c.model a n
    → Compares (ascii "expect ") 0 a has (map four_digits (words wanted)) c l at r l'
    → StepsBeside (line_step 0 (Line.expect a (map four_digits (words t)))) c l at r l'
unfolding line_step compared_step ascii item_of
expect-steps a t {wanted} {n} {at} {c} {has} {l} {l'} {r} same many filled y =
    let all : has ≡ registers c.model a (length (map four_digits (words t))) = rw (← many) filled in
    let y' : Compares (ascii "expect ") 0 a has (map four_digits (words t)) c l at r l' = rw (← same) y in record {
      any = λ flash. record {
        text = λ ds es. rw (← all) y'.text;
        item = λ ds es. rw y'.carried;
        adds = λ ds es. rw (← all) y'.adds;
      };
    }

pub length-registers : (m : Model) (a n : ℕ) → length (registers m a n) ≡ n
unfolding registers
length-registers m a zero = refl
length-registers m a (suc n) = ap suc (length-registers m (a + 1) n)
