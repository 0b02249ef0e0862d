-- What is read of a part gives the line that its words give. Assumes nothing.
use Prim.Native.Nat.{ℕ, ◌-◌, ◌≤◌, ◌<◌}
use mathlib.Core.Path.{◌≡◌, refl, sym, ap}
use mathlib.Core.Bool.{Bool, true, false}
use mathlib.Core.List.{List, [], ◌∷◌}
use native.Mathlib.Omega.{arith}
use lib.Dec.{leb}
use lib.ListN.{length, take, length-take, length-drop}
use borrow.Author.Tests.{le-leb, lt-leb}
use Rattle.unit.specs.Choice.{pick, both}
use Rattle.numeral.specs.Read.{read_hex}
use Rattle.text.specs.declared.Span.{Span}
use Rattle.text.specs.Text.{Text, begun_before, words_after, words}
use Rattle.text.specs.OwnPart.{part}
use Rattle.text_code.specs.OwnWords.{between}
use Rattle.text_code.proofs.WordLaws.{words-half}
use Rattle.item_line.specs.Line.{Fault, Line}
use Rattle.item_line.specs.Reading.{got, each, with, counted, hex, one, address, addressed}
use Rattle.item_line_code.specs.declared.Form.{Form}
use Rattle.item_line_code.specs.declared.Tally.{Tally}
use Rattle.item_line_code.specs.OwnNumbers.{number_in, formed, as_tally, bad, Outcome, tallied, EndsBy}
use Rattle.item_line_code.specs.OwnParts.{Within}
use Rattle.item_line_code.proofs.PartLaws.{inner}
use Rattle.item_line_code.proofs.ListLaws.{list-got, list_counts}
use Rattle.std.specs.Prelude.{Option, Some, None, Result, Err}
use Rattle.std.specs.Option.{ok_or}
use Rattle.item_line.specs.declared.FaultRead.{FaultRead}

-- A part has at most 500 words.
pub few_words : (text : Text) (rest : Span) → Within text rest → length (words (part text rest)) ≤ 500
unfolding part
few_words text rest w =
    let long : length (part text rest) ≤ 1000 = rw (length-take, length-drop) (omega (arith, w.short)) in
    omega (arith, words-half (part text rest))

-- A part that has no bytes has no words.
pub no_words : (text : Text) (i e : ℕ) → e ≤ i → words (between i e text) ≡ []
unfolding words words_after begun_before
no_words text i e h = let none : e - i ≡ 0 = omega arith in rw none

-- A word that is named in the first bytes stands there in all.
pub tally-part : (text : Text) (e : ℕ) (t : Tally) → e ≤ length text → EndsBy e t → as_tally text t ≡ as_tally (take e text) t
unfolding as_tally EndsBy part
tally-part text e (Tally.All n k u) high ends = refl
tally-part text e (Tally.Wrong w) high ends = ap bad (sym (inner w.start w.end e text ends))

-- ---- counted words

pub counted_none : {A : Type 0} (ws : List A) (line : Line) → ws ≡ [] → line ≡ counted 0 0 ws line
unfolding counted
counted_none ws line e = rw e

module _ {A : Type 0} (least most : ℕ) (ws : List A) (line : Line) where
  pub counted-fits : least ≤ length ws → length ws ≤ most → line ≡ counted least most ws line
  unfolding counted
  counted-fits h k = rw (le-leb _ _ h, le-leb _ _ k)

  pub counted-few : length ws < least → Line.bad Fault.wrong_count ≡ counted least most ws line
  unfolding counted
  counted-few h = rw (lt-leb _ _ h)

  pub counted-many : most < length ws → Line.bad Fault.wrong_count ≡ counted least most ws line
  unfolding counted
  counted-many h = rw (lt-leb _ _ h) (never (leb least (length ws)))
    where
      never : (t : Bool) → Line.bad Fault.wrong_count ≡ pick (both t false) line (Line.bad Fault.wrong_count)
      never true = refl
      never false = refl

pub counted-some : {A : Type 0} {w : A} {ws rest : List A} (line : Line) → ws ≡ w ∷ rest → Line.bad Fault.wrong_count ≡ counted 0 0 ws line
counted-some {ws = ws} line e = counted-many 0 0 ws line (rw e (omega arith))

-- ---- stored numbers

module _ (f : Form) (plain : f.slash ≡ false) (text : Text) (ws : List Text) (l : List ℕ) {l' : List ℕ} (room : length ws ≤ length l) (t : Tally)
    (e : ◌≡◌ {A = Outcome} (record { tally = as_tally text t; numbers = l' }) (tallied f 0 0 0 l ws)) (least most : ℕ) (line : List ℕ → Line) where
  abbrev Read : Line
  Read = with (each (formed f) ws) (λ ns. counted least most ws (line ns))

  pub count-wrong : {w : Span} → t ≡ Tally.Wrong w → Line.bad (Fault.bad_number (part text w)) ≡ Read
  unfolding as_tally
  count-wrong h = let g = rw h at (list-got f plain ws l room e) in rw (← g)

  module _ {n k u : ℕ} (h : t ≡ Tally.All n k u) where
    many-words : n ≡ length ws
    unfolding as_tally
    many-words = rw h at (list_counts f plain ws l room e)

    numbers-are : each (formed f) ws ≡ got (take n l')
    unfolding as_tally
    numbers-are = sym (rw h at (list-got f plain ws l room e))

    pub count_fits : least ≤ n → n ≤ most → line (take n l') ≡ Read
    count_fits a b = rw numbers-are (counted-fits least most ws (line (take n l')) (rw (← many-words) a) (rw (← many-words) b))

    pub count-few : n < least → Line.bad Fault.wrong_count ≡ Read
    count-few a = rw numbers-are (counted-few least most ws (line (take n l')) (rw (← many-words) a))

    pub count-many : most < n → Line.bad Fault.wrong_count ≡ Read
    count-many a = rw numbers-are (counted-many least most ws (line (take n l')) (rw (← many-words) a))

-- ---- a number, and an address

module _ (f : Form) (line : ℕ → Line) {w : Text} {ws rest : List Text} where
  pub one-wrong : ws ≡ w ∷ rest → number_in f w ≡ None → Line.bad (Fault.bad_number w) ≡ one (formed f) line ws
  unfolding one formed
  one-wrong e b = rw (e, b)

  pub one_value : ws ≡ w ∷ rest → {v : ℕ} → number_in f w ≡ Some v → counted 0 0 rest (line v) ≡ one (formed f) line ws
  unfolding one formed
  one_value e b = rw (e, b)

pub one_none : (f : Form) (line : ℕ → Line) {ws : List Text} → ws ≡ [] → Line.bad Fault.wrong_count ≡ one (formed f) line ws
unfolding one
one_none f line e = rw e

module _ (low high : ℕ) (line : ℕ → List Text → Line) {w : Text} {ws rest : List Text} (e : ws ≡ w ∷ rest) where
  pub address-wrong : read_hex 2 2 w ≡ None → Line.bad (Fault.bad_number w) ≡ addressed low high line ws
  unfolding addressed address hex
  address-wrong b = rw (e, b)

  module _ {a : ℕ} (b : read_hex 2 2 w ≡ Some a) where
    pub address-low : a < low → Line.bad (Fault.bad_number w) ≡ addressed low high line ws
    unfolding addressed address hex
    address-low h = rw (e, b, lt-leb low a h)

    pub address-high : low ≤ a → high < a → Line.bad (Fault.bad_number w) ≡ addressed low high line ws
    unfolding addressed address hex
    address-high k h = rw (e, b, le-leb low a k, lt-leb a high h)

    pub address-fits : low ≤ a → a ≤ high → line a rest ≡ addressed low high line ws
    unfolding addressed address hex
    address-fits k h = rw (e, b, le-leb low a k, le-leb a high h)

pub address-none : (low high : ℕ) (line : ℕ → List Text → Line) {ws : List Text} → ws ≡ [] → Line.bad Fault.wrong_count ≡ addressed low high line ws
unfolding addressed
address-none low high line e = rw e

-- The fault that stands for a number that is missing.
pub wrong-of : (o : Option ℕ) (e f : FaultRead) → ◌≡◌ {A = Result ℕ FaultRead} (Err f) (ok_or o e) → f ≡ e
wrong-of None e f h = cc
wrong-of (Some v) e f h = cc
