-- What the words that are wanted come to. Assumes nothing.
use Rattle.std.specs.Prelude.{Result, Ok, Err}
use Prim.Native.Nat.{ℕ, suc, ◌+◌, ◌-◌, ◌≤◌, ◌<◌}
use mathlib.Core.Path.{◌≡◌, refl, sym, ap, ◌∙◌}
use mathlib.Core.Bool.{Bool, true, false, not, ◌&&◌}
use Rattle.std.specs.List.{list_all}
use mathlib.Core.List.{List, [], ◌∷◌, ◌++◌, map, append-nil, append_assoc}
use native.Mathlib.Omega.{arith}
use lib.ListN.{length, take, length-append}
use lib.Seq.{take_all, take-append_seam, take-append-add}
use lib.Dec.{ltb}
use Rattle.unit.specs.Choice.{pick, both, negate}
use Rattle.unit.proofs.Cases.{by-ltb}
use Rattle.text.specs.declared.Span.{Span}
use Rattle.text.specs.Text.{Text, words}
use Rattle.text.specs.OwnPart.{part}
use Rattle.item_line.specs.Line.{Fault, Wanted, Line}
use Rattle.item_line.specs.Reading.{Got, got, wrong, is_digit, are_digits, four_digits, is_wanted, wanted, onto, each, addressed, wanted_line}
use Rattle.item_line.specs.declared.FaultRead.{FaultRead}
use Rattle.item_line.specs.OwnRead.{as_fault}
use Rattle.item_line_code.specs.OwnReads.{wanted_by, wanted_up_to, address_line}
use Rattle.item_line_code.proofs.ReadLaws.{counted-fits, counted-few, counted-many}
use Rattle.item_line_code.proofs.CallLaws.{address-fault, address-rest}

pub all-digits : (s : Text) → list_all is_digit s ≡ are_digits s
unfolding are_digits
all-digits [] = refl
all-digits (c ∷ cs) = go (is_digit c) (all-digits cs)
  where
    go : (t : Bool) → list_all is_digit cs ≡ are_digits cs → (t && list_all is_digit cs) ≡ both t (are_digits cs)
    go true e = e
    go false e = refl

pub not_negate : (t : Bool) → not t ≡ negate t
not_negate true = refl
not_negate false = refl

-- ---- words that are judged one after the other

abbrev prefix : List Wanted → Got (List Wanted) → Got (List Wanted)
prefix ns (got ms) = got (ns ++ ms)
prefix ns (wrong w) = wrong w

-- The words `all` are some that are wanted, c of them, and then `left`.
pub record Judged (most : ℕ) (all left : List Text) (c : ℕ) : Type 0 where
  pub front : List Text
  pub whole : all ≡ front ++ left
  pub many : length front ≡ c
  pub fits : c ≤ most
  pub good : (rest : List Text) → each wanted (front ++ rest) ≡ prefix (map four_digits front) (each wanted rest)

prefix-none : (g : Got (List Wanted)) → g ≡ prefix [] g
prefix-none (got ms) = refl
prefix-none (wrong w) = refl

prefix-onto : (ns : List Wanted) (v : Wanted) (g : Got (List Wanted)) → prefix ns (onto v g) ≡ prefix (ns ++ (v ∷ [])) g
prefix-onto ns v (got ms) = ap got (sym (append_assoc ns (v ∷ []) ms))
prefix-onto ns v (wrong w) = refl

map_snoc : (ws : List Text) (w : Text) → map four_digits ws ++ (four_digits w ∷ []) ≡ map four_digits (ws ++ (w ∷ []))
map_snoc [] w = refl
map_snoc (v ∷ ws) w = ap (λ (l : List Wanted). four_digits v ∷ l) (map_snoc ws w)

pub judged-first : (most : ℕ) (ws : List Text) → Judged most ws ws 0
judged-first most ws = record { front = []; whole = refl; many = refl; fits = omega arith; good = λ rest. prefix-none (each wanted rest) }

module _ (most : ℕ) (all : List Text) {left : List Text} {c : ℕ} (j : Judged most all left c) where
  module _ {w : Text} {rest : List Text} (e : left ≡ w ∷ rest) where
    pub judged-next : c < most → is_wanted w ≡ true → Judged most all rest (c + 1)
    unfolding each wanted
    judged-next less t = record {
      front = j.front ++ (w ∷ []);
      whole = j.whole ∙ rw e (sym (append_assoc j.front (w ∷ []) rest));
      many = length-append j.front (w ∷ []) ∙ rw j.many;
      fits = omega arith;
      good = λ more. ap (each wanted) (append_assoc j.front (w ∷ []) more) ∙ j.good (w ∷ more)
          ∙ rw t (prefix-onto (map four_digits j.front) (four_digits w) (each wanted more) ∙ ap (λ (l : List Wanted). prefix l (each wanted more)) (map_snoc j.front w));
    }

    wrong-at : (k : ℕ) → most ≡ length j.front + suc k → is_wanted w ≡ false → (line : List Wanted → Line)
        → Line.bad (Fault.bad_number w) ≡ wanted_up_to most all line
    unfolding each wanted
    wrong-at k sum t line =
        let some : take most all ≡ j.front ++ (w ∷ take k rest) = rw (j.whole, e, sum) (take-append-add j.front (w ∷ rest) (suc k)) in
        rw (some, j.good (w ∷ take k rest), t)

    pub judged-wrong : c < most → is_wanted w ≡ false → (line : List Wanted → Line)
        → Line.bad (Fault.bad_number w) ≡ wanted_up_to most all line
    judged-wrong less t line = wrong-at (most - c - 1) (omega (arith, j.many)) t line

    pub judged-many : most ≤ c → (line : List Wanted → Line)
        → Line.bad Fault.wrong_count ≡ wanted_up_to most all line
    unfolding each
    judged-many full line =
        let exact : most ≡ length j.front = omega (arith, j.many, j.fits) in
        let long : length all ≡ c + suc (length rest) = ap length j.whole ∙ length-append j.front left ∙ rw (j.many, e) in
        let some : take most all ≡ j.front ++ [] = rw (j.whole, exact) (take-append_seam j.front left ∙ sym (append-nil j.front)) in
        rw (some, j.good []) (counted-many 1 most all (line (map four_digits j.front ++ [])) (omega arith))

  pub judged-all : (text : Text) → left ≡ [] → (line : List Wanted → Line) (r : Result ℕ FaultRead)
      → r ≡ pick (ltb c 1) (Err FaultRead.WrongCount) (Ok c)
      → wanted_by text all line r ≡ wanted_up_to most all line
  unfolding each wanted_by as_fault
  judged-all text none line r e =
      let whole : all ≡ j.front = j.whole ∙ rw none (append-nil j.front) in
      let long : length all ≡ c = rw whole j.many in
      let reads : each wanted (take most all) ≡ got (map four_digits all) =
      rw (take_all most all (rw long j.fits), whole) (ap (each wanted) (sym (append-nil j.front)) ∙ j.good [] ∙ ap got (append-nil (map four_digits j.front))) in
      by-ltb c 1 (λ h t. rw (e, t, reads) (counted-few 1 most all _ (rw long h)))
      (λ h t. rw (e, t, reads) (counted-fits 1 most all _ (rw long h) (rw long j.fits)))

-- A line of an address and such words, by what was read of it.
module _ (text : Text) (r : Result (ℕ × Span) FaultRead) (ws : List Text) (e : (line : ℕ → List Text → Line) → address_line text line r ≡ addressed 0xB0 0xFF line ws)
    (line : ℕ → List Wanted → Line) where
  abbrev after : ℕ → List Text → Line
  after a vs = wanted_up_to (256 - a) vs (line a)

  pub no_address : {f : FaultRead} → r ≡ Err f → Line.bad (as_fault text f) ≡ wanted_line line ws
  unfolding wanted_line
  no_address h = address-fault text r after (e after) h

  module _ {a : ℕ} {rest : Span} (h : r ≡ Ok (a, rest)) {most : ℕ} (m : most ≡ 256 - a) (k : Result ℕ FaultRead)
      (judged : (to : List Wanted → Line) → wanted_by text (words (part text rest)) to k ≡ wanted_up_to most (words (part text rest)) to) where
    from-address : wanted_by text (words (part text rest)) (line a) k ≡ wanted_line line ws
    unfolding wanted_line
    from-address = judged (line a) ∙ rw m (address-rest text r after (e after) h)

    pub words-fault : {f : FaultRead} → k ≡ Err f → Line.bad (as_fault text f) ≡ wanted_line line ws
    unfolding wanted_by
    words-fault i = rw i at from-address

    pub words_count : {n : ℕ} → k ≡ Ok n → line a (map four_digits (words (part text rest))) ≡ wanted_line line ws
    unfolding wanted_by
    words_count i = rw i at from-address
