-- Rows by the forms that put them. Assumes nothing.
use Prim.Native.Nat.{ℕ, suc, ◌+◌, ◌/◌, ◌%◌, ◌<◌}
use Prim.Native.String.{String}
use mathlib.Core.Bool.{Bool, true, false}
use mathlib.Core.List.{List, [], ◌∷◌, ◌++◌, append_assoc, append-nil}
use mathlib.Core.Path.{◌≡◌, refl, sym, ◌∙◌}
use native.Mathlib.Omega.{arith}
use lib.Dec.{eqb, ltb}
use lib.ListN.{length, length-append}
use borrow.Author.Tests.{ne_eqb}
use Rattle.unit.specs.Choice.{pick}
use Rattle.unit.proofs.Cases.{by_eqb}
use Rattle.numeral.specs.Ascii.{ascii}
use Rattle.numeral.specs.Digit.{digits}
use Rattle.numeral.specs.Print.{decimal}
use Rattle.text.specs.Text.{Text, ended, ended_each, spaced_each, spaced, text_where}
use Rattle.text.specs.OwnPut.{Puts}
use Rattle.text.proofs.Putting.{puts_then}
use denote.Enum.Declared.{tag_of}
use types.Run.{OneOf, miss}
use Rattle.device.specs.contracts.Answer.{the_type}
use Rattle.device.specs.Reply.{number_in}
use Rattle.device.specs.declared.Answer.TheVariants.{Refused, Accepted, Ticked, Stretched, Good, Failed}
use Rattle.device.specs.declared.Answer.{Answer}
use Rattle.device.specs.declared.Model.{Model}
use Rattle.device.specs.declared.Schedule.{Schedule}
use Rattle.device.specs.Event.{in_event}
use Rattle.item_page.specs.Page.{wait_text, next_text, answer_text}
use Rattle.item_page.specs.Row.{register_row, pair_row, plural, name_where, names_or}
use Rattle.item_page_form.specs.OwnForm.{pair_then, plural_then}

-- A text that begins with another, before the rest.
pub record Begins (a rest t : Text) : Type 0 where
  pub same : t ≡ a ++ rest

pub part : (a : Text) {rest : Text} → Begins a rest (a ++ rest)
part a = record { same = refl }

infixl 5 ◌and◌
pub ◌and◌ : {a b rest later t : Text} → Begins a rest t → Begins b later rest → Begins (a ++ b) later t
◌and◌ {a} {b} {later} p q = record { same = p.same ∙ rw (q.same, append_assoc a b later) }

-- Texts that are rows, each with its line feed.
pub record Rows (rows : List Text) (t : Text) : Type 0 where
  pub same : t ≡ ended_each rows

pub no_rows : Rows [] []
unfolding ended_each
no_rows = record { same = refl }

pub row : {a rest t : Text} {rows : List Text} → Begins a (10 ∷ rest) t → Rows rows rest → Rows (a ∷ rows) t
unfolding ended_each ended
row {a} {rest} {t} {rows} p q = record { same = p.same ∙ rw q.same (sym (append_assoc a (10 ∷ []) (ended_each rows))) }

-- A row of a register, and of a pair.
pub register : (label : String) (w : ℕ) {meaning rest t : Text} {rows : List Text} → Begins meaning (10 ∷ rest) t → Rows rows rest
    → Rows (register_row label w meaning ∷ rows) (ascii label ++ (digits 16 4 w ++ (ascii "       " ++ t)))
unfolding register_row
register label w p = row (part (ascii label) and part (digits 16 4 w) and part (ascii "       ") and p)

pub pair : (label : String) (q : ℕ) (meaning : Text) {rest : Text} {rows : List Text} → Rows rows rest
    → Rows (pair_row label q meaning ∷ rows) (ascii label ++ pair_then q (meaning ++ (10 ∷ rest)))
unfolding pair_row pair_then
pair label q meaning =
    row (part (ascii label) and part (digits 16 4 (q / 65536)) and part (ascii " ") and part (digits 16 4 (q % 65536))
    and part (ascii "  ") and part meaning)

pub rows_are : (rows : List Text) → Rows rows (ended_each rows)
rows_are rows = record { same = refl }

-- A number and what it counts.
pub counted : (n : ℕ) (what : String) {rest : Text} → Begins (plural n what) rest (plural_then n (ascii what) rest)
unfolding plural plural_then
counted n what = part (decimal n) and part (ascii what) and part (text_where (ltb 1 n) (ascii "s"))

-- One of two texts, by a bit.
pub one_of : (x : ℕ) (a b : Text) {rest : Text} → x < 2
    → Begins (pick (eqb x 1) a b) rest (text_where (eqb x 1) a ++ (text_where (eqb x 0) b ++ rest))
unfolding text_where
one_of x a b {rest} h = record { same = by_eqb x 1 (λ i e. rw i) (λ i e. rw e (let z : x ≡ 0 = omega arith in rw z)) }

-- What was put, by another name.
pub put-rows : (rows : List Text) {l l' : List ℕ} {at r : ℕ} {t : Text} → Puts l at t r l' → Rows rows t → Puts l at (ended_each rows) r l'
put-rows rows p same = rw (← same.same) p

pub put-text : {l l' : List ℕ} {at r : ℕ} {t a : Text} → Puts l at t r l' → Begins a [] t → Puts l at a r l'
put-text {a} p same = let e = same.same ∙ append-nil a in rw (← e) p

pub put_same : {l l' : List ℕ} {at r : ℕ} {t u : Text} → t ≡ u → Puts l at t r l' → Puts l at u r l'
put_same e p = rw (← e) p

pub put_as : (f : ℕ → Text) {l l' : List ℕ} {at r v w : ℕ} → v ≡ w → Puts l at (f v) r l' → Puts l at (f w) r l'
put_as f e p = rw e at p

pub put-as-two : (f : ℕ → ℕ → Text) {l l' : List ℕ} {at r v w x y : ℕ} → v ≡ w → x ≡ y → Puts l at (f v x) r l' → Puts l at (f w y) r l'
put-as-two f e g p = rw (e, g) at p

-- Names of what holds, each after a blank: f is their text with what follows.
pub record Spaced (names : List Text) (f : Text → Text) : Type 0 where
  pub same : (rest : Text) → f rest ≡ spaced_each names ++ rest

spaced-append : (a b : List Text) → spaced_each (a ++ b) ≡ spaced_each a ++ spaced_each b
unfolding spaced_each
spaced-append [] b = refl
spaced-append (t ∷ a) b = rw (spaced-append a b) (sym (append_assoc (ascii " " ++ t) (spaced_each a) (spaced_each b)))

pub name : (holds : Bool) (a : String) → Spaced (name_where holds a) (λ rest. text_where holds (ascii " " ++ ascii a) ++ rest)
unfolding name_where text_where spaced_each
name true a = record { same = λ rest. rw (append-nil (ascii " " ++ ascii a)) }
name false a = record { same = λ rest. refl }

infixl 5 ◌with◌
pub ◌with◌ : {a b : List Text} {f g : Text → Text} → Spaced a f → Spaced b g → Spaced (a ++ b) (λ rest. f (g rest))
◌with◌ {a} {b} {f} {g} p q =
    record { same = λ rest. p.same (g rest) ∙ rw (q.same rest, spaced-append a b) (sym (append_assoc (spaced_each a) (spaced_each b) rest)) }

pub put-spaced : (names : List Text) {f : Text → Text} {l l' : List ℕ} {at r : ℕ} → Spaced names f → Puts l at (f []) r l'
    → Puts l at (spaced_each names) r l'
put-spaced names s p = let e = s.same [] ∙ append-nil (spaced_each names) in rw (← e) p

pub puts-spaced : (a b : List Text) {l k l' : List ℕ} {at q r : ℕ} → Puts l at (spaced_each a) q k → Puts k q (spaced_each b) r l'
    → Puts l at (spaced_each (a ++ b)) r l'
puts-spaced a b p s = rw (spaced-append a b) (puts_then p s)

-- How many names hold.
pub record Count (names : List Text) (n : ℕ) : Type 0 where
  pub same : n ≡ length names

pub one : (x : ℕ) (a : String) → x < 2 → Count (name_where (eqb x 1) a) x
unfolding name_where
one x a h = record { same = by_eqb x 1 (λ i e. rw i) (λ i e. rw e (omega arith)) }

infixl 5 ◌plus◌
pub ◌plus◌ : {a b : List Text} {n k : ℕ} → Count a n → Count b k → Count (a ++ b) (n + k)
◌plus◌ {a} {b} p q = record { same = rw (length-append, p.same, q.same) }

-- The blank before names, or before what stands for none.
or-none : (other : String) (names : List Text) (n : ℕ) (rest : Text) → n ≡ length names
    → spaced_each names ++ (text_where (eqb n 0) (ascii " " ++ ascii other) ++ rest) ≡ ascii " " ++ (names_or other names ++ rest)
unfolding ascii spaced_each text_where names_or spaced
or-none other [] n rest e = rw e
or-none other (t ∷ ts) n rest e = rw (ne_eqb n 0 (λ z. let y : ◌≡◌ {A = ℕ} (suc (length ts)) 0 = cc in absurd (omega arith)))

pub put-names : (other : String) (names : List Text) (n : ℕ) (rest : Text) {l l' : List ℕ} {at r : ℕ} → n ≡ length names
    → Puts l at (spaced_each names ++ (text_where (eqb n 0) (ascii " " ++ ascii other) ++ rest)) r l'
    → Puts l at (ascii " " ++ (names_or other names ++ rest)) r l'
put-names other names n rest e p = rw (or-none other names n rest e) at p

no_other : (names : List Text) → names_or "" names ≡ spaced names
unfolding ascii names_or spaced
no_other [] = refl
no_other (t ∷ ts) = refl

pub put-blank : (names : List Text) (n : ℕ) (rest : Text) {l l' : List ℕ} {at r : ℕ} → n ≡ length names
    → Puts l at (spaced_each names ++ (text_where (eqb n 0) (ascii " ") ++ rest)) r l'
    → Puts l at (ascii " " ++ (spaced names ++ rest)) r l'
unfolding ascii
put-blank names n rest e p = rw (← (no_other names)) (rw (or-none "" names n rest e) at p)

-- Rows, and rows after them.
ended-append : (a b : List Text) → ended_each (a ++ b) ≡ ended_each a ++ ended_each b
unfolding ended_each
ended-append [] b = refl
ended-append (t ∷ a) b = rw (ended-append a b) (sym (append_assoc (ended t) (ended_each a) (ended_each b)))

pub puts-rows : (a b : List Text) {l k l' : List ℕ} {at q r : ℕ} → Puts l at (ended_each a) q k → Puts k q (ended_each b) r l'
    → Puts l at (ended_each (a ++ b)) r l'
puts-rows a b p s = rw (ended-append a b) (puts_then p s)

-- The next start of an event.
pub next-on : (k : Schedule) → in_event k ≡ true → k.continuous ≡ true → wait_text k ++ ascii ", continuous" ≡ next_text k
unfolding next_text text_where
next-on k e f = rw (e, f)

pub next-group : (k : Schedule) → in_event k ≡ true → k.continuous ≡ false → wait_text k ++ [] ≡ next_text k
unfolding next_text text_where
next-group k e f = rw (e, f)

-- The answer to what is not refused.
pub not-refused : (m : Model) (op : ℕ) (a : Answer) → OneOf (1 ∷ 2 ∷ 3 ∷ 4 ∷ 5 ∷ []) (tag_of the_type a)
    → ascii "ok" ≡ answer_text m op (number_in a)
unfolding number_in answer_text
not-refused m op (Refused r) h = absurd (miss (1 ∷ 2 ∷ 3 ∷ 4 ∷ 5 ∷ []) 0 tt h)
not-refused m op (Accepted f t) h = refl
not-refused m op (Ticked f t) h = refl
not-refused m op (Stretched f t) h = refl
not-refused m op Good h = refl
not-refused m op Failed h = refl
