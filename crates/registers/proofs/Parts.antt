-- A read, part by part.
use Prim.Native.Nat.{ℕ, ◌+◌, ◌-◌, ◌≤◌, ◌<◌}
use native.Mathlib.Numerals.{add-one}
use native.Mathlib.Omega.{arith}
use mathlib.Core.Bool.{true}
use mathlib.Core.List.{List}
use mathlib.Core.Path.{◌≡◌, refl, sym, ap, ◌∙◌}
use lib.Dec.{eqb}
use lib.ListN.{get_or}
use borrow.Author.Tests.{lt-ltb, le-ltb}
use Rattle.unit.specs.Choice.{pick}
use Rattle.calendar.specs.Bounds.{Bounds}
use Rattle.calendar.proofs.Laws.{bounds}
use Rattle.device.specs.declared.Model.{Model}
use Rattle.device.specs.declared.Flight.{Flight}
use Rattle.device.specs.declared.Temperature.{Temperature}
use Rattle.device.specs.declared.Status.{Status}
use Rattle.device.specs.Model.{is_sound}
use Rattle.device.specs.Status.{status_word}
use Rattle.device.specs.Registers.{calendar_word, flight_word, temperature_word, register_word, put_word, fill_words}
use Rattle.device.proofs.Sound.{bounds_of}
use Rattle.registers.specs.Filled.{Filled}

-- the numbers of a sound model's clock
pub sound-clock : (m : Model) → is_sound m ≡ true → Bounds m.clock
sound-clock m s = bounds m.clock (bounds_of m s).clock

-- no word, one word more, and the places by another name
pub filled_none : (m : Model) (a i : ℕ) (l : List ℕ) → Filled m a i i l l
filled_none m a i l = record { each = λ o h. h }

more :
    (m : Model) (a i w : ℕ) (start out : List ℕ) →
    out ≡ fill_words m a start i →
    w ≡ register_word m (a + i) →
    put_word out i w ≡ fill_words m a start (i + 1)
unfolding fill_words
more m a i w start out e r = rw (add-one i) (cc)

pub filled_more :
    (m : Model) (a from i w : ℕ) (before out next : List ℕ) →
    Filled m a from i before out →
    w ≡ register_word m (a + i) →
    next ≡ put_word out i w →
    Filled m a from (i + 1) before next
filled_more m a from i w before out next f r p = record { each = λ o h. p ∙ more m a i w o out (f.each o h) r }

pub filled-between :
    (m : Model) (a i i' j j' : ℕ) (before after : List ℕ) →
    Filled m a i j before after →
    i ≡ i' →
    j ≡ j' →
    Filled m a i' j' before after
filled-between m a i i' j j' before after f p q =
    record { each = λ o h. f.each o (h ∙ ap (fill_words m a o) (sym p)) ∙ ap (fill_words m a o) q }

-- the word of each part
pub calendar-part : (m : Model) (x : ℕ) → x < 180 → calendar_word m x ≡ register_word m x
unfolding register_word
calendar-part m x h = rw (lt-ltb x 180 h) refl

pub setup-part : (m : Model) (s : List ℕ) (x : ℕ) → m.setup ≡ s → 180 ≤ x → x < 196 → get_or s (x - 180) 0 ≡ register_word m x
unfolding register_word
setup-part m s x e lo hi =
    ap (λ (l : List ℕ). get_or l (x - 180) 0) (sym e) ∙ rw (le-ltb x 180 lo, lt-ltb x 196 hi) refl

pub flight-part : (m : Model) (f : Flight) (x : ℕ) → m.flight ≡ f → 196 ≤ x → x < 231 → flight_word f x ≡ register_word m x
unfolding register_word
flight-part m f x e lo hi =
    let a : 180 ≤ x = omega arith in
    ap (λ (k : Flight). flight_word k x) (sym e) ∙ rw (le-ltb x 180 a, le-ltb x 196 lo, lt-ltb x 231 hi) refl

pub temperature-part :
    (m : Model) (t : Temperature) (x : ℕ) → m.temperature ≡ t → 231 ≤ x → x < 248 → temperature_word t x ≡ register_word m x
unfolding register_word
temperature-part m t x e lo hi =
    let a : 180 ≤ x = omega arith in
    let b : 196 ≤ x = omega arith in
    ap (λ (k : Temperature). temperature_word k x) (sym e)
    ∙ rw (le-ltb x 180 a, le-ltb x 196 b, le-ltb x 231 lo, lt-ltb x 248 hi) refl

pub last-part :
    (m : Model) (s : Status) (x : ℕ) → m.status ≡ s → 248 ≤ x → pick (eqb x 0xFE) (status_word s) 0 ≡ register_word m x
unfolding register_word
last-part m s x e lo =
    let a : 180 ≤ x = omega arith in
    let b : 196 ≤ x = omega arith in
    let d : 231 ≤ x = omega arith in
    ap (λ (k : Status). pick (eqb x 0xFE) (status_word k) 0) (sym e)
    ∙ rw (le-ltb x 180 a, le-ltb x 196 b, le-ltb x 231 d, le-ltb x 248 lo) refl
