-- `load (store m)` is m for every model, and bytes that load to a sound model are what `store` writes of it.
use Prim.Native.Nat.{ℕ, zero, suc, ◌+◌, ◌<◌}
use native.Mathlib.Omega.{arith}
use mathlib.Core.Bool.{Bool, true, false}
use mathlib.Core.List.{List, [], ◌++◌, append_assoc, append-nil}
use mathlib.Core.Logic.{◌↔◌}
use mathlib.Core.Path.{◌≡◌, refl, sym, ap, ◌∙◌}
use lib.ListN.{length, get_or, take, drop, length-append, length-drop}
use lib.Dec.{ltb, eqb}
use lib.Seq.{drop_at, drop-drop, take-add, take_all}
use mir.Val.{bool_byte}
use borrow.Author.Tests.{ltb-true, eq-eqb, ne_eqb}
use Rattle.unit.specs.Choice.{both}
use Rattle.unit.proofs.Cases.{by-test, by_eqb}
use Rattle.calendar.specs.Calendar.{clock_valid, date_fits}
use Rattle.device.specs.declared.Model.{Model}
use Rattle.device.specs.Model.{is_sound}
use Rattle.layout.specs.Number.{all_bytes, numbers, value}
use Rattle.layout.specs.Layout.{flags_fit, formed, single, double, quadruple, octuple, clock_words, waits, stored, part, clock_of, status_of, flight_of, temperature_of, model_of, restored, nothing, loaded}
use Rattle.layout.specs.Fits.{Below, Fits}
use Rattle.layout.proofs.Loops.{length-all}
use Rattle.layout.proofs.Parts.{whole, part-taken, double-parts, quadruple-parts, four-sums, formed-length}
use Rattle.layout.proofs.Meaning.{below-drop, numbers-all, all-numbers, length-numbers}

flag-bit : (b : Bool) → eqb (bool_byte b) 1 ≡ b
flag-bit true = refl
flag-bit false = refl

bit-fits : (b : Bool) → ltb (bool_byte b) 2 ≡ true
bit-fits true = refl
bit-fits false = refl

-- A model is put together from what it was taken apart into.
module _ (m : Model) (f : Fits m) (r : List ℕ) where
  clock-back : clock_of (single m ++ r) (quadruple m.clock m.flight m.temperature) ≡ m.clock
  unfolding clock_of single quadruple clock_words waits
  clock-back = simp flag-bit

  status-back : status_of (single m ++ r) ≡ m.status
  unfolding status_of single
  status-back = simp flag-bit

  flight-back :
      flight_of (single m ++ r) (double m) (quadruple m.clock m.flight m.temperature)
      (octuple m.flight m.temperature)
      ≡ m.flight
  unfolding flight_of single octuple clock_words waits
  flight-back =
      rw (← double-parts m f.setup, ← quadruple-parts m.clock m.flight m.temperature f.ups f.downs f.ports)
      (simp (flag-bit, whole m.flight.ups 7 f.ups, whole m.flight.downs 7 f.downs))

  temperature-back :
      temperature_of (single m ++ r) (double m) (quadruple m.clock m.flight m.temperature)
      (octuple m.flight m.temperature)
      ≡ m.temperature
  unfolding temperature_of single octuple clock_words waits
  temperature-back =
      rw (← double-parts m f.setup, ← quadruple-parts m.clock m.flight m.temperature f.ups f.downs f.ports)
      (simp (flag-bit, four-sums m.temperature.sums f.sums, whole m.temperature.ports 4 f.ports))

  setup-back : part (double m) 0 16 ≡ m.setup
  setup-back = rw (← double-parts m f.setup) (whole m.setup 16 f.setup)

  pub model-back :
      model_of (single m ++ r) (double m) (quadruple m.clock m.flight m.temperature)
      (octuple m.flight m.temperature)
      ≡ m
  unfolding model_of single
  model-back = rw (clock-back, setup-back, status-back, flight-back, temperature-back, flag-bit m.initialised, flag-bit m.regulator)

-- The four groups, one after the other.
module _ (m : Model) (f : Fits m) where
  twos : List ℕ
  twos = all_bytes 2 (double m)

  fours : List ℕ
  fours = all_bytes 4 (quadruple m.clock m.flight m.temperature)

  eights : List ℕ
  eights = all_bytes 8 (octuple m.flight m.temperature)

  length-double : length (double m) ≡ 18
  length-double = ap length (sym (double-parts m f.setup))

  length-quadruple : length (quadruple m.clock m.flight m.temperature) ≡ 33
  unfolding clock_words waits
  length-quadruple = ap length (sym (quadruple-parts m.clock m.flight m.temperature f.ups f.downs f.ports))

  length-octuple : length (octuple m.flight m.temperature) ≡ 5
  unfolding octuple
  length-octuple = refl

  length-single : length (single m) ≡ 25
  unfolding single
  length-single = refl

  split : stored m ≡ single m ++ (twos ++ (fours ++ eights))
  unfolding stored twos fours eights
  split =
      append_assoc (single m ++ twos) fours eights
      ∙ append_assoc (single m) twos (fours ++ eights)

  after-single : drop 25 (stored m) ≡ twos ++ (fours ++ eights)
  after-single = ap (drop 25) split ∙ drop_at (single m) (twos ++ (fours ++ eights)) 25 length-single

  length-twos : length twos ≡ 36
  unfolding twos
  length-twos = length-all 2 (double m) ∙ rw length-double

  length-fours : length fours ≡ 132
  unfolding fours
  length-fours = length-all 4 (quadruple m.clock m.flight m.temperature) ∙ rw length-quadruple

  length-eights : length eights ≡ 40
  unfolding eights
  length-eights = length-all 8 (octuple m.flight m.temperature) ∙ rw length-octuple

  after-twos : drop 61 (stored m) ≡ fours ++ eights
  after-twos =
      sym (drop-drop 36 25 (stored m)) ∙ ap (drop 36) after-single ∙ drop_at twos (fours ++ eights) 36 length-twos

  after-fours : drop 193 (stored m) ≡ eights
  after-fours = sym (drop-drop 132 61 (stored m)) ∙ ap (drop 132) after-twos ∙ drop_at fours eights 132 length-fours

  doubles-back : numbers 2 18 (drop 25 (stored m)) ≡ double m
  unfolding twos
  doubles-back =
      ap (numbers 2 18) after-single
      ∙ ap (λ (n : ℕ). numbers 2 n (twos ++ (fours ++ eights))) (sym length-double)
      ∙ numbers-all 2 (double m) (fours ++ eights) f.doubles

  quadruples-back : numbers 4 33 (drop 61 (stored m)) ≡ quadruple m.clock m.flight m.temperature
  unfolding fours
  quadruples-back =
      ap (numbers 4 33) after-twos
      ∙ ap (λ (n : ℕ). numbers 4 n (fours ++ eights)) (sym length-quadruple)
      ∙ numbers-all 4 (quadruple m.clock m.flight m.temperature) eights f.quadruples

  octuples-back : numbers 8 5 (drop 193 (stored m)) ≡ octuple m.flight m.temperature
  unfolding eights
  octuples-back =
      ap (numbers 8 5) (after-fours ∙ sym (append-nil eights))
      ∙ ap (λ (n : ℕ). numbers 8 n (eights ++ [])) (sym length-octuple)
      ∙ numbers-all 8 (octuple m.flight m.temperature) [] f.octuples

  restored-back : restored (stored m) ≡ m
  unfolding restored
  restored-back =
      rw (doubles-back, quadruples-back, octuples-back, split) (model-back m f (twos ++ (fours ++ eights)))

  length-stored : length (stored m) ≡ 233
  length-stored =
      rw split
      (length-append (single m) (twos ++ (fours ++ eights))
      ∙ rw (length-append twos (fours ++ eights), length-append fours eights, length-single, length-twos, length-fours, length-eights))

  flags-back : (r : List ℕ) → flags_fit (single m ++ r) 18 ≡ true
  unfolding single flags_fit
  flags-back r = simp bit-fits

  version-back : (r : List ℕ) → get_or (single m ++ r) 0 0 ≡ 1
  unfolding single
  version-back r = refl

  formed-back : formed (stored m) ≡ true
  unfolding formed
  formed-back =
      rw (eq-eqb (length (stored m)) 233 length-stored, split, version-back (twos ++ (fours ++ eights)), flags-back (twos ++ (fours ++ eights)))

  pub load_store : loaded (stored m) ≡ m
  unfolding loaded
  load_store = rw (formed-back) restored-back

-- Bytes of the right form are what is stored of the model that they hold.
bit-flag : (x : ℕ) → x < 2 → bool_byte (eqb x 1) ≡ x
bit-flag zero h = refl
bit-flag (suc zero) h = refl
bit-flag (suc (suc x)) h = absurd (omega arith)

both_true : (a b : Bool) → both a b ≡ true → (a ≡ true) × (b ≡ true)
both_true true b e = (refl, e)
both_true false b e = let z : ◌≡◌ {A = ℕ} 0 1 = cc in absurd (omega arith)

flag-each : (bs : List ℕ) (n i : ℕ) → i < n → flags_fit bs n ≡ true → get_or bs (suc i) 0 < 2
unfolding flags_fit
flag-each bs zero i h e = absurd (omega arith)
flag-each bs (suc n) i h e =
    let (below, here) = both_true (flags_fit bs n) (ltb (get_or bs (suc n) 0) 2) e in
    by_eqb i n
    (λ s t. rw s (ltb-true (get_or bs (suc n) 0) 2 here))
    (λ s t. flag-each bs n i (omega arith) below)

module _ (bs : List ℕ) (bytes : Below 256 bs) (size : length bs ≡ 233) where
  d : List ℕ
  d = numbers 2 18 (drop 25 bs)

  q : List ℕ
  q = numbers 4 33 (drop 61 bs)

  o : List ℕ
  o = numbers 8 5 (drop 193 bs)

  double-again : double (model_of bs d q o) ≡ d
  unfolding double model_of flight_of temperature_of d
  double-again = whole d 18 (length-numbers 2 18 (drop 25 bs))

  quadruple-again :
      quadruple (model_of bs d q o).clock (model_of bs d q o).flight (model_of bs d q o).temperature ≡ q
  unfolding quadruple clock_words waits model_of clock_of flight_of temperature_of q
  quadruple-again = whole q 33 (length-numbers 4 33 (drop 61 bs))

  octuple-again : octuple (model_of bs d q o).flight (model_of bs d q o).temperature ≡ o
  unfolding octuple model_of flight_of temperature_of o
  octuple-again = whole o 5 (length-numbers 8 5 (drop 193 bs))

  module _ (version : get_or bs 0 0 ≡ 1) (flags : flags_fit bs 18 ≡ true) where
    one : (i : ℕ) → i < 18 → bool_byte (eqb (get_or bs (suc i) 0) 1) ≡ get_or bs (suc i) 0
    one i h = bit-flag (get_or bs (suc i) 0) (flag-each bs 18 i h flags)

    single-again : single (model_of bs d q o) ≡ part bs 0 25
    unfolding single model_of clock_of status_of flight_of temperature_of
    single-again =
        rw (one 0 (omega arith), one 1 (omega arith), one 2 (omega arith), one 3 (omega arith), one 4 (omega arith), one 5 (omega arith), one 6 (omega arith), one 7 (omega arith), one 8 (omega arith), one 9 (omega arith), one 10 (omega arith), one 11 (omega arith), one 12 (omega arith), one 13 (omega arith), one 14 (omega arith), one 15 (omega arith), one 16 (omega arith), one 17 (omega arith), version)

    pub stored-again : stored (restored bs) ≡ bs
    unfolding stored restored d q o
    stored-again =
        rw (single-again ∙ part-taken bs 0 25 (omega arith), double-again, quadruple-again, octuple-again, all-numbers 2 18 (drop 25 bs) (rw length-drop (omega arith)) (below-drop 256 25 bs bytes), all-numbers 4 33 (drop 61 bs) (rw length-drop (omega arith)) (below-drop 256 61 bs bytes), all-numbers 8 5 (drop 193 bs) (rw length-drop (omega arith)) (below-drop 256 193 bs bytes))
        (ap (λ (l : List ℕ). l ++ take 132 (drop 61 bs) ++ take 40 (drop 193 bs)) (sym (take-add 25 36 bs))
        ∙ ap (λ (l : List ℕ). l ++ take 40 (drop 193 bs)) (sym (take-add 61 132 bs))
        ∙ sym (take-add 193 40 bs)
        ∙ take_all 233 bs (omega arith))

-- The model of bytes of another form is not sound: its month is 0.
nothing-date : (nothing.clock.year ≡ 0) × (nothing.clock.month ≡ 0)
unfolding nothing restored model_of clock_of numbers value
nothing-date = (refl, refl)

pub nothing-unsound : is_sound nothing ≡ false
unfolding is_sound clock_valid date_fits
nothing-unsound = rw (nothing-date.0, nothing-date.1)

formed-parts : (bs : List ℕ) → formed bs ≡ true → (get_or bs 0 0 ≡ 1) × (flags_fit bs 18 ≡ true)
unfolding formed
formed-parts bs =
    by_eqb (length bs) 233
    (λ e t. by_eqb (get_or bs 0 0) 1
    (λ v u. rw (t, u) (λ g. (v, g)))
    (λ v u. rw (t, u) (λ (g : false ≡ true). let z : ◌≡◌ {A = ℕ} 0 1 = cc in absurd (omega arith))))
    (λ e t. rw t (λ (g : false ≡ true). let z : ◌≡◌ {A = ℕ} 0 1 = cc in absurd (omega arith)))

pub stored-load : (bs : List ℕ) → Below 256 bs → is_sound (loaded bs) ≡ true → bs ≡ stored (loaded bs)
unfolding loaded
stored-load bs bytes =
    by-test (formed bs)
    (λ t. let p = formed-parts bs t in
    rw t (λ s. sym (stored-again bs bytes (formed-length bs t) p.0 p.1)))
    (λ t. rw (t, nothing-unsound) (λ (g : false ≡ true). let z : ◌≡◌ {A = ℕ} 0 1 = cc in absurd (omega arith)))

-- "bytes load to a model exactly when they are what `store` writes of it"
pub loads-exactly :
    (bs : List ℕ) (m : Model) →
    Below 256 bs →
    Fits m →
    is_sound m ≡ true →
    (loaded bs ≡ m) ↔ (bs ≡ stored m)
loads-exactly bs m bytes f s = (
  λ e. stored-load bs bytes (ap is_sound e ∙ s) ∙ ap stored e,
  λ e. ap loaded e ∙ load_store m f,
)

-- Bytes of another length, of another version, or with a flag that is neither 0 nor 1 hold no sound model.
pub misformed-unsound : (bs : List ℕ) → formed bs ≡ false → is_sound (loaded bs) ≡ false
unfolding loaded
misformed-unsound bs e = rw (e, nothing-unsound)

pub other_length : (bs : List ℕ) → (length bs ≡ 233 → ⊥) → is_sound (loaded bs) ≡ false
unfolding formed
other_length bs h = misformed-unsound bs (rw (ne_eqb (length bs) 233 h))

pub other-version : (bs : List ℕ) → (get_or bs 0 0 ≡ 1 → ⊥) → is_sound (loaded bs) ≡ false
unfolding formed
other-version bs h = misformed-unsound bs (by-test (eqb (length bs) 233) (λ t. rw (t, ne_eqb (get_or bs 0 0) 1 h)) (λ t. rw t))
