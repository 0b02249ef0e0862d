-- What the numbers of the rows are of a sound model: the values that the chip's definitions give. Assumes nothing.
use Prim.Native.Nat.{ℕ, ◌+◌, ◌*◌, ◌/◌, ◌%◌, ◌^◌, ◌≤◌, ◌<◌}
use mathlib.Core.Bool.{Bool, true, false, cond}
use mathlib.Core.List.{List, [], ◌∷◌, ◌++◌}
use mathlib.Core.Path.{◌≡◌, refl, sym, ◌∙◌}
use native.Mathlib.Omega.{arith}
use lib.Dec.{eqb}
use lib.ListN.{length, length-append}
use Rattle.unit.specs.Choice.{either, both, negate}
use Rattle.unit.specs.Bits.{bits, is_set}
use Rattle.setup.specs.Setup.{word_of, flight_unset, temperature_unset, clock_stands}
use Rattle.device.specs.declared.Model.{Model}
use Rattle.device.specs.Model.{is_sound}
use Rattle.device.specs.Bus.{starts_flight, starts_temperature, is_event, flight_side_unset, temperature_side_unset, event_side_unset, command_unset}
use Rattle.device.specs.Plain.{Holds}
use Rattle.device.specs.Reply.{flag as bit}
use Rattle.device.proofs.RegisterMeaning.{reads-setup}
use Rattle.numeral.specs.Ascii.{ascii}
use Rattle.wording.specs.Wording.{Texts, reported_where}
use Rattle.item_state.specs.Told.{read_word}
use Rattle.page.specs.Row.{binary}
use Rattle.page.specs.Commands.{flight_fields, temperature_fields, clock_fields, fields}
use Rattle.page.specs.Results.{pair_word}
use Rattle.page.proofs.Meaning.{word_read}

whole : (w : ℕ) → w < 4294967296 → w / 65536 % 65536 * 65536 + w % 65536 % 65536 ≡ w
whole w h = omega arith

pub bit-shown : (b : Bool) (x : ℕ) → x ≡ bit b → eqb x 1 ≡ b
bit-shown true x e = rw e refl
bit-shown false x e = rw e refl

-- ---- which fields are named, over plain tests

apart : {A : Type 0} → false ≡ true → A
apart e = let z : ◌≡◌ {A = ℕ} 0 1 = cc in absurd (omega arith)

flight-none : (f p d : Bool) (x y : List ℕ) → both f (either p d) ≡ false → cond f (reported_where p x ++ reported_where d y) [] ≡ []
unfolding reported_where
flight-none false p d x y e = refl
flight-none true false false x y e = refl
flight-none true true d x y e = apart (sym e)
flight-none true false true x y e = apart (sym e)

temperature-none : (t q : Bool) (xs : Texts) → both t (negate q) ≡ false → cond t (cond q [] xs) [] ≡ []
temperature-none false q xs e = refl
temperature-none true true xs e = refl
temperature-none true false xs e = apart (sym e)

clock-none : (v c : Bool) (x : List ℕ) → both v c ≡ false → cond v (reported_where c x) [] ≡ []
unfolding reported_where
clock-none false c x e = refl
clock-none true false x e = refl
clock-none true true x e = apart (sym e)

flight-some : (f p d : Bool) (x y : List ℕ) → both f (either p d) ≡ true → 0 < length (cond f (reported_where p x ++ reported_where d y) [])
unfolding reported_where
flight-some false p d x y e = apart e
flight-some true true d x y e = omega arith
flight-some true false true x y e = omega arith
flight-some true false false x y e = apart e

temperature-some : (t q : Bool) (x : List ℕ) (xs : Texts) → both t (negate q) ≡ true → 0 < length (cond t (cond q [] (x ∷ xs)) [])
temperature-some false q x xs e = apart e
temperature-some true true x xs e = apart e
temperature-some true false x xs e = omega arith

clock-some : (v c : Bool) (x : List ℕ) → both v c ≡ true → 0 < length (cond v (reported_where c x) [])
unfolding reported_where
clock-some false c x e = apart e
clock-some true false x e = apart e
clock-some true true x e = omega arith

neither : (a b : Bool) → either a b ≡ false → (a ≡ false) × (b ≡ false)
neither true b e = apart (sym e)
neither false b e = (refl, e)

one_of : {G : Type 0} (a b : Bool) → either a b ≡ true → (a ≡ true → G) → (b ≡ true → G) → G
one_of true b e f g = f refl
one_of false b e f g = g e

module _ (m : Model) (s : is_sound m ≡ true) where
  pub setup-read : (w : ℕ) → 0x34 ≤ w → w ≤ 0x43 → read_word m (w + 0x80) ≡ word_of m.setup w
  setup-read w h k = word_read m (w + 0x80) s (omega arith) (omega arith) ∙ reads-setup m w h k

  -- The word of a pair's row is the one that its registers hold.
  pub pair-shown : (a w : ℕ) → 0xB0 ≤ a → a < 0xFF → Holds m a w → w < 2 ^ 32 → pair_word m a ≡ w
  unfolding pair_word
  pair-shown a w h k held few =
      rw (word_read m a s h (omega arith), word_read m (a + 1) s (omega arith) (omega arith), held.high, held.low) (whole w few)

  -- "Behind number 9 stand the fields that are in its way": none is named exactly when the set-up is right for the command.
  pub unset-read : (op : ℕ) →
      fields m op
      ≡ flight_fields (starts_flight op) (word_of m.setup 0x38)
      ++ (temperature_fields (starts_temperature op) (word_of m.setup 0x40) ++ clock_fields (is_event op) (word_of m.setup 0x43))
  unfolding fields
  unset-read op =
      rw (setup-read 0x38 (omega arith) (omega arith), setup-read 0x40 (omega arith) (omega arith), setup-read 0x43 (omega arith) (omega arith))

  pub none_named : (op : ℕ) → command_unset m op ≡ false → fields m op ≡ []
  unfolding command_unset event_side_unset flight_side_unset temperature_side_unset flight_unset temperature_unset clock_stands flight_fields temperature_fields clock_fields
  none_named op e =
      let event : Bool = both (is_event op) (is_set 4 (word_of m.setup 0x43)) in
      let flight : Bool = both (starts_flight op) (either (eqb (bits 15 8 (word_of m.setup 0x38)) 0) (eqb (bits 7 4 (word_of m.setup 0x38)) 0)) in
      let temperature : Bool = both (starts_temperature op) (negate (eqb (bits 6 5 (word_of m.setup 0x40)) 0b11)) in
      let c = neither event (either flight temperature) e in
      let k = neither flight temperature c.1 in
      unset-read op
      ∙ rw (
        flight-none (starts_flight op) (eqb (bits 15 8 (word_of m.setup 0x38)) 0) (eqb (bits 7 4 (word_of m.setup 0x38)) 0) (ascii " PL 0") (ascii " DPL 0") k.0,
        temperature-none (starts_temperature op) (eqb (bits 6 5 (word_of m.setup 0x40)) 0b11) (ascii " TP " ∷ binary (bits 6 5 (word_of m.setup 0x40))) k.1,
        clock-none (is_event op) (is_set 4 (word_of m.setup 0x43)) (ascii " EOSC 1") c.0,
      )

  pub some-named : (op : ℕ) → command_unset m op ≡ true → 0 < length (fields m op)
  unfolding command_unset event_side_unset flight_side_unset temperature_side_unset flight_unset temperature_unset clock_stands flight_fields temperature_fields clock_fields
  some-named op e =
      let event : Bool = both (is_event op) (is_set 4 (word_of m.setup 0x43)) in
      let flight : Bool = both (starts_flight op) (either (eqb (bits 15 8 (word_of m.setup 0x38)) 0) (eqb (bits 7 4 (word_of m.setup 0x38)) 0)) in
      let temperature : Bool = both (starts_temperature op) (negate (eqb (bits 6 5 (word_of m.setup 0x40)) 0b11)) in
      rw (unset-read op, length-append, length-append)
      (one_of event (either flight temperature) e
      (λ h. omega (arith, clock-some (is_event op) (is_set 4 (word_of m.setup 0x43)) (ascii " EOSC 1") h))
      (λ h. one_of flight temperature h
      (λ f. omega (arith, flight-some (starts_flight op) (eqb (bits 15 8 (word_of m.setup 0x38)) 0) (eqb (bits 7 4 (word_of m.setup 0x38)) 0) (ascii " PL 0") (ascii " DPL 0") f))
      (λ t. omega (arith, temperature-some (starts_temperature op) (eqb (bits 6 5 (word_of m.setup 0x40)) 0b11) (ascii " TP ") (binary (bits 6 5 (word_of m.setup 0x40))) t))))
