-- The layout in plain numbers: a model whose fields differ, and its 233 bytes.
use Prim.Native.Nat.{ℕ}
use native.Mathlib.Omega.{arith}
use mathlib.Core.Bool.{Bool, true, false}
use mathlib.Core.List.{List, [], ◌∷◌}
use mathlib.Core.Path.{◌≡◌, refl}
use lib.Dec.{ltb}
use lib.ListN.{replicate}
use Rattle.unit.specs.Choice.{both}
use Rattle.unit.proofs.Cases.{by-ltb}
use Rattle.device.specs.declared.Model.{Model}
use Rattle.layout.specs.Number.{bound, bytes_of, value, all_bytes}
use Rattle.layout.specs.Layout.{single, double, quadruple, octuple, clock_words, waits, flags_fit, formed, stored, loaded}
use Rattle.layout.specs.Fits.{Below, none, more, Fits}
use Rattle.layout.proofs.Stored.{load_store}

-- low byte first
pub low_first : bytes_of 2 0x1234 ≡ 0x34 ∷ 0x12 ∷ []
unfolding bytes_of
low_first = refl

pub low_read : value (0x78 ∷ 0x56 ∷ 0x34 ∷ 0x12 ∷ []) ≡ 0x12345678
unfolding value
low_read = refl

-- version 1 loads, and no other
pub this-version : formed (1 ∷ replicate 232 0) ≡ true
unfolding formed flags_fit
this-version = refl

pub other-version : formed (2 ∷ replicate 232 0) ≡ false
unfolding formed flags_fit
other-version = refl

pub example : Model
example =
    record {
      clock = record { year = 26; month = 11; date = 16; weekday = 1; hour = 4; minute = 5; second = 6; ticks = record { 0 = 7007 }; twelve = true };
      setup = 0x3400 ∷ 0x3501 ∷ 0x3602 ∷ 0x3703 ∷ 0x3804 ∷ 0x3905 ∷ 0x3A06 ∷ 0x3B07 ∷ 0x3C08 ∷ 0x3D09 ∷ 0x3E0A ∷ 0x3F0B ∷ 0x400C ∷ 0x410D ∷ 0x420E ∷ 0x430F ∷ [];
      status = record { timeout = false; alarm = true; tof = true; te = false; ldo = false; tofevtmg = false; tempevtmg = true; flash = true; halt = false; init = true; por = true };
      initialised = false;
      regulator = true;
      flight = record { schedule = record { left = record { 0 = 0x1020304 }; wait = record { 0 = 0x5060708 }; period = record { 0 = 0x90A0B0C }; planned = 31; started = 32; settled = 33; continuous = true; good = 0x141 }; up = true; down = false; sum = record { 0 = 0x102030405060708 }; ups = 0x21000000 ∷ 0x21000001 ∷ 0x21000002 ∷ 0x21000003 ∷ 0x21000004 ∷ 0x21000005 ∷ 0x21000006 ∷ []; downs = 0x22000000 ∷ 0x22000100 ∷ 0x22000200 ∷ 0x22000300 ∷ 0x22000400 ∷ 0x22000500 ∷ 0x22000600 ∷ []; difference = 0xFFFFFFFE };
      temperature = record { schedule = record { left = record { 0 = 0x11121314 }; wait = record { 0 = 0x15161718 }; period = record { 0 = 0x191A1B1C }; planned = 34; started = 35; settled = 36; continuous = false; good = 0x242 }; sums = record { 0 = 0x1112131415161700 } ∷ record { 0 = 0x1112131415161701 } ∷ record { 0 = 0x1112131415161702 } ∷ record { 0 = 0x1112131415161703 } ∷ []; ports = 0x23000000 ∷ 0x23010000 ∷ 0x23020000 ∷ 0x23030000 ∷ [] };
    }

pub example-stored :
    stored example ≡ 1 ∷ 1 ∷ 0 ∷ 1 ∷ 1 ∷ 0 ∷ 0 ∷ 0 ∷ 1 ∷ 1 ∷ 0 ∷ 1 ∷ 1 ∷ 0 ∷ 1 ∷ 1 ∷ 1 ∷ 0 ∷ 0 ∷ 31 ∷ 32 ∷ 33 ∷ 34 ∷ 35 ∷ 36 ∷ 0 ∷ 52 ∷ 1 ∷ 53 ∷ 2 ∷ 54 ∷ 3 ∷ 55 ∷ 4 ∷ 56 ∷ 5 ∷ 57 ∷ 6 ∷ 58 ∷ 7 ∷ 59 ∷ 8 ∷ 60 ∷ 9 ∷ 61 ∷ 10 ∷ 62 ∷ 11 ∷ 63 ∷ 12 ∷ 64 ∷ 13 ∷ 65 ∷ 14 ∷ 66 ∷ 15 ∷ 67 ∷ 65 ∷ 1 ∷ 66 ∷ 2 ∷ 26 ∷ 0 ∷ 0 ∷ 0 ∷ 11 ∷ 0 ∷ 0 ∷ 0 ∷ 16 ∷ 0 ∷ 0 ∷ 0 ∷ 1 ∷ 0 ∷ 0 ∷ 0 ∷ 4 ∷ 0 ∷ 0 ∷ 0 ∷ 5 ∷ 0 ∷ 0 ∷ 0 ∷ 6 ∷ 0 ∷ 0 ∷ 0 ∷ 95 ∷ 27 ∷ 0 ∷ 0 ∷ 4 ∷ 3 ∷ 2 ∷ 1 ∷ 8 ∷ 7 ∷ 6 ∷ 5 ∷ 12 ∷ 11 ∷ 10 ∷ 9 ∷ 20 ∷ 19 ∷ 18 ∷ 17 ∷ 24 ∷ 23 ∷ 22 ∷ 21 ∷ 28 ∷ 27 ∷ 26 ∷ 25 ∷ 0 ∷ 0 ∷ 0 ∷ 33 ∷ 1 ∷ 0 ∷ 0 ∷ 33 ∷ 2 ∷ 0 ∷ 0 ∷ 33 ∷ 3 ∷ 0 ∷ 0 ∷ 33 ∷ 4 ∷ 0 ∷ 0 ∷ 33 ∷ 5 ∷ 0 ∷ 0 ∷ 33 ∷ 6 ∷ 0 ∷ 0 ∷ 33 ∷ 0 ∷ 0 ∷ 0 ∷ 34 ∷ 0 ∷ 1 ∷ 0 ∷ 34 ∷ 0 ∷ 2 ∷ 0 ∷ 34 ∷ 0 ∷ 3 ∷ 0 ∷ 34 ∷ 0 ∷ 4 ∷ 0 ∷ 34 ∷ 0 ∷ 5 ∷ 0 ∷ 34 ∷ 0 ∷ 6 ∷ 0 ∷ 34 ∷ 254 ∷ 255 ∷ 255 ∷ 255 ∷ 0 ∷ 0 ∷ 0 ∷ 35 ∷ 0 ∷ 0 ∷ 1 ∷ 35 ∷ 0 ∷ 0 ∷ 2 ∷ 35 ∷ 0 ∷ 0 ∷ 3 ∷ 35 ∷ 8 ∷ 7 ∷ 6 ∷ 5 ∷ 4 ∷ 3 ∷ 2 ∷ 1 ∷ 0 ∷ 23 ∷ 22 ∷ 21 ∷ 20 ∷ 19 ∷ 18 ∷ 17 ∷ 1 ∷ 23 ∷ 22 ∷ 21 ∷ 20 ∷ 19 ∷ 18 ∷ 17 ∷ 2 ∷ 23 ∷ 22 ∷ 21 ∷ 20 ∷ 19 ∷ 18 ∷ 17 ∷ 3 ∷ 23 ∷ 22 ∷ 21 ∷ 20 ∷ 19 ∷ 18 ∷ 17 ∷ []
unfolding stored single double quadruple octuple clock_words waits bytes_of all_bytes example
example-stored = refl

-- it has the lengths and ranges of its types, so it comes back
all_below : ℕ → List ℕ → Bool
all_below n [] = true
all_below n (x ∷ xs) = both (ltb x n) (all_below n xs)

below : (n : ℕ) (xs : List ℕ) → all_below n xs ≡ true → Below n xs
unfolding all_below
below n [] = λ e. none
below n (x ∷ xs) =
    by-ltb x n
    (λ h t. rw t (λ e. more h (below n xs e)))
    (λ h t. rw t (λ (e : false ≡ true). let z : ◌≡◌ {A = ℕ} 0 1 = cc in absurd (omega arith)))

example-fits : Fits example
unfolding example double quadruple octuple clock_words waits bound all_below
example-fits =
    record {
      setup = refl;
      ups = refl;
      downs = refl;
      sums = refl;
      ports = refl;
      doubles = below (bound 2) (double example) refl;
      quadruples = below (bound 4) (quadruple example.clock example.flight example.temperature) refl;
      octuples = below (bound 8) (octuple example.flight example.temperature) refl;
    }

pub example-back : loaded (stored example) ≡ example
example-back = load_store example example-fits
