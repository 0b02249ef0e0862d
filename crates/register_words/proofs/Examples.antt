-- The bounds in plain numbers: the largest words meet them, the next ones do not, and a register then reads more than 16 bits. Assumes
-- nothing.
use Prim.Native.Nat.{ℕ}
use native.Mathlib.Omega.{arith}
use mathlib.Core.List.{[], ◌∷◌}
use mathlib.Core.Path.{◌≡◌, refl}
use Rattle.setup.specs.Setup.{factory}
use Rattle.frame.specs.Frame.{word_at}
use Rattle.device.specs.declared.Model.{Model}
use Rattle.device.specs.Model.{fresh_with, fresh_model, with_setup, with_flight, no_flight, no_temperature}
use Rattle.device.specs.Registers.{half, flight_word, register_word}
use Rattle.device.specs.Write.{with_word, setup_after, write_model}
use Rattle.device.specs.Call.{transaction}
use Rattle.register_words.specs.Words.{Words, CallFits}

-- a fresh model whose register 34h holds the word
abbrev holding : ℕ → Model
holding w = with_setup fresh_model (w ∷ 0 ∷ 0 ∷ 0 ∷ 0x10 ∷ 0 ∷ 0 ∷ 0 ∷ 0 ∷ 0 ∷ 0 ∷ 0 ∷ 0 ∷ 0 ∷ 0 ∷ 0 ∷ [])

-- a fresh model whose TOF_DIFF holds the word
abbrev differing : ℕ → Model
differing w = with_flight fresh_model record {
  schedule = no_flight.schedule;
  up = no_flight.up;
  down = no_flight.down;
  sum = no_flight.sum;
  ups = no_flight.ups;
  downs = no_flight.downs;
  difference = w;
}

-- FFFFh is a word of 16 bits, 65,536 is none, and FFFFFFFFh is one of 32 bits, 2^32 none.
pub largest-word : Words (holding 65535)
unfolding fresh_model fresh_with no_flight no_temperature
largest-word = record {
  setup = record { long = refl; below = omega arith };
  ups = record { long = refl; below = omega arith };
  downs = record { long = refl; below = omega arith };
  difference = omega arith;
  ports = record { long = refl; below = omega arith };
}

pub past-largest : ¬ (Words (holding 65536))
past-largest w = omega (arith, w.setup.below.0)

pub largest-result : Words (differing 4294967295)
unfolding fresh_model fresh_with factory no_flight no_temperature
largest-result = record {
  setup = record { long = refl; below = omega arith };
  ups = record { long = refl; below = omega arith };
  downs = record { long = refl; below = omega arith };
  difference = omega arith;
  ports = record { long = refl; below = omega arith };
}

pub past-result : ¬ (Words (differing 4294967296))
past-result w = omega (arith, w.difference)

-- What the registers read of these four: B4h, or E2h.
pub reads-them :
    register_word (holding 65535) 0xB4 ∷ register_word (holding 65536) 0xB4 ∷ register_word (differing 4294967295) 0xE2 ∷ register_word (differing 4294967296) 0xE2 ∷ []
    ≡ 65535 ∷ 65536 ∷ 65535 ∷ 65536 ∷ []
unfolding register_word flight_word half
reads-them = refl

-- A write of 34h with the bytes 255 and 255 gives 65,535; with 256 and 0, which are no bytes, it would give 65,536.
pub bytes_fit : CallFits (transaction (0x34 ∷ 255 ∷ 255 ∷ []) [] [])
bytes_fit = omega arith

pub past_bytes : ¬ (CallFits (transaction (0x34 ∷ 256 ∷ 0 ∷ []) [] []))
past_bytes b = omega (arith, b.1.0)

pub written-largest :
    register_word (write_model (255 ∷ 255 ∷ []) 0x34 1 fresh_model) 0xB4 ∷ register_word (write_model (256 ∷ 0 ∷ []) 0x34 1 fresh_model) 0xB4 ∷ []
    ≡ 65535 ∷ 65536 ∷ []
unfolding register_word write_model setup_after with_word word_at fresh_model fresh_with factory
written-largest = refl
