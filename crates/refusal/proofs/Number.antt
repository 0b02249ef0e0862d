-- A refusal's number is the place of its word.
use Prim.Native.Nat.{ℕ, ◌≤◌}
use native.Mathlib.Omega.{arith}
use mathlib.Core.Path.{◌≡◌, refl, ap, sym, ◌∙◌}
use mathlib.Core.List.{List, [], ◌∷◌}
use lib.ListN.{get_or}
use denote.Enum.Declared.{tag_of}
use Rattle.refusal.specs.contracts.Refusal.{the_type}
use Rattle.refusal.specs.declared.Refusal.{Refusal}
use Rattle.refusal.specs.declared.Refusal.TheVariants.{NotSound, NoFrame, Opcode, FrameLength, Address, ShortOutput, Busy, Calendar, NotInitialised, SetUp, NotAwaited, WordCount, Span, OffTable, BadTable, SupplyOff, FlashAddress, NotErased, Width, ShortBuffer, LastCapture, ShortListing}
use Rattle.refusal.specs.Number.{number}

pub numbered : (r : Refusal) → tag_of the_type r ≡ number r
numbered NotSound = refl
numbered NoFrame = refl
numbered Opcode = refl
numbered FrameLength = refl
numbered Address = refl
numbered ShortOutput = refl
numbered Busy = refl
numbered Calendar = refl
numbered NotInitialised = refl
numbered SetUp = refl
numbered NotAwaited = refl
numbered WordCount = refl
numbered Span = refl
numbered OffTable = refl
numbered BadTable = refl
numbered SupplyOff = refl
numbered FlashAddress = refl
numbered NotErased = refl
numbered Width = refl
numbered ShortBuffer = refl
numbered LastCapture = refl
numbered ShortListing = refl

-- no number is above 21
pub at_most : (r : Refusal) → number r ≤ 21
at_most NotSound = omega arith
at_most NoFrame = omega arith
at_most Opcode = omega arith
at_most FrameLength = omega arith
at_most Address = omega arith
at_most ShortOutput = omega arith
at_most Busy = omega arith
at_most Calendar = omega arith
at_most NotInitialised = omega arith
at_most SetUp = omega arith
at_most NotAwaited = omega arith
at_most WordCount = omega arith
at_most Span = omega arith
at_most OffTable = omega arith
at_most BadTable = omega arith
at_most SupplyOff = omega arith
at_most FlashAddress = omega arith
at_most NotErased = omega arith
at_most Width = omega arith
at_most ShortBuffer = omega arith
at_most LastCapture = omega arith
at_most ShortListing = omega arith

-- two refusals of one number are one
abbrev every : List Refusal
every =
    NotSound ∷ NoFrame ∷ Opcode ∷ FrameLength ∷ Address ∷ ShortOutput ∷ Busy ∷ Calendar ∷ NotInitialised ∷ SetUp ∷ NotAwaited ∷ WordCount
    ∷ Span ∷ OffTable ∷ BadTable ∷ SupplyOff ∷ FlashAddress ∷ NotErased ∷ Width ∷ ShortBuffer ∷ LastCapture ∷ ShortListing ∷ []

at_number : (r : Refusal) → get_or every (number r) NotSound ≡ r
at_number NotSound = refl
at_number NoFrame = refl
at_number Opcode = refl
at_number FrameLength = refl
at_number Address = refl
at_number ShortOutput = refl
at_number Busy = refl
at_number Calendar = refl
at_number NotInitialised = refl
at_number SetUp = refl
at_number NotAwaited = refl
at_number WordCount = refl
at_number Span = refl
at_number OffTable = refl
at_number BadTable = refl
at_number SupplyOff = refl
at_number FlashAddress = refl
at_number NotErased = refl
at_number Width = refl
at_number ShortBuffer = refl
at_number LastCapture = refl
at_number ShortListing = refl

pub number-same : (r s : Refusal) → number r ≡ number s → r ≡ s
number-same r s e = sym (at_number r) ∙ ap (λ n. get_or every n NotSound) e ∙ at_number s
