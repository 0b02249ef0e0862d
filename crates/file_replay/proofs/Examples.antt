-- Places, headings and what the operating system answers, in plain words and numbers. Assumes nothing.
use Prim.Native.Nat.{ℕ}
use mathlib.Core.Bool.{true, false}
use mathlib.Core.List.{[], ◌∷◌}
use mathlib.Core.Path.{◌≡◌, refl}
use Rattle.std.specs.Prelude.{Result, Ok, Err}
use Rattle.numeral.specs.Ascii.{ascii}
use Rattle.numeral.specs.Place.{joined}
use Rattle.collection.specs.Summary.{heading_texts}
use Rattle.file_replay.specs.declared.names.Source.{Source}
use Rattle.file_replay.specs.declared.names.SourceState.{SourceState}
use Rattle.file_replay.specs.declared.names.SourceState.TheVariants.{Seeking, Found, Broken, NoMore}
use Rattle.file_replay.specs.Sources.{is_there, unused, place_behind, AfterRead}
use Rattle.file_replay.specs.Files.{is_descriptor, headed, places}

-- Of two files from place 3 on, the next arguments are at 4 and 5.
next-places : (places 2 3 ≡ 4 ∷ 5 ∷ []) × (places 0 3 ≡ []) × (place_behind 18446744073709551615 ≡ 18446744073709551615)
unfolding places
next-places = (refl, refl, refl)

-- What the system answers: a number, or that of a failure.
abbrev good : ℕ → Result ℕ ℕ
good n = Ok n

abbrev bad : ℕ → Result ℕ ℕ
bad e = Err e

descriptors : (is_descriptor (good 0) ≡ true) × (is_descriptor (good 3) ≡ true) × (is_descriptor (bad 0) ≡ false)
unfolding is_descriptor
descriptors = (refl, refl, refl)

headings : (headed true (ascii "a.item") ≡ ascii "== a.item ==\n") × (headed false (ascii "a.item") ≡ [])
unfolding headed heading_texts joined ascii
headings = (refl, refl)

-- A source of a list whose bytes 1 and 2 are read and not used, in a state.
abbrev source : SourceState → Source
source state = record { listed = true; list = 2; at = 1; end = 3; next = 4; left = 5; state = state; length = 6 }

not-used : unused (source Found) (ascii "abcd") ≡ ascii "bc"
unfolding ascii
not-used = refl

there : (is_there (source Found) ≡ true) × (is_there (source Broken) ≡ true) × (is_there (source NoMore) ≡ false)
there = (refl, refl, refl)

-- Of eight bytes that the system told two are read, the buffer having no room for more, and those of the name that are held stay.
two-read : AfterRead (good 8) 4 5 6 2 (ascii "name") record { listed = true; list = 2; at = 0; end = 2; next = 4; left = 5; state = Seeking; length = 6 } (ascii "name")
unfolding AfterRead
two-read = (record { list = refl; is = refl; place = refl; more = refl }, refl, refl, refl, refl)

-- A list that can't be read stands under its own name.
none_read : AfterRead (bad 0) 4 5 6 2 [] record { listed = false; list = 2; at = 0; end = 0; next = 4; left = 5; state = Broken; length = 1 } []
unfolding AfterRead
none_read = record { list = refl; is = refl; place = refl; more = refl }
