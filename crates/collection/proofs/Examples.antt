-- The files of a run in plain words and numbers. Assumes nothing.
use Prim.Native.Nat.{ℕ}
use Prim.Native.String.{String}
use mathlib.Core.Bool.{Bool, true, false}
use mathlib.Core.List.{List, [], ◌∷◌}
use mathlib.Core.Path.{◌≡◌, refl}
use Rattle.numeral.specs.Ascii.{ascii}
use Rattle.numeral.specs.Digit.{digits, glyph}
use Rattle.numeral.specs.Place.{joined as text, overwrite, next_place, written, put_each}
use Rattle.numeral.specs.Print.{width_from, decimal_width, decimal}
use Rattle.collection.specs.declared.Outcome.{Outcome}
use Rattle.collection.specs.declared.Kinds.{Kinds}
use Rattle.collection.specs.declared.Group.{Group}
use Rattle.collection.specs.declared.Tally.{Tally}
use Rattle.collection.specs.Kind.{kinds, agreeing}
use Rattle.collection.specs.Group.{one_more, name_texts, Members, joined}
use Rattle.collection.specs.Tally.{none, Collection, collection, tally_of, agreed, after, File, collected}
use Rattle.collection.specs.Summary.{heading_texts, head_texts, more_texts, group_texts, groups_texts, first_counts, last_counts, summary_texts}

-- What a replay came to: whether the file was read to its end, unannounced refusals, bad lines, expectations, those that differ.
abbrev came : Bool → ℕ → ℕ → ℕ → ℕ → Outcome
came whole unannounced bad expected differ = record { whole = whole; unannounced = unannounced; bad = bad; expected = expected; differ = differ }

-- What a file is: expectations differ, unannounced refusals, bad lines, cannot be read, no expectation.
abbrev is : Bool → Bool → Bool → Bool → Bool → Kinds
is differ unannounced bad unread plain = record { differ = differ; unannounced = unannounced; bad = bad; unread = unread; plain = plain }

-- ---- one file

file-kinds : (kinds (came true 0 0 3 0) ≡ is false false false false false) × (kinds (came true 0 0 3 1) ≡ is true false false false false)
    × (kinds (came true 2 0 3 0) ≡ is false true false false false) × (kinds (came true 0 4 3 0) ≡ is false false true false false)
    × (kinds (came true 0 0 0 0) ≡ is false false false false true) × (kinds (came false 2 4 3 1) ≡ is false false false true false)
unfolding kinds
file-kinds = (refl, refl, refl, refl, refl, refl)

-- "a file agrees that stands under none"
agrees-alone : (agreeing (is false false false false false) ≡ true) × (agreeing (is true false false false false) ≡ false)
    × (agreeing (is false true false false false) ≡ false) × (agreeing (is false false true false false) ≡ false)
    × (agreeing (is false false false true false) ≡ false) × (agreeing (is false false false false true) ≡ false)
unfolding agreeing
agrees-alone = (refl, refl, refl, refl, refl, refl)

-- `== a.item ==`
heading : text (heading_texts (ascii "a.item")) ≡ ascii "== a.item ==\n"
unfolding text heading_texts ascii
heading = refl

-- ---- a group

abbrev group : ℕ → ℕ → ℕ → Group
group count named used = record { count = count; named = named; used = used }

abbrev members : ℕ → ℕ → ℕ → String → Members
members count named used names = record { group = group count named used; names = ascii names }

-- A name takes its own length and three places: two blanks before it, a line feed behind it. One whose line has no room is
-- counted and not named: the places that are used stay four.
grouped : (joined true (ascii "a") (members 0 0 0 "........") ≡ members 1 1 4 "  a\n....") × (joined true (ascii "bc") (members 1 1 4 "  a\n....") ≡ members 2 1 4 "  a\n  bc")
    × (joined true (ascii "b") (members 5 1 4 "  a\n....") ≡ members 6 2 8 "  a\n  b\n") × (joined false (ascii "b") (members 1 1 4 "  a\n....") ≡ members 1 1 4 "  a\n....")
unfolding joined name_texts put_each written next_place overwrite ascii
grouped = (refl, refl, refl, refl)

-- The largest number is reached, and stays.
most : (one_more 18446744073709551614 ≡ 18446744073709551615) × (one_more 18446744073709551615 ≡ 18446744073709551615)
most = (refl, refl)

-- `  and 3 more`, and nothing where all are named
more-told : (text (more_texts (group 5 2 8)) ≡ ascii "  and 3 more\n") × (more_texts (group 2 2 8) ≡ [])
unfolding text more_texts decimal decimal_width width_from digits glyph ascii
more-told = (refl, refl)

group-told : (text (group_texts (ascii "bad lines") (members 3 2 8 "  a\n  b\n..")) ≡ ascii "bad lines: 3\n  a\n  b\n  and 1 more\n") × (group_texts (ascii "bad lines") (members 0 0 0 "..") ≡ [])
unfolding text group_texts more_texts decimal decimal_width width_from digits glyph ascii
group-told = (refl, refl)

-- ---- a run

abbrev empty : Collection
empty = collection none (ascii "........") (ascii "........") (ascii "........") (ascii "........") (ascii "........")

abbrev file : String → Outcome → File
file name o = record { name = ascii name; outcome = o }

abbrev filled : Collection
filled = record {
  files = 20;
  agree = 13;
  differ = members 5 1 4 "  d\n....";
  unannounced = members 4 1 4 "  r\n....";
  bad = members 3 1 4 "  b\n....";
  unread = members 2 1 4 "  m\n....";
  plain = members 1 1 4 "  p\n....";
}

-- each buffer with its group, and the groups again
of-groups : (collection (tally_of filled) (ascii "  d\n....") (ascii "  r\n....") (ascii "  b\n....") (ascii "  m\n....") (ascii "  p\n....") ≡ filled)
    × (tally_of filled ≡ record { files = 20; agree = 13; differ = group 5 1 4; unannounced = group 4 1 4; bad = group 3 1 4; unread = group 2 1 4; plain = group 1 1 4 })
of-groups = (refl, refl)

-- Files a to f: one agrees, and one is of each kind.
six-files : collected (file "a" (came true 0 0 3 0) ∷ file "d" (came true 0 0 3 1) ∷ file "r" (came true 2 0 3 0) ∷ file "b" (came true 0 4 3 0) ∷ file "m" (came false 0 0 0 0) ∷ file "p" (came true 0 0 0 0) ∷ []) empty
    ≡ record {
      files = 6;
      agree = 1;
      differ = members 1 1 4 "  d\n....";
      unannounced = members 1 1 4 "  r\n....";
      bad = members 1 1 4 "  b\n....";
      unread = members 1 1 4 "  m\n....";
      plain = members 1 1 4 "  p\n....";
    }
unfolding collected after agreed agreeing kinds joined name_texts put_each written next_place overwrite ascii
six-files = refl

-- The summary, in the order of its groups and counts.
whole-summary : text (summary_texts filled)
    ≡ ascii "== 20 files ==\nexpectations differ: 5\n  d\n  and 4 more\nunannounced refusals: 4\n  r\n  and 3 more\nbad lines: 3\n  b\n  and 2 more\ncannot be read: 2\n  m\n  and 1 more\nno expectation: 1\n  p\nend 20 files, 13 agree, 5 differ, 4 unannounced, 3 bad lines, 2 cannot be read, 1 no expectation\n"
unfolding text summary_texts head_texts groups_texts group_texts more_texts first_counts last_counts decimal decimal_width width_from digits glyph ascii
whole-summary = refl
