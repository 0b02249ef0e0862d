-- How long the answers of the lines on the record and the probe table are at most. Assumes nothing.
use Prim.Native.Nat.{ℕ, ◌+◌, ◌*◌, ◌≤◌}
use mathlib.Core.Bool.{Bool, true, false}
use mathlib.Core.List.{List, [], ◌∷◌}
use mathlib.Core.Path.{◌≡◌, refl}
use native.Mathlib.Omega.{arith}
use native.Mathlib.Nat.{mul-le-mul_left}
use lib.IntN.{ℤ, pos}
use lib.ListN.{length, take, drop, length-take}
use lib.Seq.{get_or-take}
use Rattle.unit.proofs.Cases.{by-test, by-ltb, by_eqb}
use Rattle.numeral.specs.Digit.{digits, glyph}
use Rattle.numeral.specs.Print.{width_from, decimal_width, decimal}
use Rattle.device.specs.declared.Model.{Model}
use Rattle.quietest.specs.Quietest.{quietest_place, run_spread}
use Rattle.listing.specs.Listing.{capture_digits, line_length, lines, last_above}
use Rattle.listing.proofs.Meaning.{Fit, lines-length}
use Rattle.numeral.specs.Ascii.{ascii}
use Rattle.wording.specs.Wording.{line_feed, probe, degrees, refusal_words, refusal_word, refusal, refused, difference, listing_head, quietest, difference_texts, record_texts}
use Rattle.item_analysis.specs.Lines.{record_words, width_of}
use Rattle.answer_text.specs.Texts.{told_of_probe, told_in_degrees, told_of_degrees, told_of_record, told_of_listing, told_of_place, told_of_quietest}
use Rattle.answer_length.proofs.Sizes.{size, size-append, take-most, signed-most, thousandths-most, counted-size, refused-size}
use Rattle.refusal.specs.declared.Refusal.{Refusal}
use Rattle.refusal.specs.Number.{number}
use Rattle.std.specs.Prelude.{Result, Ok, Err}

-- ---- `probe`

probe-size : (entries : ℕ) → size (probe entries) ≤ 27
unfolding size probe ascii
probe-size entries = omega (arith, counted-size entries line_feed)

pub told-probe-size : (entries probes counts : List ℕ) → size (told_of_probe entries probes counts).texts ≤ 27
unfolding told_of_probe
told-probe-size entries probes counts = probe-size _

-- ---- `degrees`

in-degrees-size : (told : Result ℕ Refusal) (counts : List ℕ) → size (told_in_degrees told counts).texts ≤ 48
unfolding size told_in_degrees degrees ascii
in-degrees-size (Ok n) counts = omega (arith, thousandths-most n)
in-degrees-size (Err r) counts = omega (arith, refused-size (ascii "degrees") (number r))

pub told-degrees-size : (numbers probes counts : List ℕ) → size (told_of_degrees numbers probes counts).texts ≤ 48
unfolding size told_of_degrees
told-degrees-size numbers probes counts =
    by-ltb (length numbers) 2 (λ h e. rw e (omega arith)) (λ h e. rw e (in-degrees-size _ counts))

-- ---- `record`

differences-size : (ws : List ℕ) → size (difference_texts ws) ≤ 12 * length ws
unfolding size difference_texts difference ascii
differences-size [] = omega arith
differences-size (w ∷ ws) = rw size-append (omega (arith, signed-most w, differences-size ws))

record-size : (ws : List ℕ) → size (record_texts ws) ≤ 7 + 12 * length ws
unfolding size record_texts ascii
record-size ws = rw size-append (omega (arith, differences-size ws))

words-few : (m : Model) (numbers : List ℕ) (n : ℕ) → length numbers ≤ 512 → length (record_words m numbers n) ≤ 512
unfolding record_words
words-few m numbers n h = by_eqb n 0 (λ p e. rw e (omega arith)) (λ p e. rw e (omega (arith, (take-most n numbers).1)))

pub told-record-size : (m : Model) (numbers : List ℕ) (n : ℕ) (differences : List ℤ) (counts : List ℕ) → length numbers ≤ 512
    → size (told_of_record (record_words m numbers n) differences counts).texts ≤ 6151
unfolding told_of_record
told-record-size m numbers n differences counts h =
    omega (arith, record-size (record_words m numbers n), words-few m numbers n h)

-- ---- `quietest`

place-size : (place : Result ℕ Refusal) (values : List ℤ) (width : ℕ) (counts : List ℕ) → size (told_of_place place values width counts).texts ≤ 51
unfolding size told_of_place quietest ascii
place-size (Ok start) values width counts =
    rw size-append (omega (arith, counted-size start (ascii " "), counted-size (run_spread (take width (drop start values))) line_feed))
place-size (Err r) values width counts = omega (arith, refused-size (ascii "quietest") (number r))

pub told-quietest-size : (width : ℕ) (values : List ℤ) (counts : List ℕ) → size (told_of_quietest width values counts).texts ≤ 51
unfolding told_of_quietest
told-quietest-size width values counts = place-size (quietest_place values width) values width counts

-- ---- `listing`

-- a part of the record fits where the whole does
taken-fit : (n : ℕ) (values : List ℤ) → Fit values → Fit (take n values)
taken-fit n values fit k h =
    let long = length-take n values in
    rw (get_or-take n values k (pos 0) (omega arith)) (fit k (omega arith))

line-most : (old : Bool) → line_length (capture_digits (width_of old)) ≤ 23
unfolding line_length width_of
line-most true = omega arith
line-most false = omega arith

lines-most : (old : Bool) (first : ℕ) (values : List ℤ) → Fit values
    → length (lines (capture_digits (width_of old)) first values) ≤ 23 * length values
lines-most old first values fit =
    let d : ℕ = capture_digits (width_of old) in
    let each : length values * line_length d ≤ length values * 23 = mul-le-mul_left (length values) (line-most old) in
    rw (lines-length d first values fit) (omega arith)

twenty-size : size (refused (ascii "listing") 20) ≡ 29
unfolding size refused refusal refusal_word refusal_words decimal decimal_width width_from digits glyph ascii
twenty-size = refl

pub told-listing-size : (old : Bool) (first n used : ℕ) (differences : List ℤ) (counts : List ℕ) → Fit differences
    → size (told_of_listing (capture_digits (width_of old)) first (take n differences) used counts).texts ≤ 29 + 23 * length differences
unfolding size told_of_listing listing_head ascii
told-listing-size old first n used differences counts fit =
    let d : ℕ = capture_digits (width_of old) in
    let values : List ℤ = take n differences in
    by-test (last_above d first (length values))
    (λ e. rw e (omega (arith, twenty-size)))
    (λ e. rw (e, size-append)
    (omega (
      arith,
      counted-size used line_feed,
      lines-most old first values (taken-fit n differences fit),
      length-take n differences,
    )))
