-- Lines on what an item keeps, in plain numbers. Assumes nothing.
use Prim.Native.Nat.{ℕ}
use Prim.Native.String.{String}
use mathlib.Core.Bool.{true, false}
use mathlib.Core.List.{List, [], ◌∷◌}
use mathlib.Core.Path.{◌≡◌, refl}
use lib.IntN.{pos, negsuc}
use Rattle.numeral.specs.Digit.{digits, glyph}
use Rattle.numeral.specs.Place.{joined, overwrite, next_place, written, put_each}
use Rattle.numeral.specs.Print.{width_from, decimal_width, decimal, signed_decimal, thousandths, ten_thousandths, four_decimals, nanoseconds}
use Rattle.device.specs.declared.Model.{Model}
use Rattle.thermometer.specs.Degrees.{degrees, degrees_by}
use Rattle.difference.specs.Difference.{joined_word, signed_of}
use Rattle.listing.specs.declared.Width.{Width}
use Rattle.listing.specs.Listing.{sign, right_justified, line, line_length, lines, last_above, listing}
use Rattle.quietest.specs.Quietest.{larger, smaller, extreme, spread, quieter, quietest_place, run_spread}
use Rattle.numeral.specs.Ascii.{ascii}
use Rattle.wording.specs.Wording.{difference, difference_texts, record_texts, counted as Wording·counted, probe, degrees as degrees_texts, refusal_words, refusal_word, refusal, refused, listing_head, quietest}
use Rattle.item_state.specs.Log.{Log, added, said, call_counted, counted, called}
use Rattle.item_state.specs.Told.{read_word}
use Rattle.item_analysis.specs.Kept.{Kept, kept_one, kept_each}
use Rattle.item_analysis.specs.Lines.{probe_line, degrees_of, degrees_told, degrees_line, record_line, tof_diff, record_words, width_of, listed_at, listing_told, listing_line, quietest_told, quietest_line}
use Rattle.refusal.specs.declared.Refusal.{Refusal}
use Rattle.refusal.specs.Number.{number}
use Rattle.std.specs.Prelude.{Ok, Err}

abbrev kept : List ℕ → ℕ → Kept ℕ
kept values used = record { values = values; used = used }

-- Two more behind one; of two more the first alone, where one place is left.
two-more : kept_each (7 ∷ 8 ∷ []) (kept (5 ∷ 0 ∷ 0 ∷ []) 1) ≡ kept (5 ∷ 7 ∷ 8 ∷ []) 3
unfolding kept_each kept_one
two-more = refl

one_place : kept_each (7 ∷ 8 ∷ []) (kept (5 ∷ 6 ∷ 0 ∷ []) 2) ≡ kept (5 ∷ 6 ∷ 7 ∷ []) 3
unfolding kept_each kept_one
one_place = refl

-- The item's own table, once it has an entry.
own-table : (a b : ℕ) → (degrees_of [] a b ≡ degrees a b) × (degrees_of (100000 ∷ []) a b ≡ degrees_by (100000 ∷ []) a b)
unfolding degrees_of
own-table a b = (refl, refl)

-- `record 5 -1`
a-record : joined (record_texts (5 ∷ 4294967295 ∷ [])) ≡ ascii "record 5 -1\n"
unfolding record_texts difference_texts difference signed_decimal decimal decimal_width width_from digits glyph joined ascii
a-record = refl

-- ---- whole lines

-- Where the answers end, the calls, the refusals, the differences in the record, the entries of the probe table; and the answers.
abbrev log : ℕ → ℕ → ℕ → ℕ → ℕ → String → Log
log used calls refused kept entries text =
    record { counts = used ∷ 21 ∷ 22 ∷ calls ∷ refused ∷ 25 ∷ 26 ∷ 27 ∷ 28 ∷ 29 ∷ kept ∷ entries ∷ 32 ∷ []; answers = ascii text }

-- `probe 300 7` behind one entry
a-probe : probe_line (300 ∷ 7 ∷ []) record { probes = 5 ∷ 0 ∷ 0 ∷ 0 ∷ []; log = log 2 8 3 6 1 "ab........" }
    ≡ record { probes = 5 ∷ 300 ∷ 7 ∷ 0 ∷ []; log = log 10 8 3 6 3 "abprobe 3\n" }
unfolding probe_line kept_each kept_one said probe Wording·counted put_each written next_place overwrite decimal decimal_width width_from digits glyph ascii
a-probe = refl

-- A temperature, and one that is off the table: each is a call, and the second is refused.
degrees-told : (degrees_told (Ok 21500) (log 2 8 3 6 1 "ab................") ≡ log 17 9 3 6 1 "abdegrees 21.500\n.")
    × (degrees_told (Err Refusal.OffTable) (log 2 8 3 6 1 "ab............................") ≡ log 30 9 4 6 1 "abdegrees no 13 off the table\n")
unfolding degrees_told called counted call_counted added degrees_texts refused refusal refusal_word refusal_words put_each written next_place overwrite thousandths decimal decimal_width width_from digits glyph ascii
degrees-told = (refl, refl)

-- The line's two numbers, by the one entry that the table has; a line with one number is none.
degrees-line : (a b : ℕ) → (degrees_line (a ∷ b ∷ []) (100000 ∷ 7 ∷ []) (log 2 8 3 6 1 "ab") ≡ degrees_told (degrees_by (100000 ∷ []) a b) (log 2 8 3 6 1 "ab"))
    × (degrees_line (a ∷ []) (100000 ∷ 7 ∷ []) (log 2 8 3 6 1 "ab") ≡ log 2 8 3 6 1 "ab")
unfolding degrees_line degrees_of
degrees-line a b = (refl, refl)

-- `record 5 -1` behind one difference
a-record-line : record_line (5 ∷ 4294967295 ∷ []) record { differences = pos 7 ∷ pos 0 ∷ pos 0 ∷ pos 0 ∷ []; log = log 2 8 3 1 6 "ab............" }
    ≡ record { differences = pos 7 ∷ pos 5 ∷ negsuc 0 ∷ pos 0 ∷ []; log = log 14 8 3 3 6 "abrecord 5 -1\n" }
unfolding record_line record_texts difference_texts difference kept_each kept_one signed_of said put_each written next_place overwrite signed_decimal decimal decimal_width width_from digits glyph ascii
a-record-line = refl

-- The words of the line, or TOF_DIFF: FFFE1432h of FFFEh in E2h and 1432h in E3h.
words-recorded : (m : Model) → (record_words m (5 ∷ 6 ∷ 7 ∷ []) 2 ≡ 5 ∷ 6 ∷ []) × (read_word m 0xE2 ≡ 0xFFFE → read_word m 0xE3 ≡ 0x1432 → record_words m (5 ∷ 6 ∷ 7 ∷ []) 0 ≡ 0xFFFE1432 ∷ [])
unfolding record_words tof_diff joined_word
words-recorded m = (refl, λ high low. rw (high, low) refl)

-- "printed in eight digits, or with `old` in two"
widths : (width_of true ≡ Width.Two) × (width_of false ≡ Width.Eight)
unfolding width_of
widths = (refl, refl)

-- A buffer of two bytes has the place 2, behind its last byte, and no place 3.
places : (listed_at 2 [] 0 (97 ∷ 98 ∷ []) 2 ≡ record { answer = Ok 0; bytes = 97 ∷ 98 ∷ [] })
    × (listed_at 2 [] 0 (97 ∷ 98 ∷ []) 3 ≡ record { answer = Err Refusal.ShortListing; bytes = 97 ∷ 98 ∷ [] })
unfolding listed_at listing last_above line_length lines
places = (refl, refl)

-- 34 bytes that were written from the place 12 on, no more than the largest number, and a refusal, which is counted
listing-told : (listing_told (Ok 34) 12 (log 2 8 3 6 1 "ab") ≡ log 46 9 3 6 1 "ab")
    × (listing_told (Ok 1) 18446744073709551615 (log 2 8 3 6 1 "ab") ≡ log 18446744073709551615 9 3 6 1 "ab")
    × (listing_told (Err Refusal.LastCapture) 12 (log 2 8 3 6 1 "ab..............................") ≡ log 31 9 4 6 1 "ablisting no 20 capture number\n.")
unfolding listing_told called counted call_counted added refused refusal refusal_word refusal_words put_each written next_place overwrite decimal decimal_width width_from digits glyph ascii
listing-told = (refl, refl, refl)

-- `listing old FE` of two differences; what lies behind them in the record's buffer is none.
a-listing : listing_line true 0xFE (pos 65536 ∷ negsuc 0 ∷ pos 9 ∷ []) (log 2 8 3 2 5 "ab..............................................")
    ≡ log 46 9 3 2 5 "ablisting 2\nFE      250.0000\nFF -      0.0038\n.."
unfolding listing_line listed_at listing_told width_of listing last_above line_length lines line sign right_justified nanoseconds ten_thousandths four_decimals counted call_counted added listing_head Wording·counted put_each written next_place overwrite decimal decimal_width width_from digits glyph ascii
a-listing = refl

-- `quietest 2` of 5, 9 and 7, and `quietest 4` of them
a-quietest : (quietest_line 2 (pos 5 ∷ pos 9 ∷ pos 7 ∷ pos 7 ∷ []) (log 2 8 3 3 5 "ab..............") ≡ log 15 9 3 3 5 "abquietest 1 2\n.")
    × (quietest_line 4 (pos 5 ∷ pos 9 ∷ pos 7 ∷ pos 7 ∷ []) (log 2 8 3 3 5 "ab......................") ≡ log 23 9 4 3 5 "abquietest no 18 width\n.")
unfolding quietest_line quietest_told quietest_place quieter spread extreme larger smaller run_spread called counted call_counted added quietest Wording·counted refused refusal refusal_word refusal_words put_each written next_place overwrite decimal decimal_width width_from digits glyph ascii
a-quietest = (refl, refl)
