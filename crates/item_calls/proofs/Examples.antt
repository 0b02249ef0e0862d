-- Lines that move the model, in plain numbers. Assumes nothing.
use mathlib.Core.Bool.{true, false}
use mathlib.Core.List.{List, [], ◌∷◌}
use mathlib.Core.Path.{◌≡◌, refl}
use Prim.Native.Nat.{ℕ}
use Rattle.numeral.specs.Digit.{digits, glyph}
use Rattle.numeral.specs.Place.{joined}
use Rattle.numeral.specs.Print.{low_bytes, width_from, decimal_width, decimal}
use Rattle.device.specs.declared.StretchReport.{StretchReport}
use Rattle.device.specs.declared.Answer.TheVariants.{Refused, Accepted, Stretched}
use Rattle.numeral.specs.Ascii.{ascii}
use Rattle.wording.specs.Wording.{tick_reports, next_named, sooner, named, later_named, report_at}
use Rattle.device.specs.Reply.{number_in}
use Rattle.item_state.specs.Log.{added, refusals}
use Rattle.item_calls.specs.Buffer.{buffer_size}
use Rattle.item_calls.specs.Lines.{item_counts, start_moment, moved, moved_by, write_bytes, word_bytes, stretch_reports}
use Rattle.refusal.specs.declared.Refusal.{Refusal}

-- `set 38 1234 AB`: the address, and each word high byte first.
a_write : joined (write_bytes 0x38 (0x1234 ∷ 0xAB ∷ [])) ≡ 0x38 ∷ 0x12 ∷ 0x34 ∷ 0x00 ∷ 0xAB ∷ []
unfolding joined write_bytes word_bytes low_bytes
a_write = refl

-- Output buffers: of a read's four bytes four, of its five four, of 90h two, of a write and of no byte none.
buffers : (buffer_size (0xB0 ∷ 0 ∷ 0 ∷ 0 ∷ 0 ∷ []) ≡ 4) × (buffer_size (0xE2 ∷ 0 ∷ 0 ∷ 0 ∷ 0 ∷ 0 ∷ []) ≡ 4) × (buffer_size (0x90 ∷ 0 ∷ 0 ∷ []) ≡ 2)
    × (buffer_size (0x38 ∷ 0 ∷ 0 ∷ []) ≡ 0) × (buffer_size [] ≡ 0)
unfolding buffer_size
buffers = (refl, refl, refl, refl, refl)

-- Beside these: FFh is a read, AFh is none, and no byte next to 90h is it.
buffers-beside : (buffer_size (0xFF ∷ 0 ∷ 0 ∷ []) ≡ 2) × (buffer_size (0xAF ∷ 0 ∷ 0 ∷ []) ≡ 0) × (buffer_size (0x8F ∷ 0 ∷ 0 ∷ []) ≡ 0) × (buffer_size (0x91 ∷ 0 ∷ 0 ∷ []) ≡ 0)
    × (buffer_size (0 ∷ 0 ∷ 0 ∷ []) ≡ 0)
unfolding buffer_size
buffers-beside = (refl, refl, refl, refl, refl)

abbrev counts : List ℕ
counts = 0 ∷ 1 ∷ 2 ∷ 3 ∷ 4 ∷ 5 ∷ 6 ∷ 7 ∷ 8 ∷ 9 ∷ 10 ∷ 11 ∷ 12 ∷ []

-- The moment, the tenth count, is 0 where a transaction starts a measurement, and stays else; so does every other count.
moments : (start_moment (Accepted true false) counts ≡ 0 ∷ 1 ∷ 2 ∷ 3 ∷ 4 ∷ 5 ∷ 6 ∷ 7 ∷ 8 ∷ 0 ∷ 10 ∷ 11 ∷ 12 ∷ [])
    × (start_moment (Accepted false true) counts ≡ 0 ∷ 1 ∷ 2 ∷ 3 ∷ 4 ∷ 5 ∷ 6 ∷ 7 ∷ 8 ∷ 0 ∷ 10 ∷ 11 ∷ 12 ∷ [])
    × (start_moment (Accepted false false) counts ≡ counts) × (start_moment (Refused Refusal.SetUp) counts ≡ counts)
unfolding start_moment
moments = (refl, refl, refl, refl)

-- An item's start: the moment, the record and the probe table.
a-start : item_counts counts ≡ 0 ∷ 1 ∷ 2 ∷ 3 ∷ 4 ∷ 5 ∷ 6 ∷ 7 ∷ 8 ∷ 0 ∷ 0 ∷ 0 ∷ 12 ∷ []
unfolding item_counts
a-start = refl

-- A stretch of 16,384 ticks moves the moment, a refused one does not.
a-stretch : (f t : StretchReport)
    → (moved_by (Stretched f t) 16384 counts ≡ 0 ∷ 1 ∷ 2 ∷ 3 ∷ 4 ∷ 5 ∷ 6 ∷ 7 ∷ 8 ∷ 16393 ∷ 10 ∷ 11 ∷ 12 ∷ [])
    × (moved_by (Refused Refusal.Span) 16384 counts ≡ counts)
unfolding moved_by moved added refusals number_in
a-stretch f t = (refl, refl)

-- With 16,384 ticks before it, a stretch that starts a flight in its 5th tick tells ` started-flight@16389`.
second-stretch : joined (stretch_reports (Stretched record { started = record { 0 = 5 }; failed = record { 0 = 0 } } record { started = record { 0 = 0 }; failed = record { 0 = 0 } }) 16384)
    ≡ ascii " started-flight@16389"
unfolding stretch_reports named later_named next_named sooner tick_reports report_at decimal decimal_width width_from digits glyph joined ascii
second-stretch = refl
