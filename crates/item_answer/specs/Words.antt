-- The words of the answers, in the order of the description of items, whose words stand in quotation marks. Assumes nothing.
use Rattle.std.specs.Prelude.{ℕ, zero, suc, ◌+◌, ◌*◌, Bool, true, false, List, [], ◌∷◌, ◌++◌, map, ltb, leb, eqb, ℤ, pos, nat_abs, length, take}
use Prim.Native.String.{String}
use Rattle.std.specs.Int.Signed.{lt_z}
use Rattle.unit.specs.Choice.{pick, both}
use Rattle.numeral.specs.Ascii.{ascii}
use Rattle.numeral.specs.Digit.{digits}
use Rattle.numeral.specs.Print.{decimal, hex_bytes}
use Rattle.device.specs.declared.Model.{Model}
use Rattle.device.specs.declared.Answer.{Answer}
use Rattle.device.specs.declared.Answer.TheVariants.{Refused, Accepted, Ticked, Stretched, Good, Failed}
use Rattle.device.specs.Registers.{register_word}
use Rattle.text.specs.Text.{Text, text_where, spaced_each, fits}
use Rattle.item_page.specs.Row.{refusal, word}
use Rattle.item_line.specs.Line.{Fault, Wanted}
use Rattle.refusal.specs.Number.{number}

-- ---- what the chip's calls answer

-- "STARTED is `-`, `flight`, `temperature` or `flight+temperature`"
unfoldable pub started : Bool → Bool → Text
started false false = ascii "-"
started true false = ascii "flight"
started false true = ascii "temperature"
started true true = ascii "flight+temperature"

-- What stands behind a line's first word: "`bus ok STARTED` or `bus no NUMBER WORD`", "`flight good`, `flight failed` or
-- `flight no NUMBER WORD`". Ticks and stretches that are no refusal have their reports instead.
unfoldable pub answer_text : Answer → Text
answer_text (Refused r) = refusal (number r)
answer_text (Accepted flight temperature) = ascii "ok " ++ started flight temperature
answer_text (Ticked flight temperature) = []
answer_text (Stretched flight temperature) = []
answer_text Good = ascii "good"
answer_text Failed = ascii "failed"

-- "where the output buffer has bytes, ` out ` and the whole buffer after the call in hexadecimal"
unfoldable pub output_text : List ℕ → Text
output_text [] = []
output_text (b ∷ bs) = ascii " out " ++ hex_bytes (b ∷ bs)

-- ` WHAT@I`, where it happened
unfoldable pub report : Bool → String → ℕ → Text
report happened what i = text_where happened (ascii " " ++ ascii what ++ ascii "@" ++ decimal i)

-- "WHAT is `failed-flight`, `started-flight`, `failed-temperature` or `started-temperature`, in this order within one tick"
unfoldable pub reports : Bool → Bool → Bool → Bool → ℕ → Text
reports failed_flight started_flight failed_temperature started_temperature i =
    report failed_flight "failed-flight" i
    ++ report started_flight "started-flight" i
    ++ report failed_temperature "failed-temperature" i
    ++ report started_temperature "started-temperature" i

-- What an answer reports of tick i: of a single tick, whose number is i, or of a stretch, which names its ticks.
unfoldable pub reports_at : ℕ → Answer → Text
reports_at i (Refused r) = []
reports_at i (Accepted flight temperature) = []
reports_at i (Ticked flight temperature) =
    reports flight.failed flight.started temperature.failed temperature.started i
reports_at i (Stretched flight temperature) =
    reports (eqb flight.failed.0 i) (eqb flight.started.0 i) (eqb temperature.failed.0 i) (eqb temperature.started.0 i) i
reports_at i Good = []
reports_at i Failed = []

-- The reports of ticks 1 to n of a stretch: "by tick, and within one tick in the order" of WHAT.
unfoldable pub reports_to : ℕ → Answer → Text
reports_to zero answer = []
reports_to (suc n) answer = reports_to n answer ++ reports_at (suc n) answer

-- ---- registers

-- The words of n registers from an address on, as reads would return them, "with nothing cleared".
unfoldable pub registers : Model → ℕ → ℕ → List ℕ
registers m a zero = []
registers m a (suc n) = register_word m a ∷ registers m (a + 1) n

-- "the first address in two digits, then eight words of four digits"
unfoldable pub register_line : Model → ℕ → Text
register_line m a = digits 16 2 a ++ spaced_each (map word (registers m a 8))

-- n such lines, from an address on
unfoldable pub register_lines : Model → ℕ → ℕ → List Text
register_lines m a zero = []
register_lines m a (suc n) = register_line m a ∷ register_lines m (a + 8) n

-- The words of bytes, "high byte first".
unfoldable pub words_of : List ℕ → List ℕ
words_of [] = []
words_of (high ∷ []) = []
words_of (high ∷ low ∷ bytes) = (high * 256 + low) ∷ words_of bytes

-- ---- expectations

-- ` AT:HAS/WANTED`, where a word is not as wanted
unfoldable pub difference : ℕ → ℕ → Wanted → List Text
difference at has wanted =
    pick (fits wanted (word has)) []
    ((ascii " " ++ digits 16 2 at ++ ascii ":" ++ word has ++ ascii "/" ++ wanted) ∷ [])

-- "` AT:HAS/WANTED` for each word that differs", from an address on
unfoldable pub differences : ℕ → List ℕ → List Wanted → List Text
differences at [] [] = []
differences at [] (p ∷ ps) = []
differences at (w ∷ ws) [] = []
differences at (w ∷ ws) (p ∷ ps) = difference at w p ++ differences (at + 1) ws ps

-- Texts one after the other.
unfoldable pub joined : List Text → Text
joined [] = []
joined (t ∷ ts) = t ++ joined ts

-- "`expect A ok`, or `expect A differs`" with what differs
unfoldable pub verdict : List Text → Text
verdict [] = ascii " ok"
verdict (d ∷ ds) = ascii " differs" ++ joined (d ∷ ds)

-- ---- numbers, and lines behind the first

-- A difference in decimal quanta, with a minus where it is negative.
unfoldable pub quanta : ℤ → Text
quanta z = text_where (lt_z z (pos 0)) (ascii "-") ++ decimal (nat_abs z)

-- "lines `frame B ..`, the bytes of each"
unfoldable pub frame_line : List ℕ → Text
frame_line bytes = ascii "frame" ++ spaced_each (map (digits 16 2) bytes)

-- ---- bad lines

-- "a byte outside 21h to 7Eh printed as `?`"
unfoldable pub shown_byte : ℕ → ℕ
shown_byte c = pick (both (leb 0x21 c) (leb c 0x7E)) c 0x3F

-- "its first 32 bytes .., and `..` behind it where it has more than 32"
unfoldable pub shown : Text → Text
shown w = map shown_byte (take 32 w) ++ text_where (ltb 32 (length w)) (ascii "..")

unfoldable pub fault_text : Fault → Text
fault_text Fault.too_long = ascii "too long"
fault_text (Fault.unknown_word w) = ascii "unknown word " ++ shown w
fault_text (Fault.bad_number w) = ascii "bad number " ++ shown w
fault_text Fault.wrong_count = ascii "wrong count"
fault_text Fault.past = ascii "past"
fault_text Fault.no_room = ascii "no room"

-- "`line L: ` and one of six texts, L being the line's number in the input from 1"
unfoldable pub fault_line : ℕ → Fault → Text
fault_line number fault = ascii "line " ++ decimal number ++ ascii ": " ++ fault_text fault
