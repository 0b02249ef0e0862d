-- What the rows of the page are made of. A row is a text without its line feed. What stands in quotation marks is the description of the
-- page. Assumes nothing.
use Rattle.std.specs.Prelude.{ℕ, ◌+◌, ◌*◌, ◌/◌, ◌%◌, Bool, List, [], ◌∷◌, ◌++◌, ltb, get_or}
use Prim.Native.String.{String}
use Rattle.unit.specs.Choice.{pick}
use Rattle.numeral.specs.Ascii.{ascii}
use Rattle.numeral.specs.Digit.{digits}
use Rattle.numeral.specs.Print.{decimal}
use Rattle.device.specs.declared.Model.{Model}
use Rattle.device.specs.Registers.{register_word}
use Rattle.text.specs.Text.{Text, text_where, spaced}

-- A word in four hexadecimal digits.
abbrev pub word : ℕ → Text
word w = digits 16 4 w

-- "a result pair, Int and Frac": the word of 32 bits at two addresses
unfoldable pub pair_word : Model → ℕ → ℕ
pair_word m a = register_word m a % 65536 * 65536 + register_word m (a + 1) % 65536

-- "Each row has the read address, the name of the data sheet, the word and its meaning": address and name are the label
unfoldable pub register_row : String → ℕ → Text → Text
register_row label w meaning = ascii label ++ word w ++ ascii "       " ++ meaning

-- "a result pair, Int and Frac, stands in one row"
unfoldable pub pair_row : String → ℕ → Text → Text
pair_row label w meaning = ascii label ++ word (w / 65536) ++ ascii " " ++ word (w % 65536) ++ ascii "  " ++ meaning

-- "`stored only`: the model keeps the word and nothing depends on it"
unfoldable pub stored_row : String → ℕ → Text
stored_row label w = register_row label w (ascii "stored only")

-- "`not carried`: the model leaves this out, and it reads 0"
unfoldable pub absent_row : String → ℕ → Text
absent_row label w = register_row label w (ascii "not carried")

unfoldable pub absent_pair : String → ℕ → Text
absent_pair label w = pair_row label w (ascii "not carried")

-- A number, and what it counts: `1 hit`, `2 hits`.
unfoldable pub plural : ℕ → String → Text
plural n what = decimal n ++ ascii what ++ text_where (ltb 1 n) (ascii "s")

-- A field of two bits: `10b`.
unfoldable pub binary : ℕ → Text
binary v = decimal (v / 2) ++ decimal (v % 2) ++ ascii "b"

-- The names of what holds, in a list: one name where its test holds.
unfoldable pub name_where : Bool → String → List Text
name_where holds name = pick holds (ascii name ∷ []) []

-- Names parted by blanks, "or `none`".
unfoldable pub names_or : String → List Text → Text
names_or other [] = ascii other
names_or other (n ∷ ns) = spaced (n ∷ ns)

-- "WORD is the trade's word of 01's table or of 02": the words of the numbers 0 to 20.
unfoldable pub refusal_words : List String
refusal_words =
    "record" ∷ "no frame" ∷ "opcode" ∷ "frame length" ∷ "address" ∷ "short output" ∷ "busy" ∷ "calendar"
    ∷ "not initialised" ∷ "set-up" ∷ "not awaited" ∷ "word count" ∷ "span" ∷ "off the table" ∷ "bad table" ∷ "supply off"
    ∷ "flash address" ∷ "not erased" ∷ "width" ∷ "short buffer" ∷ "capture number" ∷ []

-- `no NUMBER WORD`; no call of an item is refused by another number
unfoldable pub refusal : ℕ → Text
refusal number = ascii "no " ++ decimal number ++ ascii " " ++ ascii (get_or refusal_words number "")
