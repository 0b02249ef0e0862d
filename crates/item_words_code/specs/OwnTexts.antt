-- Parts of texts, as code puts them. Assumes nothing.
use Rattle.std.specs.Prelude.{ℕ, ◌-◌, ◌++◌, ltb, length, get_or}
use Rattle.unit.specs.Choice.{pick}
use Rattle.numeral.specs.Ascii.{ascii}
use Rattle.numeral.specs.Digit.{digits}
use Rattle.text.specs.Text.{Text}
use Rattle.item_line.specs.Line.{Wanted}
use Rattle.item_line.specs.Reading.{capital}
use Rattle.item_page.specs.Row.{word}

-- The digit of a word that is the k-th from the last; 0 before the first.
unfoldable pub backward : Text → ℕ → ℕ
backward w k = pick (ltb (length w) k) 0x30 (capital (get_or w (length w - k) 0))

-- ` AT:HAS/WANTED`, the text of `difference` where a word is not as wanted.
unfoldable pub difference_text : ℕ → ℕ → Wanted → Text
difference_text at has wanted = ascii " " ++ digits 16 2 at ++ ascii ":" ++ word has ++ ascii "/" ++ wanted
