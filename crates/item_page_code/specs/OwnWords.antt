-- The words that the page's rows tell of, in a list. Assumes nothing.
use Rattle.std.specs.Prelude.{ℕ, zero, suc, ◌+◌, ◌-◌, Bool, List, [], ◌∷◌, ◌++◌, get_or, replicate}
use Rattle.device.specs.declared.Model.{Model}
use Rattle.device.specs.declared.Answer.{Answer}
use Rattle.device.specs.Registers.{register_word}
use Rattle.device.specs.Call.{Call}
use Rattle.device.specs.Reply.{reply, number_in}
use Rattle.numeral.specs.Ascii.{ascii}
use Rattle.text.specs.Text.{Text}
use Rattle.item_page.specs.Row.{absent_row}
use Rattle.item_page.specs.Registers.{clock_rows, setup_rows, flight_rows, temperature_rows, status_rows, supply_row}
use Rattle.item_page.specs.Page.{answer_text}
use Rattle.item_page_form.specs.OwnForm.{pair_of}

-- the words of n addresses from a on
unfoldable pub words_from : Model → ℕ → ℕ → List ℕ
words_from m a zero = []
words_from m a (suc n) = register_word m a ∷ words_from m (a + 1) n

-- those of B0h to FFh
unfoldable pub page_words : Model → List ℕ
page_words m = words_from m 0xB0 80

-- The word at an address, and the pair.
abbrev pub word_at : List ℕ → ℕ → ℕ
word_at ws a = get_or ws (a - 0xB0) 0

abbrev pub pair_at : List ℕ → ℕ → ℕ
pair_at ws a = pair_of (word_at ws a) (word_at ws (a + 1))

-- The rows of the results, those after the status, and all rows of the registers, by the words.
abbrev pub flight_by : List ℕ → List Text
flight_by ws = flight_rows (word_at ws) (pair_at ws)

abbrev pub temperature_by : List ℕ → List Text
temperature_by ws = temperature_rows (word_at ws) (pair_at ws)

abbrev pub last_rows : Bool → ℕ → List Text
last_rows on w = supply_row on ∷ absent_row "FF     Control                  " w ∷ []

unfoldable pub rows_by : List ℕ → Bool → List Text
rows_by ws on =
    clock_rows (word_at ws)
    ++ setup_rows (word_at ws)
    ++ flight_by ws
    ++ temperature_by ws
    ++ (ascii "STATUS REGISTERS" ∷ status_rows (word_at ws 0xFE))
    ++ last_rows on (word_at ws 0xFF)

-- The answer to a frame, and its text; op is the frame's first byte.
unfoldable pub answer_to : Model → List ℕ → Answer
answer_to m frame = (reply m (Call.transaction frame (replicate 2 0) (replicate 8192 0))).answer

abbrev pub text_to : Model → ℕ → List ℕ → Text
text_to m op frame = answer_text m op (number_in (answer_to m frame))
