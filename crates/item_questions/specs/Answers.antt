-- The answers of the lines that ask, in the order of the format's table. What stands in quotation marks is that of docs/ITEMS.md. Assumes
-- nothing.
use Rattle.std.specs.Prelude.{◌≡◌, ℕ, zero, suc, ◌+◌, ◌%◌, cond, List, [], ◌∷◌, ◌++◌, length, take, ◌==◌, slice_index, slice_set}
use Rattle.numeral.specs.Place.{Placed, put_each}
use Rattle.device.specs.declared.Model.{Model}
use Rattle.device.specs.Model.{is_sound}
use Rattle.device.specs.Question.{interrupt_pending, awaited_told}
use Rattle.line.specs.declared.Content.{Content}
use Rattle.setup_frames.specs.Frames.{frames}
use Rattle.page.specs.Page.{page_texts}
use Rattle.wording.specs.Wording.{Texts, line_feed, interrupt_texts, awaited_texts, row_texts, head, pair, frame_lines, frames_head, frames_refused}
use Rattle.item_state.specs.Log.{Log, added, said, called}
use Rattle.item_state.specs.Told.{told_value, read_word}

-- "`int yes` or `int no`"
unfoldable pub interrupt : Model → Texts
interrupt m = interrupt_texts (told_value (interrupt_pending m))

-- "`awaited F T`, each 0 or 1"
unfoldable pub awaited : Model → Texts
awaited m =
    awaited_texts (told_value (awaited_told m m.flight.schedule)) (told_value (awaited_told m m.temperature.schedule))

-- the address after a, in 32 bits
abbrev pub next : ℕ → ℕ
next a = (a + 1) % 4294967296

-- the words of n registers from a on
unfoldable pub row_words : Model → ℕ → ℕ → List ℕ
row_words m a zero = []
row_words m a (suc n) = read_word m a ∷ row_words m (next a) n

-- "the first address in two digits, then eight words of four digits"
unfoldable pub row : Model → ℕ → Texts
row m a = row_texts a (row_words m a 8)

-- n lines from a on
unfoldable pub rows : Model → ℕ → ℕ → Texts
rows m a zero = []
rows m a (suc n) = row m a ++ rows m (a + 8) n

-- `regs`: "ten lines"
unfoldable pub registers : Model → Texts
registers m = rows m 0xB0 10

-- how many of the words expected from a on differ
unfoldable pub differing : Model → ℕ → List ℕ → ℕ
differing m a [] = 0
differing m a (w ∷ ws) = cond (read_word m a == w) 0 1 + differing m (next a) ws

-- "` AT:HAS/WANTED` for each word that differs"
unfoldable pub pairs : Model → ℕ → List ℕ → Texts
pairs m a [] = []
pairs m a (w ∷ ws) = pair a (read_word m a) w ++ pairs m (next a) ws

-- "`expect A ok`, or `expect A differs`" with the pairs
unfoldable pub expectation : Model → ℕ → List ℕ → Texts
expectation m a ws = head a (differing m a ws) ++ (pairs m a ws ++ (line_feed ∷ []))

-- The answer to `expect` behind those before it, which take the places to before the first count.
abbrev pub told : Model → ℕ → List ℕ → List ℕ → List ℕ → Placed
told m a ws counts answers = put_each answers (slice_index counts 0) (expectation m a ws)

-- What `expect` leaves: the answer, and in the counts its end, "E the words of `expect` lines and the `=>`, X those of E that differ".
pub record Expects (m : Model) (a : ℕ) (ws counts answers counts' answers' : List ℕ) : Type 0 where
  pub counted : counts' ≡ added (added (slice_set counts 0 (told m a ws counts answers).next) 7 (length ws)) 8 (differing m a ws)
  pub said : answers' ≡ (told m a ws counts answers).bytes

-- ---- `frames`

-- "`frames K`, then K lines"
unfoldable pub frames_told : ℕ → List (List ℕ) → Log → Log
frames_told k fs l = called 0 (frames_head k ++ frame_lines fs) l

-- "the set-up, 34h to 43h, as the fewest bytes of bus frames that bring a fresh chip to it"; an unsound model, which no item has, gets number 0
unfoldable pub frames_line : Model → Log → Log
frames_line m l = cond (is_sound m) (frames_told (length (frames m.setup)) (frames m.setup) l) (called 1 (frames_refused 0) l)

-- ---- every line

-- What `expect` leaves, as a log.
unfoldable pub expect_line : Model → ℕ → List ℕ → Log → Log
expect_line m a ws l =
    let t = told m a ws l.counts l.answers in
    record { counts = added (added (slice_set l.counts 0 t.next) 7 (length ws)) 8 (differing m a ws); answers = t.bytes }

-- What a line that asks leaves; every other leaves all as it is.
unfoldable pub question_line : Content → List ℕ → Model → Log → Log
question_line Content.Nothing numbers m l = l
question_line Content.TooLong numbers m l = l
question_line Content.UnknownWord numbers m l = l
question_line Content.BadNumber numbers m l = l
question_line Content.WrongCount numbers m l = l
question_line Content.Item numbers m l = l
question_line (Content.Bus n) numbers m l = l
question_line (Content.BusOut size n) numbers m l = l
question_line (Content.Tick n) numbers m l = l
question_line (Content.Flight up down) numbers m l = l
question_line (Content.Temperature n) numbers m l = l
question_line Content.Int numbers m l = said (interrupt m) l
question_line Content.Awaited numbers m l = said (awaited m) l
question_line Content.Regs numbers m l = said (registers m) l
question_line (Content.Expect a n) numbers m l = expect_line m a (take n numbers) l
question_line Content.Show numbers m l = said (page_texts m) l
question_line (Content.Set a n) numbers m l = l
question_line (Content.At t) numbers m l = l
question_line (Content.Stretch n) numbers m l = l
question_line Content.Frames numbers m l = frames_line m l
question_line (Content.Probe n) numbers m l = l
question_line Content.Degrees numbers m l = l
question_line (Content.Record n) numbers m l = l
question_line (Content.Listing old first) numbers m l = l
question_line (Content.Quietest n) numbers m l = l
