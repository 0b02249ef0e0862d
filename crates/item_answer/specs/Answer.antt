-- What the lines of an item answer and leave: calls, questions, and what is kept. The words of the description of items stand in
-- quotation marks. Assumes nothing.
use Rattle.std.specs.Prelude.{ℕ, zero, suc, ◌+◌, ◌-◌, ◌*◌, ◌/◌, ◌%◌, Bool, true, false, List, [], ◌∷◌, ◌++◌, map, ltb, leb, eqb, ℤ, nat_abs, length, get_or, replicate}
use Prim.Native.String.{String}
use Rattle.unit.specs.Choice.{pick, either}
use Rattle.numeral.specs.Ascii.{ascii}
use Rattle.numeral.specs.Print.{decimal, thousandths}
use Rattle.device.specs.declared.Model.{Model}
use Rattle.device.specs.declared.Answer.{Answer}
use Rattle.device.specs.declared.Answer.TheVariants.{Refused, Accepted, Ticked, Stretched, Good, Failed}
use Rattle.device.specs.Model.{fresh_model}
use Rattle.device.specs.Event.{is_awaited}
use Rattle.device.specs.Question.{interrupt_pending}
use Rattle.device.specs.Registers.{register_word}
use Rattle.device.specs.Call.{Call as ChipCall}
use Rattle.device.specs.Reply.{reply, output, memory, number_in, flag}
use Rattle.setup_frames.specs.Frames.{frames}
use Rattle.thermometer.specs.Degrees.{degrees, degrees_by}
use Rattle.quietest.specs.Quietest.{quietest_place, spread}
use Rattle.difference.specs.Difference.{joined_word, signed_of}
use Rattle.listing.specs.declared.Width.{Width}
use Rattle.listing.specs.Listing.{capture_digits, lines as listing_lines, last_above}
use Rattle.text.specs.Text.{Text, ended_each, spaced_each}
use Rattle.item_page.specs.Row.{refusal}
use Rattle.item_line.specs.Line.{Fault, Output, Call, Ask, Keep}
use Rattle.item_answer.specs.Words.{answer_text, output_text, reports_at, reports_to, register_line, register_lines, words_of, quanta, frame_line}
use Rattle.refusal.specs.declared.Refusal.{Refusal}
use Rattle.refusal.specs.Number.{number, value_told}
use Rattle.std.specs.Prelude.{Result as ResultOf, Ok, Err}

-- ---- an item, and what a line answers

-- An item: its model, its user flash, its record of differences, its probe table, and the moment: the ticks "since the last transaction that
-- started a measurement, or since the item's start".
pub record Item : Type 0 where
  pub model : Model
  pub flash : List ℕ
  pub recorded : List ℤ
  pub probes : List ℕ
  pub moment : ℕ

-- "a flash memory of 8,192 bytes of its own, all FFh at its `item` line and at the text's start, a record .. and a probe table .., both empty
-- there"
unfoldable pub fresh_item : Item
fresh_item = record { model = fresh_model; flash = replicate 8192 0xFF; recorded = []; probes = []; moment = 0 }

abbrev pub with_model : Item → Model → ℕ → Item
with_model i m moment = record { model = m; flash = i.flash; recorded = i.recorded; probes = i.probes; moment = moment }

-- What a line answers: its first line without the line feed, the further lines with theirs, whether it is a refusal, and the item that
-- it leaves.
pub record Told : Type 0 where
  pub line : Text
  pub further : Text
  pub refused : Bool
  pub item : Item

-- An answer, or a fault that goes by the item: `past` and `no room`.
pub data Result : Type 0 where
  told : Told → Result
  fault : Fault → Result

abbrev pub answer : Text → Text → Item → Told
answer line further i = record { line = line; further = further; refused = false; item = i }

-- `KEYWORD no NUMBER WORD`: a refusal, which changes nothing
abbrev pub refusing : String → ℕ → Item → Told
refusing keyword number i = record { line = ascii keyword ++ ascii " " ++ refusal number; further = []; refused = true; item = i }

unfoldable pub is_refusal : Answer → Bool
is_refusal a = ltb 0 (length (number_in a))

-- ---- `bus`, `set` and `read`

-- "one transaction of these bytes": "Each byte of a buffer is EEh before the call"
abbrev pub transaction : Item → List ℕ → ℕ → ChipCall
transaction i frame size = ChipCall.transaction frame (replicate size 0xEE) i.flash

-- whether an answer says that a measurement was started
unfoldable pub starts : Answer → Bool
starts (Refused r) = false
starts (Accepted flight temperature) = either flight temperature
starts (Ticked flight temperature) = false
starts (Stretched flight temperature) = false
starts Good = false
starts Failed = false

-- The item after a transaction: where a measurement was started the moment is 0.
unfoldable pub transacted : Item → ChipCall → Item
transacted i c = record {
  model = (reply i.model c).model;
  flash = memory i.model c;
  recorded = i.recorded;
  probes = i.probes;
  moment = pick (starts (reply i.model c).answer) 0 i.moment;
}

-- The line's first word, the transaction's answer, then `behind`.
unfoldable pub transaction_told : String → ChipCall → Text → Item → Told
transaction_told keyword c behind i = record {
  line = ascii keyword ++ ascii " " ++ answer_text (reply i.model c).answer ++ behind;
  further = [];
  refused = is_refusal (reply i.model c).answer;
  item = transacted i c;
}

-- "Without `out=`, a frame whose first byte is B0h to FFh gets a buffer of 2 × (further bytes ÷ 2, rounded down) bytes, .. a frame whose first
-- byte is 90h one of two bytes, and any other frame none."
unfoldable pub frame_size : List ℕ → ℕ
frame_size [] = 0
frame_size (op ∷ further) = pick (leb 0xB0 op) (2 * (length further / 2)) (pick (eqb op 0x90) 2 0)

unfoldable pub size_of : Output → List ℕ → ℕ
size_of Output.by_frame frame = frame_size frame
size_of (Output.out_of n) frame = n

unfoldable pub bus_told : Output → List ℕ → Item → Told
bus_told size frame i =
    let c = transaction i frame (size_of size frame) in transaction_told "bus" c (output_text (output i.model c)) i

-- "the transaction of A .. and .. words .., high byte first"
unfoldable pub word_bytes : List ℕ → List ℕ
word_bytes [] = []
word_bytes (w ∷ ws) = w / 256 ∷ w % 256 ∷ word_bytes ws

unfoldable pub set_told : ℕ → List ℕ → Item → Told
set_told a ws i = transaction_told "set" (transaction i (a ∷ word_bytes ws) 0) [] i

-- "the transaction of A, .. two filler bytes for each word and an output buffer of as many bytes": of n words
abbrev pub read_call : Item → ℕ → ℕ → ChipCall
read_call i a n = transaction i (a ∷ replicate (2 * n) 0) (2 * n)

-- the words that it returns
unfoldable pub read_words : Item → ℕ → ℕ → List ℕ
read_words i a n = words_of (output i.model (read_call i a n))

-- ---- `tick`, `at` and `stretch`

-- The model after some ticks, and what they reported.
pub record Run : Type 0 where
  pub model : Model
  pub reports : Text

abbrev pub reported_before : Text → Run → Run
reported_before text run = record { model = run.model; reports = text ++ run.reports }

-- n single ticks, the first of them tick i: "` WHAT@I` for each thing that the I-th of these ticks reported"
unfoldable pub ticked : ℕ → ℕ → Model → Run
ticked zero i m = record { model = m; reports = [] }
ticked (suc n) i m =
    let r = reply m ChipCall.tick in reported_before (reports_at i r.answer) (ticked n (i + 1) r.model)

-- "`tick N`, then ` WHAT@I`": n ticks, the first of them tick i, after N or T as printed; the moment "goes on with every tick"
unfoldable pub ticks_told : String → ℕ → ℕ → ℕ → Item → Told
ticks_told keyword number n i item =
    let run = ticked n i item.model in
    answer (ascii keyword ++ ascii " " ++ decimal number ++ run.reports) [] (with_model item run.model (item.moment + n))

-- "single ticks until T ticks have passed"; "`at` a moment that has passed" is `past`
unfoldable pub at_result : ℕ → Item → Result
at_result t i =
    pick (ltb t i.moment) (fault Fault.past) (told (ticks_told "at" t (t - i.moment) (i.moment + 1) i))

-- "one stretch of N ticks"; "`stretch N`, then ` WHAT@I` as for `tick` ..; or `stretch no 12 span`"
unfoldable pub stretch_told : ℕ → Answer → Model → Item → Told
stretch_told n a m i =
    pick (is_refusal a)
    (record { line = ascii "stretch " ++ answer_text a; further = []; refused = true; item = i })
    (answer (ascii "stretch " ++ decimal n ++ reports_to n a) [] (with_model i m (i.moment + n)))

-- ---- `flight` and `temperature`

-- "`flight good`, `flight failed` or `flight no NUMBER WORD`", and so for `temperature`
unfoldable pub delivery_told : String → ChipCall → Item → Told
delivery_told keyword c i =
    let r = reply i.model c in record {
      line = ascii keyword ++ ascii " " ++ answer_text r.answer;
      further = [];
      refused = is_refusal r.answer;
      item = with_model i r.model i.moment;
    }

-- ---- `frames`, `degrees`, `listing` and `quietest`

-- "`frames K`, then K lines `frame B ..`"
unfoldable pub frames_told : Item → Told
frames_told i =
    let all = frames i.model.setup in answer (ascii "frames " ++ decimal (length all)) (ended_each (map frame_line all)) i

-- "`degrees D.DDD`, or `degrees no 13 off the table`, `degrees no 14 bad table`"
unfoldable pub degrees_told : ResultOf ℕ Refusal → Item → Told
degrees_told (Ok n) i = answer (ascii "degrees " ++ thousandths n) [] i
degrees_told (Err r) i = refusing "degrees" (number r) i

-- "the item's own probe table, which `degrees` then takes in place of PT1000's"
unfoldable pub degrees_of : List ℕ → ℕ → ℕ → ResultOf ℕ Refusal
degrees_of probes a b = pick (eqb (length probes) 0) (degrees a b) (degrees_by probes a b)

-- "`listing K`, then the K lines, or `listing no 20 capture number`"
unfoldable pub listing_told : Width → ℕ → Item → Told
listing_told width first i =
    let d = capture_digits width in
    pick (last_above d first (length i.recorded)) (refusing "listing" 20 i)
    (answer (ascii "listing " ++ decimal (length i.recorded)) (listing_lines d first i.recorded) i)

-- "`quietest START SPREAD`, START from 0, or `quietest no 18 width`"
unfoldable pub quietest_told : ℕ → ResultOf ℕ Refusal → Item → Told
quietest_told width (Ok start) i =
    answer (ascii "quietest " ++ decimal start ++ ascii " " ++ decimal (nat_abs (spread i.recorded start width))) [] i
quietest_told width (Err r) i = refusing "quietest" (number r) i

-- Every call.
unfoldable pub call_result : Call → Item → Result
call_result (Call.bus size frame) i = told (bus_told size frame i)
call_result (Call.set a ws) i = told (set_told a ws i)
call_result (Call.tick n) i = told (ticks_told "tick" n n 1 i)
call_result (Call.at t) i = at_result t i
call_result (Call.stretch n) i =
    let r = reply i.model (ChipCall.stretch n) in told (stretch_told n r.answer r.model i)
call_result (Call.flight up down) i = told (delivery_told "flight" (ChipCall.flight up down) i)
call_result (Call.temperature ws) i = told (delivery_told "temperature" (ChipCall.temperature ws) i)
call_result Call.frames i = told (frames_told i)
call_result (Call.degrees a b) i = told (degrees_told (degrees_of i.probes a b) i)
call_result (Call.listing width first) i = told (listing_told width first i)
call_result (Call.quietest width) i = told (quietest_told width (quietest_place i.recorded width) i)

-- ---- `int`, `awaited` and `regs`

-- "`int yes` or `int no`"
unfoldable pub int_text : Model → Text
int_text m = pick (eqb (get_or (value_told (interrupt_pending m)) 0 0) 1) (ascii "int yes") (ascii "int no")

-- "`awaited F T`, each 0 or 1"
unfoldable pub awaited_text : Model → Text
awaited_text m =
    ascii "awaited " ++ decimal (flag (is_awaited m.flight.schedule)) ++ ascii " "
    ++ decimal (flag (is_awaited m.temperature.schedule))

-- "what reads of B0h to FFh would return, with nothing cleared": "ten lines"
unfoldable pub ask_told : Ask → Item → Told
ask_told Ask.int i = answer (int_text i.model) [] i
ask_told Ask.awaited i = answer (awaited_text i.model) [] i
ask_told Ask.regs i = answer (register_line i.model 0xB0) (ended_each (register_lines i.model 0xB8 9)) i

-- ---- `probe` and `record`

-- "a probe table of at most 1,024 entries"; "`probe K`, the number of entries that the table now has"
unfoldable pub probe_result : List ℕ → Item → Result
probe_result entries i =
    let table = i.probes ++ entries in
    pick (ltb 1024 (length table)) (fault Fault.no_room)
    (told
    (answer (ascii "probe " ++ decimal (length table)) []
    (record { model = i.model; flash = i.flash; recorded = i.recorded; probes = table; moment = i.moment })))

-- "without any D, the TOF_DIFF of E2h and E3h as it stands"
unfoldable pub added : List ℤ → Model → List ℤ
added [] m = signed_of (joined_word (register_word m 0xE2) (register_word m 0xE3)) ∷ []
added (d ∷ ds) m = d ∷ ds

-- "a record of at most 4,096 differences"; "`record D ..`, what was added"
unfoldable pub record_result : List ℤ → Item → Result
record_result ds i =
    let all = i.recorded ++ ds in
    pick (ltb 4096 (length all)) (fault Fault.no_room)
    (told
    (answer (ascii "record" ++ spaced_each (map quanta ds)) []
    (record { model = i.model; flash = i.flash; recorded = all; probes = i.probes; moment = i.moment })))

unfoldable pub keep_result : Keep → Item → Result
keep_result (Keep.probe entries) i = probe_result entries i
keep_result (Keep.differences ds) i = record_result (added ds i.model) i
