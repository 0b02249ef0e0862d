-- What each call answers and leaves: of an accepted one the answer, the next model, the output and the memory; of a refused one its
-- number and nothing else.
use Rattle.std.specs.Prelude.{ℕ, Bool, false, List, [], ◌∷◌, ◌≡◌, drop}
use Rattle.device.specs.Base.{pick, either, hit_count, timeout, port_cycle, late_from}
use Rattle.device.specs.Base.{open_from, any_from, any_fault, six_words, four_words, Model, Reply, Answer, Accepted, Ticked}
use Rattle.device.specs.Base.{Stretched, Good, Failed}
use Rattle.device.specs.declared.Answer.TheVariants.{Refused}
use Rattle.device.specs.Registers.{fill_words}
use Rattle.device.specs.Write.{write_model}
use Rattle.device.specs.Tick.{tick_model, report_of}
use Rattle.device.specs.Stretch.{model_ticked, stretch_report}
use Rattle.device.specs.Delivery.{good_flight_model, failed_flight_model, good_temperature_model, failed_temperature_model}
use Rattle.device.specs.FlashFrame.{flash_model, flash_output, flash_memory}
use Rattle.device.specs.Bus.{starts_flight, starts_temperature, run_model, read_model}
use Rattle.device.specs.Call.{Call, opcode, words, by_sort, Verdict, verdict, transaction, tick, flight, temperature, stretch, accepted, refused}
use Rattle.refusal.specs.declared.Refusal.{Refusal}
use Rattle.refusal.specs.Number.{number}

-- What an accepted call answers: "An accepted transaction answers the kinds that it started, none for a read, a write or
-- another command." "A delivery's answer says good or failed; a tick's answer says for each kind whether one started and
-- whether one failed in it." A stretch's answer names the ticks (Note 1).
unfoldable pub any_late : Model → List ℕ → List ℕ → Bool
any_late m u d = either (any_from (late_from (timeout m.setup)) u) (any_from (late_from (timeout m.setup)) d)

unfoldable pub any_open : Model → List ℕ → Bool
any_open m w = any_from (open_from (port_cycle m.setup)) w

-- "A word below 32 × 65,536 .. and the cycle counts as failed" (Note 3)
unfoldable pub port_fault : Model → List ℕ → Bool
port_fault m w = any_fault (open_from (port_cycle m.setup)) w

unfoldable pub accepted_answer : Model → Call → Answer
accepted_answer m (transaction f o x) =
    by_sort f (Accepted (starts_flight (opcode f)) (starts_temperature (opcode f))) (Accepted false false) (Accepted false false)
    (Accepted false false)
accepted_answer m tick = Ticked (report_of m.flight.schedule) (report_of m.temperature.schedule)
accepted_answer m (flight u d) = pick (any_late m u d) Failed Good
accepted_answer m (temperature w) = pick (port_fault m w) Failed Good
accepted_answer m (stretch n) =
    Stretched (stretch_report m.flight.schedule n) (stretch_report m.temperature.schedule n)

-- The model that an accepted call leaves.
unfoldable pub accepted_model : Model → Call → Model
accepted_model m (transaction f o x) =
    by_sort f (run_model m (opcode f)) (write_model (drop 1 f) (opcode f) (words f) m) (flash_model m (opcode f))
    (read_model m (opcode f) (words f))
accepted_model m tick = tick_model m
accepted_model m (flight u d) =
    pick (any_late m u d) (failed_flight_model m) (good_flight_model m (hit_count m.setup) (six_words u) (six_words d))
accepted_model m (temperature w) =
    pick (port_fault m w) (failed_temperature_model m (open_from (port_cycle m.setup)) (any_open m w) (four_words w))
    (good_temperature_model m (four_words w))
accepted_model m (stretch n) = model_ticked n m

-- The output buffer that an accepted transaction leaves.
unfoldable pub accepted_output : Model → Call → List ℕ
accepted_output m (transaction f o x) =
    by_sort f o o (flash_output (opcode f) (drop 1 f) o x) (fill_words m (opcode f) o (words f))
accepted_output m tick = []
accepted_output m (flight u d) = []
accepted_output m (temperature w) = []
accepted_output m (stretch n) = []

-- The user flash that an accepted transaction leaves: "Every byte outside the word or block keeps its value, and a refusal or any
-- other frame leaves the whole memory as it was." (Note 8)
unfoldable pub accepted_memory : Call → List ℕ
accepted_memory (transaction f o x) = by_sort f x x (flash_memory (opcode f) (drop 1 f) x) x
accepted_memory tick = []
accepted_memory (flight u d) = []
accepted_memory (temperature w) = []
accepted_memory (stretch n) = []

-- "A refusal answers its number; model and output buffer keep every value."
abbrev pub refuse : Refusal → Model → Reply
refuse r m = record { answer = Refused r; model = m }

unfoldable pub reply_by : Verdict → Model → Call → Reply
reply_by accepted m c = record { answer = accepted_answer m c; model = accepted_model m c }
reply_by (refused r) m c = refuse r m

unfoldable pub reply : Model → Call → Reply
reply m c = reply_by (verdict m c) m c

-- The number of an answer in 01's terms, where it is a refusal.
unfoldable pub number_in : Answer → List ℕ
number_in (Refused r) = number r ∷ []
number_in (Accepted f t) = []
number_in (Ticked f t) = []
number_in (Stretched f t) = []
number_in Good = []
number_in Failed = []

-- 1 for yes, 0 for no
abbrev pub flag : Bool → ℕ
flag b = pick b 1 0

-- The values of an answer that is no refusal, 1 for yes and 0 for no: of a transaction whether it started a flight and a temperature
-- measurement, of a tick whether a flight one started, one failed, a temperature one started, one failed in it, of a stretch the
-- ticks in which they did, of a delivery whether it is good.
unfoldable pub values_in : Answer → List ℕ
values_in (Refused r) = []
values_in (Accepted f t) = flag f ∷ flag t ∷ []
values_in (Ticked f t) = flag f.started ∷ flag f.failed ∷ flag t.started ∷ flag t.failed ∷ []
values_in (Stretched f t) = f.started.0 ∷ f.failed.0 ∷ t.started.0 ∷ t.failed.0 ∷ []
values_in Good = 1 ∷ []
values_in Failed = 0 ∷ []

-- The number that a verdict gives.
unfoldable pub number_of : Verdict → List ℕ
number_of accepted = []
number_of (refused r) = number r ∷ []

-- What each call states of its reply `r`: its number is the table's, its values are the definitions', and so is all of it.
pub record Replied (m : Model) (c : Call) (r : Reply) : Type 0 where
  pub number : number_in r.answer ≡ number_of (verdict m c)
  pub values : values_in r.answer ≡ values_in (reply m c).answer
  pub reply : r ≡ reply m c

unfoldable pub buffer_of : Call → List ℕ
buffer_of (transaction f o x) = o
buffer_of tick = []
buffer_of (flight u d) = []
buffer_of (temperature w) = []
buffer_of (stretch n) = []

unfoldable pub output_by : Verdict → Model → Call → List ℕ
output_by accepted m c = accepted_output m c
output_by (refused r) m c = buffer_of c

unfoldable pub output : Model → Call → List ℕ
output m c = output_by (verdict m c) m c

unfoldable pub memory_of : Call → List ℕ
memory_of (transaction f o x) = x
memory_of tick = []
memory_of (flight u d) = []
memory_of (temperature w) = []
memory_of (stretch n) = []

unfoldable pub memory_by : Verdict → Call → List ℕ
memory_by accepted c = accepted_memory c
memory_by (refused r) c = memory_of c

unfoldable pub memory : Model → Call → List ℕ
memory m c = memory_by (verdict m c) c

-- What a transaction states: of its reply, and of the output buffer and the user flash that it leaves.
pub record Transacted (m : Model) (c : Call) (r : Reply) (out mem : List ℕ) : Type 0 where
  pub replied : Replied m c r
  pub output : out ≡ output m c
  pub memory : mem ≡ memory m c
