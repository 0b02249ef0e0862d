-- The second demand, as one statement: "Register reads and writes, calendar, alarm, hit averages, differences, temperatures and
-- interrupt bits are those of the MAX35101 data sheet as 01 condenses it, for words going in over the bus and for words coming out."
-- Quotations are from 01. `register_word m a` is what a read of address a gives; `word_of m.setup a` the word of 34h to 43h. An answer is
-- told by its values (`values_in`): a delivery's is 1 for good, 0 for failed.
use Rattle.std.specs.Prelude.{ℕ, ◌+◌, ◌-◌, ◌*◌, ◌/◌, ◌%◌, ◌^◌, ◌≤◌, ◌<◌, true, false, List, [], ◌∷◌, map, ◌↔◌, ◌⊎◌, ◌≡◌, ℤ, pos, negsuc, ◌+ℤ◌, ◌*ℤ◌, ◌≤ℤ◌, ◌<ℤ◌, length, get_or, drop}
use Rattle.device.specs.Base.{w32, to_z, pick, either, clock_valid}
use Rattle.device.specs.Base.{month_length, moment, midnights, CalendarValid, AlarmValid, word_of, word_at, sum, Averages}
use Rattle.device.specs.Base.{difference, total, floor_mean, difference_bits, floor_mean_words}
use Rattle.device.specs.declared.Model.{Model}
use Rattle.device.specs.declared.Reply.{Reply}
use Rattle.device.specs.Status.{Bit, TO, AF, TOF, TE, LDO, TOF-EVTMG, TEMP-EVTMG, FLASH, HALT, INIT, POR, place}
use Rattle.device.specs.Model.{is_sound, fresh_model, with_setup, with_status}
use Rattle.device.specs.Registers.{register_word, upwards}
use Rattle.device.specs.Write.{write_invalid, write_model}
use Rattle.device.specs.Tick.{tick_model}
use Rattle.device.specs.Stretch.{model_ticked}
use Rattle.device.specs.Bus.{run_model}
use Rattle.device.specs.Call.{Call, transaction, tick, flight, temperature, stretch, not_carried, not_awaited}
use Rattle.device.specs.Reply.{accepted_answer, reply, output, number_in, values_in, flag}
use Rattle.device.specs.Question.{interrupt_pending}
use Rattle.device.specs.History.{after, Entry, log, Kind, differences, temperatures, by_kind}
use Rattle.demands.specs.EventHistory.{only_reads, runs, is_delivery}
use Rattle.device.specs.Plain.{words_at, repeated, fresh_words, Holds, Whole, LeftOut, After, CalendarAfter, eosc_of, Command, Write, Read, Flash, single_ticks}
use Rattle.demands.specs.Claim.{tick_count, command, NotBusy}
use Rattle.demands.specs.Form.{FormClaim}
use Rattle.demands.specs.Initialised.{InitialisedClaim}
use Rattle.demands.specs.Terms.{Accepts, OtherStored, hits_of, least_late, least_open, Some}
use Rattle.demands.specs.Terms.{Direction, by_direction, measured, results_at, single, undelivered, failed_in, Settles}
use Rattle.demands.specs.Terms.{Set, own_bit, event_bit, Clears, Sets}
use Rattle.refusal.specs.Number.{value_told}

-- "Register reads": words coming out over the bus.
pub record ReadsClaim : Type 0 where
  -- "status 0004h (POR)"
  pub fresh : words_at fresh_model 0xB0 80 ≡ fresh_words 0x0004
  -- "C4h, D3h, F8h to FDh and the Control register FFh read 0"
  pub none :
      (m : Model) →
      map (register_word m) (0xC4 ∷ 0xD3 ∷ 0xF8 ∷ 0xF9 ∷ 0xFA ∷ 0xFB ∷ 0xFC ∷ 0xFD ∷ 0xFF ∷ []) ≡ repeated 9 0
  -- "Register w is read at w + 80h"
  pub setup : (m : Model) (w : ℕ) → 0x34 ≤ w → w ≤ 0x43 → register_word m (w + 0x80) ≡ word_of m.setup w
  -- "Status bits: TO 15, AF 14, TOF 12, TE 11, TOF_EVTMG 9, TEMP_EVTMG 8, HALT 5, INIT 3, POR 2."; LDO 10 and FLASH 7 (Note 8); and no
  -- other
  pub places :
      map place (TO ∷ AF ∷ TOF ∷ TE ∷ LDO ∷ TOF-EVTMG ∷ TEMP-EVTMG ∷ FLASH ∷ HALT ∷ INIT ∷ POR ∷ [])
      ≡ 15 ∷ 14 ∷ 12 ∷ 11 ∷ 10 ∷ 9 ∷ 8 ∷ 7 ∷ 5 ∷ 3 ∷ 2 ∷ []
  pub no_other :
      (m : Model) →
      let w : ℕ = register_word m 0xFE in
      (w / 8192 % 2 ≡ 0) × (w / 64 % 2 ≡ 0) × (w / 16 % 2 ≡ 0) × (w % 4 ≡ 0) × (w < 65536)

-- "and writes": words going in. The write of n words, in the bytes after the opcode, from register op on to a sound model.
pub record WritesClaim (m : Model) (bytes : List ℕ) (op n : ℕ) : Type 0 where
  -- "n ≥ 1 words follow, to consecutive registers"; "Words go high byte first."; "Reserved bits are kept as written"
  pub setup :
      (a : ℕ) →
      0x34 ≤ a →
      a ≤ 0x43 →
      op ≤ a →
      a < op + n →
      register_word (write_model bytes op n m) (a + 0x80) ≡ 256 * get_or bytes (2 * (a - op)) 0 + get_or bytes (2 * (a - op) + 1) 0
  -- the other registers stay
  pub others : (a : ℕ) → 0x34 ≤ a → a ≤ 0x43 → LeftOut op n a → register_word (write_model bytes op n m) (a + 0x80) ≡ register_word m (a + 0x80)
  -- number 7, "calendar: the clock after the write, or the alarm, would be invalid", both ways; "30h to 33h are judged together after
  -- the whole write"
  pub judged :
      (w30 w31 w32 w33 w35 : ℕ) →
      CalendarAfter bytes op n m w30 w31 w32 w33 →
      After bytes op n m 0x35 w35 →
      (write_invalid bytes op n m ≡ false) ↔ (CalendarValid w30 w31 w32 w33 × AlarmValid w35)
  -- "Reserved bits are .. ignored and read 0" in 30h to 33h; every other bit reads as the write leaves it
  pub calendar :
      (w30 w31 w32 w33 : ℕ) →
      CalendarAfter bytes op n m w30 w31 w32 w33 →
      write_invalid bytes op n m ≡ false →
      (register_word (write_model bytes op n m) 0xB0 ≡ w30 / 256 % 256 * 256 + w30 % 128) ×
      (register_word (write_model bytes op n m) 0xB1 ≡ w31 / 256 % 128 * 256 + w31 % 128) ×
      (register_word (write_model bytes op n m) 0xB2 ≡ w32 / 256 % 8 * 256 + w32 % 64) ×
      (register_word (write_model bytes op n m) 0xB3 ≡ w33 % 8192)
  -- "A write that covers 30h sets s to c × 32,768 ÷ 100 rounded up, c being 10 × its tenths + its hundredths"
  pub ticks :
      op ≤ 0x30 →
      0x30 < op + n →
      let w : ℕ = word_at bytes (0x30 - op) in
      let c : ℕ = 10 * (w / 4096 % 16) + w / 256 % 16 in
      let s : ℕ = (write_model bytes op n m).clock.ticks.0 in
      (c * 32768 ≤ s * 100) × (s * 100 < c * 32768 + 100)
  -- "any other write keeps s"
  pub kept : LeftOut op n 0x30 → (write_model bytes op n m).clock.ticks ≡ m.clock.ticks

-- "34h, 36h and 37h only store": a model that has the words of `t` there in place of its own. Every call answers the same and leaves the
-- same but for these words; every other register reads the same, and so does INT.
pub record StoresClaim (m : Model) (t : List ℕ) : Type 0 where
  pub answers : (c : Call) → (reply (with_setup m t) c).answer ≡ (reply m c).answer
  pub leaves :
      (c : Call) →
      let n : Model = (reply (with_setup m t) c).model in
      (n ≡ with_setup (reply m c).model n.setup) × OtherStored (reply m c).model.setup n.setup
  pub reads : (a : ℕ) → ¬ (a ≡ 0xB4) → ¬ (a ≡ 0xB6) → ¬ (a ≡ 0xB7) → register_word (with_setup m t) a ≡ register_word m a
  pub interrupt : interrupt_pending (with_setup m t) ≡ interrupt_pending m

-- "for words going in over the bus and for words coming out": what an accepted transaction makes of its frame `f` and of the output
-- buffer `o`. `write_model` and `run_model` are what the claims on writes and commands are about.
pub record BusClaim (m : Model) (f o x : List ℕ) : Type 0 where
  -- "the first 2n bytes of the output buffer are filled from consecutive registers, the rest of it stays"; "Words go high byte first."
  pub read-bytes :
      Read f →
      (i : ℕ) →
      i < (length f - 1) / 2 →
      (get_or (output m (transaction f o x)) (2 * i) 0 ≡ register_word m (get_or f 0 0 + i) / 256 % 256) ×
      (get_or (output m (transaction f o x)) (2 * i + 1) 0 ≡ register_word m (get_or f 0 0 + i) % 256)
  pub read-rest : Read f → (j : ℕ) → 2 * ((length f - 1) / 2) ≤ j → get_or (output m (transaction f o x)) j 0 ≡ get_or o j 0
  -- a read changes nothing but the status
  pub read_keeps : Read f → let n : Model = (reply m (transaction f o x)).model in n ≡ with_status m n.status
  -- "n ≥ 1 words follow, to consecutive registers"
  pub write : Write f → (reply m (transaction f o x)).model ≡ write_model (drop 1 f) (get_or f 0 0) ((length f - 1) / 2) m
  -- "A command is one byte."
  pub command : Command f → (reply m (transaction f o x)).model ≡ run_model m (get_or f 0 0)
  -- neither touches the output
  pub output-kept : Write f ⊎ Command f → output m (transaction f o x) ≡ o

-- "calendar", of a model whose clock is valid.
pub record CalendarClaim (m : Model) : Type 0 where
  -- "30h tenths, hundredths, ten seconds, seconds"; "hundredths read as s × 100 ÷ 32,768 rounded down"
  pub seconds :
      let h : ℕ = m.clock.ticks.0 * 100 / 32768 in
      register_word m 0xB0 ≡ h / 10 * 4096 + h % 10 * 256 + m.clock.second / 10 * 16 + m.clock.second % 10
  -- "31h ten minutes 14:12, minutes 11:8, ten hours 5:4, hours 3:0"
  pub time :
      m.clock.twelve ≡ false →
      register_word m 0xB1 ≡ m.clock.minute / 10 * 4096 + m.clock.minute % 10 * 256 + m.clock.hour / 10 * 16 + m.clock.hour % 10
  -- "bit 5 is then PM, bit 4 ten hours, hours 1 to 12" (Note 2), under bit 6
  pub half-days :
      m.clock.twelve ≡ true →
      let n : ℕ = (m.clock.hour + 11) % 12 + 1 in
      register_word m 0xB1
      ≡ m.clock.minute / 10 * 4096 + m.clock.minute % 10 * 256 + 64 + m.clock.hour / 12 * 32 + n / 10 * 16 + n % 10
  -- "32h weekday 10:8 (1 to 7), ten dates 5:4, dates 3:0"
  pub date : register_word m 0xB2 ≡ m.clock.weekday * 256 + m.clock.date / 10 * 16 + m.clock.date % 10
  -- "33h ten months 12, months 11:8, ten years 7:4, years 3:0"
  pub year : register_word m 0xB3 ≡ m.clock.month / 10 * 4096 + m.clock.month % 10 * 256 + m.clock.year / 10 * 16 + m.clock.year % 10
  -- each tick moves the moment by one, "compared modulo 36,525 days", where EOSC is 0
  pub moves : eosc_of m ≡ 0 → (n : ℕ) → moment (model_ticked n m).clock ≡ (moment m.clock + n) % (36525 * 86400 * 32768)
  -- "Weekday steps at midnight, 7 to 1"
  pub weekday : eosc_of m ≡ 0 → (n : ℕ) → (model_ticked n m).clock.weekday ≡ 1 + (m.clock.weekday - 1 + midnights m.clock n) % 7
  -- "The clock stands while EOSC (bit 4 of 43h) is 1"
  pub stands : eosc_of m ≡ 1 → (n : ℕ) → (model_ticked n m).clock ≡ m.clock

-- "dates 1 to the month's length"; "each year divisible by 4 is a leap year"
pub record MonthsClaim (y : ℕ) : Type 0 where
  pub leap :
      y % 4 ≡ 0 →
      map (month_length y) (upwards 1 12) ≡ 31 ∷ 29 ∷ 31 ∷ 30 ∷ 31 ∷ 30 ∷ 31 ∷ 31 ∷ 30 ∷ 31 ∷ 30 ∷ 31 ∷ []
  pub common :
      ¬ (y % 4 ≡ 0) →
      map (month_length y) (upwards 1 12) ≡ 31 ∷ 28 ∷ 31 ∷ 30 ∷ 31 ∷ 30 ∷ 31 ∷ 31 ∷ 30 ∷ 31 ∷ 30 ∷ 31 ∷ []

-- Number 11, "a delivery with another number of words", both ways, where a sound model awaits the kind.
pub record CountsClaim (m : Model) : Type 0 where
  -- "an up list and a down list, each of H words ..; the unmeasured direction's list is empty"
  pub flights :
      (u d : List ℕ) →
      not_awaited m (flight u d) ≡ false →
      (number_in (reply m (flight u d)).answer ≡ 11 ∷ [])
      ↔ (¬ ((length u ≡ pick m.flight.up (hits_of m) 0) × (length d ≡ pick m.flight.down (hits_of m) 0)))
  -- "Temperature delivery: four words"
  pub temperatures :
      (w : List ℕ) → not_awaited m (temperature w) ≡ false → (number_in (reply m (temperature w)).answer ≡ 11 ∷ []) ↔ (¬ (length w ≡ 4))

-- "every HIT and AVG of the measured directions and, for a difference, TOF_DIFF become FFFFh": the model `n` after `m` failed.
pub record FailedClaim (m n : Model) : Type 0 where
  pub results : (s : Direction) → measured s m ≡ true → words_at n (results_at s) 14 ≡ repeated 14 0xFFFF
  pub difference : m.flight.up ≡ true → m.flight.down ≡ true → words_at n 0xE2 2 ≡ repeated 2 0xFFFF

-- "hit averages, differences": the reply `r` to an accepted flight delivery, `u` and `d`.
pub record FlightClaim (m : Model) (u d : List ℕ) (r : Reply) : Type 0 where
  -- "A word late: the measurement fails", "No word late" and it is good
  pub late : (values_in r.answer ≡ 0 ∷ []) ↔ (Some (least_late m) u ⊎ Some (least_late m) d)
  -- "No word late: HIT pairs 1 to H hold the words, later HIT pairs 0"; "Int before Frac as in every pair"
  pub hits :
      (s : Direction) →
      values_in r.answer ≡ 1 ∷ [] →
      measured s m ≡ true →
      (i : ℕ) →
      i < 6 →
      Holds r.model (results_at s + 2 * i) (get_or (by_direction s u d) i 0)
  -- "AVG the sum ÷ H rounded down"
  pub average :
      (s : Direction) →
      values_in r.answer ≡ 1 ∷ [] →
      measured s m ≡ true →
      Holds r.model (results_at s + 12) (sum (by_direction s u d) / hits_of m)
  -- "for a difference TOF_DIFF = AVGUP − AVGDN": a word whose sum with AVGDN is AVGUP, modulo 2^32
  pub difference :
      values_in r.answer ≡ 1 ∷ [] →
      m.flight.up ≡ true →
      m.flight.down ≡ true →
      (w : ℕ) × (Holds r.model 0xE2 w) × (w < 2 ^ 32) × ((w + sum d / hits_of m) % 2 ^ 32 ≡ sum u / hits_of m)
  -- "of the measured directions": the results of the other direction stay, and TOF_DIFF where it is no difference, good or failed
  pub kept : (s : Direction) → measured s m ≡ false → words_at r.model (results_at s) 14 ≡ words_at m (results_at s) 14
  pub difference-kept : (s : Direction) → measured s m ≡ false → words_at r.model 0xE2 2 ≡ words_at m 0xE2 2
  pub failed : values_in r.answer ≡ 0 ∷ [] → FailedClaim m r.model

-- "temperatures": the reply `r` to an accepted delivery of four words; port i, 0 to 3, by its own word whatever the others are.
pub record TemperatureClaim (m : Model) (w : List ℕ) (r : Reply) : Type 0 where
  -- "its delivery, single or of an event, is answered failed" (Note 3): good exactly where all words are neither short nor open
  pub judged : (values_in r.answer ≡ 1 ∷ []) ↔ Whole m.setup w
  -- "An open port reads FFFFh FFFFh"
  pub open-port : (i : ℕ) → i < 4 → least_open m ≤ get_or w i 0 → Holds r.model (0xE7 + 2 * i) 0xFFFFFFFF
  -- "A word below 32 × 65,536 now reads 0000h 0000h for that port" (Note 3)
  pub short-port : (i : ℕ) → i < 4 → get_or w i 0 < 32 * 65536 → Holds r.model (0xE7 + 2 * i) 0
  -- "the others their words"
  pub whole-port :
      (i : ℕ) → i < 4 → 32 * 65536 ≤ get_or w i 0 → get_or w i 0 < least_open m → Holds r.model (0xE7 + 2 * i) (get_or w i 0)

-- "A measurement undelivered 8,192 ticks after its start fails in that tick, as if all its words were late or open.": the registers
-- after a tick that says so
pub record ExpiryClaim (m : Model) : Type 0 where
  pub flight-fails : failed_in differences m tick ≡ 1 → FailedClaim m (tick_model m)
  pub temperature-fails : failed_in temperatures m tick ≡ 1 → words_at (tick_model m) 0xE7 8 ≡ repeated 8 0xFFFF
  -- "of the measured directions": the results of the other direction stay, and TOF_DIFF where it is no difference
  pub kept : (s : Direction) → measured s m ≡ false → words_at (tick_model m) (results_at s) 14 ≡ words_at m (results_at s) 14
  pub difference-kept : (s : Direction) → measured s m ≡ false → words_at (tick_model m) 0xE2 2 ≡ words_at m 0xE2 2

-- The means of an event, in whole numbers; the third demand says of which deliveries they are taken.
pub record MeansClaim : Type 0 where
  -- "TOF_DIFF = AVGUP − AVGDN"
  pub differences : (a : Averages) → difference a +ℤ pos a.down ≡ pos a.up
  -- "A difference is a 32-bit two's complement word"
  pub words :
      (z : ℤ) →
      negsuc (2 ^ 31 - 1) ≤ℤ z →
      z <ℤ pos (2 ^ 31) →
      (difference_bits z < 2 ^ 32) × (to_z w32 (difference_bits z) ≡ z)
  -- "÷ count, rounded toward minus infinity"
  pub means :
      (ds : List ℤ) →
      0 < length ds →
      ((floor_mean ds *ℤ pos (length ds)) ≤ℤ total ds) × (total ds <ℤ ((floor_mean ds +ℤ pos 1) *ℤ pos (length ds)))
  pub ports :
      (ws : List ℕ) →
      0 < length ws →
      (floor_mean_words ws * length ws ≤ sum ws) × (sum ws < (floor_mean_words ws + 1) * length ws)

-- "interrupt bits": which bits an accepted call that is no stretch sets and clears; `n` is the model after it. A refused one changes
-- nothing, and a stretch leaves what its ticks leave. Which settlings set TOF or TE and the EVTMG bits: of a single measurement
-- `settled` of `SingleClaim`, of an event the third demand.
pub record BitsClaim (m : Model) (c : Call) (n : Model) : Type 0 where
  pub kept : (b : Bit) → ¬ Clears b c → Set b m → Set b n
  pub cleared : (b : Bit) → Clears b c → ¬ Set b n
  pub raised : (b : Bit) → Set b n → Set b m ⊎ Sets m c b
  pub sets : (b : Bit) → ((k : Kind) → (¬ (b ≡ own_bit k)) × (¬ (b ≡ event_bit k))) → Sets m c b → Set b n

-- A single measurement of the kind, started by a command (00h to 03h) that `m` accepted: `es` are the calls made since, with their
-- answers, and `n` is the model at their end.
pub record SingleClaim (k : Kind) (m : Model) (es : List Entry) (n : Model) : Type 0 where
  -- "A kind is awaited from its start until an accepted delivery, the tick that fails it, ..": number 10, whatever words are delivered
  pub awaited :
      (c : Call) →
      is_delivery k c ≡ true →
      (number_in (reply n c).answer ≡ 10 ∷ []) ↔ ((undelivered k es ≡ false) ⊎ (8192 ≤ tick_count es))
  -- "A measurement undelivered 8,192 ticks after its start fails in that tick"; "This count runs even while the clock stands."
  pub tick-fails : (failed_in k n tick ≡ 1) ↔ ((undelivered k es ≡ true) × (tick_count es + 1 ≡ 8192))
  pub stretch-fails :
      (j i : ℕ) →
      j ≤ 16384 →
      0 < i →
      (failed_in k n (stretch j) ≡ i) ↔ ((undelivered k es ≡ true) × (tick_count es + i ≡ 8192) × (i ≤ j))
  -- "A good measurement of an event adds one to its count, a single one none": E4h to E6h, or EFh to F7h
  pub counts : words_at n (by_kind k 0xE4 0xEF) (by_kind k 3 9) ≡ words_at m (by_kind k 0xE4 0xEF) (by_kind k 3 9)
  -- "A single one sets TOF or TE when delivered or failed.", and no EVTMG bit
  pub settled :
      (c : Call) →
      Accepts n c →
      Settles k n c →
      Set (own_bit k) (reply n c).model × (Set (event_bit k) (reply n c).model → Set (event_bit k) n)

-- What the commands leave of all this.
pub record CommandsClaim (m : Model) : Type 0 where
  -- "An accepted transaction answers the kinds that it started": single ones, and "07h runs both kinds, 08h differences, 09h
  -- temperatures"
  pub starts :
      (op : ℕ) (o x : List ℕ) →
      Accepts m (command op o x) →
      values_in (reply m (command op o x)).answer
      ≡ flag (either (single differences op) (runs differences op)) ∷ flag (either (single temperatures op) (runs temperatures op)) ∷ []
  -- the directions of TOF_Up (00h), TOF_Down (01h) and TOF_Diff (02h), and of an event's difference
  pub directions :
      (map (λ (op : ℕ). (run_model m op).flight.up) (0 ∷ 1 ∷ 2 ∷ 7 ∷ 8 ∷ []) ≡ true ∷ false ∷ true ∷ true ∷ true ∷ []) ×
      (map (λ (op : ℕ). (run_model m op).flight.down) (0 ∷ 1 ∷ 2 ∷ 7 ∷ 8 ∷ []) ≡ false ∷ true ∷ true ∷ true ∷ true ∷ [])
  -- a single one's start changes no register and nothing of the other kind
  pub start-keeps : (op : ℕ) → op ≤ 3 → words_at (run_model m op) 0xB0 80 ≡ words_at m 0xB0 80
  pub flight-alone : (op : ℕ) → op ≤ 2 → (run_model m op).temperature ≡ m.temperature
  pub temperature-alone : (run_model m 3).flight ≡ m.flight
  -- no command but Reset moves the clock, nor s, which no register tells
  pub clock-kept : (op : ℕ) → ¬ (op ≡ 4) → (run_model m op).clock ≡ m.clock
  -- "Acceptance zeroes cycle counts (E4h, EFh) and averages (E5h, E6h; F0h to F7h) of the kinds run."
  pub zeroed :
      (k : Kind) (op : ℕ) →
      runs k op ≡ true →
      words_at (run_model m op) (by_kind k 0xE4 0xEF) (by_kind k 3 9) ≡ repeated (by_kind k 3 9) 0
  pub not-run :
      (k : Kind) (op : ℕ) →
      7 ≤ op →
      op ≤ 9 →
      runs k op ≡ false →
      words_at (run_model m op) (by_kind k 0xE4 0xEF) (by_kind k 3 9) ≡ words_at m (by_kind k 0xE4 0xEF) (by_kind k 3 9)
  -- "0Ah HALT drops awaited measurements, ends the event": no tick after it reports a start or a failure, and a delivery is number 10
  pub halts : (n : ℕ) → values_in (accepted_answer (model_ticked n (run_model m 10)) tick) ≡ 0 ∷ 0 ∷ 0 ∷ 0 ∷ []
  pub drops : (k : Kind) (n : ℕ) (c : Call) → is_delivery k c ≡ true → not_awaited (model_ticked n (run_model m 10)) c ≡ true
  -- and no write is number 6, busy; nor after Reset
  pub halt-idle : is_sound m ≡ true → NotBusy (run_model m 10)
  pub reset-idle : NotBusy (run_model m 4)
  -- "04h Reset gives the same with status 0000h."; "A kind is awaited from its start until .. HALT or Reset."
  pub reset : words_at (run_model m 4) 0xB0 80 ≡ fresh_words 0
  pub reset-drops : (k : Kind) (c : Call) → is_delivery k c ≡ true → not_awaited (run_model m 4) c ≡ true
  -- 05h, 0Ah, 0Ch and 0Dh leave what B0h to F7h read
  pub others_keep :
      (op : ℕ) →
      (op ≡ 0x05) ⊎ (op ≡ 0x0A) ⊎ (op ≡ 0x0C) ⊎ (op ≡ 0x0D) →
      words_at (run_model m op) 0xB0 72 ≡ words_at m 0xB0 72

pub record SecondDemand : Type 0 where
  pub reads : ReadsClaim
  -- number 2, "first byte not carried", both ways
  pub carried : (f o x : List ℕ) → (not_carried (transaction f o x) ≡ false) ↔ (Command f ⊎ Write f ⊎ Flash f ⊎ Read f)
  pub bus : (m : Model) (f o x : List ℕ) → Accepts m (transaction f o x) → BusClaim m f o x
  pub writes : (m : Model) (bytes : List ℕ) (op n : ℕ) → is_sound m ≡ true → length m.setup ≡ 16 → WritesClaim m bytes op n
  pub stores : (m : Model) (t : List ℕ) → OtherStored m.setup t → StoresClaim m t
  pub calendar : (m : Model) → clock_valid m.clock ≡ true → CalendarClaim m
  pub months : (y : ℕ) → MonthsClaim y
  -- "A clock keeps the form it was last written in." (Note 2)
  pub form : FormClaim
  pub counts : (m : Model) → is_sound m ≡ true → CountsClaim m
  pub flights : (m : Model) (u d : List ℕ) → Accepts m (flight u d) → FlightClaim m u d (reply m (flight u d))
  pub temperatures : (m : Model) (w : List ℕ) → Accepts m (temperature w) → TemperatureClaim m w (reply m (temperature w))
  pub expiries : (m : Model) → ExpiryClaim m
  pub means : MeansClaim
  pub bits : (m : Model) (c : Call) → Accepts m c → ((n : ℕ) → ¬ (c ≡ stretch n)) → BitsClaim m c (reply m c).model
  -- "with the same end as n single ticks" (Note 1)
  pub stretches : (m : Model) (n : ℕ) → is_sound m ≡ true → n ≤ 16384 → (reply m (stretch n)).model ≡ after m (single_ticks n)
  -- "The INT answer is yes exactly when INT_EN (bit 9 of 42h) is 1 and the status is not 0."
  pub interrupt :
      (m : Model) →
      (value_told (interrupt_pending m) ≡ 1 ∷ [])
      ↔ ((is_sound m ≡ true) × (word_of m.setup 0x42 / 512 % 2 ≡ 1) × (¬ (register_word m 0xFE ≡ 0)))
  pub singles :
      (k : Kind) (m : Model) (op : ℕ) (o x : List ℕ) (later : List Call) →
      single k op ≡ true →
      Accepts m (command op o x) →
      let n : Model = (reply m (command op o x)).model in
      only_reads (log n later) ≡ true →
      SingleClaim k m (log n later) (after n later)
  pub commands : (m : Model) → CommandsClaim m
  -- "05h Initialize makes the model initialised, until a Reset"
  pub initialised : InitialisedClaim
