-- The third demand. Quotations are from 01, but for those beside the claims, which are the demand's own words. What differs for a
-- continuous event: `planned_starts` has "every j in place of j below N" (Note 5), and `unended` at the end is about it alone.
use Rattle.std.specs.Prelude.{ℕ, zero, suc, ◌+◌, ◌*◌, ◌/◌, ◌%◌, ◌-◌, ◌^◌, ◌<◌, ◌≤◌, min, true, false, List, [], ◌∷◌, ◌++◌, map, ◌↔◌, ◌≡◌, length, get_or, leb, eqb}
use Rattle.device.specs.Base.{pick, clock_valid, moment, century, midnights, clock_from, word_of}
use Rattle.device.specs.Base.{hit_count, event_continuous, All, sum, difference_bits, mean_averages, floor_mean_words}
use Rattle.device.specs.declared.Model.{Model}
use Rattle.device.specs.declared.Reply.{Reply}
use Rattle.device.specs.declared.Answer.{Answer}
use Rattle.device.specs.Registers.{register_word, upwards}
use Rattle.device.specs.Model.{fresh_model}
use Rattle.device.specs.Call.{Call, transaction, tick, flight, temperature, stretch, on_time}
use Rattle.device.specs.Reply.{number_in, values_in, reply}
use Rattle.device.specs.Plain.{Holds, Whole}
use Rattle.device.specs.History.{after, Entry, log, Kind, differences, temperatures, by_kind}
use Rattle.demands.specs.EventHistory.{is_refusal, is_transaction, only_reads, Plan, plan_of, runs}
use Rattle.demands.specs.EventHistory.{is_delivery, averages_of, port_word, Expiry, History, settled_of, status_bit, evtmg_place, own_place, at_acceptance, history}
use Rattle.demands.specs.SetupTold.{setup_told}

-- "those elapsed ticks j × P, j below N, .. that the list reaches": "The list reaches an elapsed tick that is not above its
-- number of ticks."
unfoldable pub reached : ℕ → ℕ → ℕ → List ℕ
reached P zero t = []
reached P (suc n) t = reached P n t ++ pick (leb (n * P) t) (n * P ∷ []) []

-- The starts of a list of t ticks: j below N, or every j of a continuous event (Note 5), of which none above t is reached.
unfoldable pub planned_starts : Plan → ℕ → List ℕ
planned_starts p t = reached p.period (pick p.continuous (t + 1) p.count) t

-- "Awaited is then 1, exactly when number 10 would not be given for it, else 0.": by the number that a delivery would get
unfoldable pub awaited_now : Kind → Model → ℕ
awaited_now k m =
    pick (eqb (get_or (number_in (reply m (by_kind k (flight [] []) (temperature []))).answer) 0 0) 10) 0 1

-- "Each event average of the kind is the whole-number mean, rounded down, of exactly the differences or port words that 01
-- gives for its good deliveries since acceptance, 0 if none.", or of the current group. "The averages are what E5h, E6h and F0h to
-- F7h hold."
abbrev pub AveragesHeld : Kind → List ℕ → List Call → Model → Type 0
AveragesHeld differences s good m = Holds m 0xE5 (difference_bits (mean_averages (map (averages_of s) good)))
AveragesHeld temperatures s good m =
    Holds m 0xF0 (floor_mean_words (map (port_word 0) good)) ×
    Holds m 0xF2 (floor_mean_words (map (port_word 1) good)) ×
    Holds m 0xF4 (floor_mean_words (map (port_word 2) good)) ×
    Holds m 0xF6 (floor_mean_words (map (port_word 3) good))

-- no word is late: "at least 512 × 2^k × 65,536, k = TIMOUT (2:0 of 39h), or no hit"; "2^31 or more means no hit"
abbrev pub InTime : List ℕ → List ℕ → Type 0
InTime s w = (i : ℕ) → i < length w → get_or w i 0 < min (512 * 2 ^ (word_of s 0x39 % 8) * 65536) (2 ^ 31)

-- "By the set-up at acceptance, an accepted flight delivery is answered good exactly when none of its words is late, a temperature one
-- exactly when none is open", or short: "the third demand's good is read so" (Note 3). Its answer's one value is then 1. And an accepted
-- one has all its words: "an up list and a down list, each of H words"; "four words, T1 to T4".
abbrev pub Judged : List ℕ → Call → Answer → Type 0
Judged s (transaction f o x) a = ⊥
Judged s tick a = ⊥
Judged s (flight u d) a =
    (length u ≡ hit_count s) × (length d ≡ hit_count s) × ((values_in a ≡ 1 ∷ []) ↔ (InTime s u × InTime s d))
Judged s (temperature w) a = (length w ≡ 4) × ((values_in a ≡ 1 ∷ []) ↔ Whole s w)
Judged s (stretch n) a = ⊥

-- The claim for one kind: s is the set-up at acceptance, h what the list tells, m the model at its end.
pub record KindClaim (k : Kind) (s : List ℕ) (h : History) (m : Model) : Type 0 where
  -- "Its starts were exactly at those elapsed ticks j × P, j below N, with its own P and N, that the list reaches."
  pub starts : h.starts ≡ planned_starts (plan_of k s) h.ticks
  -- The starts of the current group: all that were reported where the event is not continuous.
  pub group : h.started ≡ (length h.starts - 1) % (plan_of k s).count + 1
  -- "Since acceptance, started = good + failed + awaited, counted from the answers", or "the current group in place of since
  -- acceptance" (Note 5)
  pub balance : h.started ≡ settled_of h + awaited_now k m
  -- whatever words a delivery of the kind brings
  pub awaited : (c : Call) → is_delivery k c ≡ true → (number_in (reply m c).answer ≡ 10 ∷ []) ↔ (awaited_now k m ≡ 0)
  -- "the failures that ticks report, each in the 8,192nd tick after its start"
  pub timely : All (λ (e : Expiry). e.at ≡ e.start + 8192) h.expiries
  -- "A kind is awaited only while its last start lies fewer than 8,192 ticks back."
  pub recent : awaited_now k m ≡ 1 → h.ticks < h.last + 8192
  -- every accepted delivery of the kind, good or failed
  pub judged : All (λ (e : Entry). Judged s e.call e.answer) h.deliveries
  -- "A good measurement of an event adds one to its count": "cycle counts (E4h, EFh)"
  pub count : register_word m (by_kind k 0xE4 0xEF) ≡ length h.good
  pub averages : AveragesHeld k s h.good m

-- The registers of a kind: results, count and averages.
unfoldable pub registers_of : Kind → List ℕ
registers_of k = by_kind k (upwards 0xC4 35) (upwards 0xE7 17)

-- The claim for a kind that the command does not run: none of it starts, fails or is delivered, and its registers stay.
pub record OtherClaim (k : Kind) (h : History) (m end : Model) : Type 0 where
  pub starts : h.starts ≡ []
  pub expiries : h.expiries ≡ []
  pub deliveries : h.deliveries ≡ []
  pub awaited : awaited_now k end ≡ 0
  pub kept : map (register_word end) (registers_of k) ≡ map (register_word m) (registers_of k)

-- The ticks that a list holds.
unfoldable pub ticks_moved : Entry → ℕ
ticks_moved e = pick (is_refusal e.answer) 0 (on_time e.call 0 1 (λ n. n))

unfoldable pub tick_count : List Entry → ℕ
tick_count [] = 0
tick_count (e ∷ es) = ticks_moved e + tick_count es

-- "And the clock shows the moment that lies as many ticks after acceptance as the list holds, 2000 following 2099." "Its
-- weekday has stepped once for each midnight passed." "The clock claim is about the moment, in either form." (Note 2): the
-- form stays, and what B0h to B3h read in it is this clock.
pub record ClockClaim (m : Model) (n : ℕ) (end : Model) : Type 0 where
  pub shown : moment end.clock ≡ (moment m.clock + n) % century
  pub valid : clock_valid end.clock ≡ true
  pub weekday : end.clock.weekday ≡ 1 + (m.clock.weekday - 1 + midnights m.clock n) % 7
  pub form : end.clock.twelve ≡ m.clock.twelve
  pub read :
      clock_from (register_word end 0xB0) (register_word end 0xB1) (register_word end 0xB2) (register_word end 0xB3)
      end.clock.ticks
      ≡ end.clock
  -- tenths and hundredths of B0h: "hundredths read as s × 100 ÷ 32,768 rounded down", s being the moment's ticks within its second
  pub hundredths :
      let h : ℕ = (moment m.clock + n) % 32768 * 100 / 32768 in
      register_word end 0xB0 / 256 ≡ h / 10 * 16 + h % 10

-- While an event runs, a write of one word to any register is number 6, busy; once it has ended, it is not.
abbrev pub write_number : Model → ℕ → ℕ → ℕ → List ℕ → List ℕ → List ℕ
write_number m a high low o x = number_in (reply m (transaction (a ∷ high ∷ low ∷ []) o x)).answer

abbrev pub StillBusy : Model → Type 0
StillBusy m = (a high low : ℕ) (o x : List ℕ) → 0x30 ≤ a → a ≤ 0x43 → write_number m a high low o x ≡ 6 ∷ []

abbrev pub NotBusy : Model → Type 0
NotBusy m = (a high low : ℕ) (o x : List ℕ) → 0x30 ≤ a → a ≤ 0x43 → ¬ (write_number m a high low o x ≡ 6 ∷ [])

-- The whole claim: `m` accepted event command `op`, `s` being the set-up at acceptance; the calls that followed and their answers are
-- `es`, `told` is what these tell of each kind, and `end` the model at their end.
pub record EventClaim (s : List ℕ) (m : Model) (op : ℕ) (es : List Entry) (told : Kind → History) (end : Model) : Type 0 where
  pub kinds : (k : Kind) → runs k op ≡ true → KindClaim k s (told k) end
  pub others : (k : Kind) → runs k op ≡ false → OtherClaim k (told k) m end
  -- "Settling the N-th sets TOF_EVTMG or TEMP_EVTMG." "With CONT_INT .. each settled one sets TOF or TE.", and nothing else sets them:
  -- each bit is the one told, of a kind that is not run too.
  pub evtmg : (k : Kind) → status_bit end (evtmg_place k) ≡ (told k).evtmg
  pub own : (k : Kind) → status_bit end (own_place k) ≡ (told k).own
  -- The histories of both kinds count the same ticks.
  pub ticks : (k : Kind) → (told k).ticks ≡ tick_count es
  -- "The start at 0 is reported by the command's answer, later ones by their tick.": no transaction reports one
  pub silent : All (λ (e : Entry). is_transaction e.call ≡ true → sum (values_in e.answer) ≡ 0) es
  pub clock : ClockClaim m (tick_count es) end
  -- "The event ends when all are settled.", not before
  pub running : (k : Kind) → runs k op ≡ true → settled_of (told k) < (plan_of k s).count → StillBusy end
  pub ended :
      event_continuous s ≡ false →
      ((k : Kind) → runs k op ≡ true → settled_of (told k) ≡ (plan_of k s).count) →
      NotBusy end
  -- A continuous event "ends only by HALT or Reset" (Note 5).
  pub unended : event_continuous s ≡ true → StillBusy end

-- The third demand: "Let a model grow from a fresh one by any list of transactions, ticks and deliveries, refused ones among
-- them, and then accept an event command. For every list of ticks, deliveries, register reads and refused calls that
-- follows, whatever hit words are delivered, this holds at its end for each kind that the command runs." The set-up at acceptance is
-- what the calls before it last wrote. The command has an output buffer `o` and a memory `x`, as every transaction.
abbrev pub command : ℕ → List ℕ → List ℕ → Call
command op o x = transaction (op ∷ []) o x

abbrev pub told_of : List ℕ → Model → Reply → List Entry → Kind → History
told_of s m r es k = history k (plan_of k s) es (at_acceptance k m r.answer)

abbrev pub ThirdDemand : Type 0
ThirdDemand =
    (before : List Call) (op : ℕ) (o x : List ℕ) (later : List Call) →
    0x07 ≤ op →
    op ≤ 0x09 →
    let s : List ℕ = setup_told (log fresh_model before) in
    let m : Model = after fresh_model before in
    let r : Reply = reply m (command op o x) in
    let es : List Entry = log r.model later in
    number_in r.answer ≡ [] →
    only_reads es ≡ true →
    EventClaim s m op es (told_of s m r es) (after r.model later)
