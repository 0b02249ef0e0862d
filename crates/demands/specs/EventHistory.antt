-- What the calls after an accepted event command tell of a kind of measurement, by 01's number and values of their answers. Quotations
-- are from 01. One statement serves both sorts of event: where a continuous one begins a group (`opens_group`), counting begins anew,
-- "in place of since acceptance" (Note 5).
use Rattle.std.specs.Prelude.{ℕ, zero, suc, ◌+◌, ◌/◌, ◌%◌, ◌^◌, Bool, true, false, List, [], ◌∷◌, ◌++◌, length, get_or, ltb, leb, eqb}
use Rattle.device.specs.Base.{pick, both, either, negate, hit_count, difference_period, difference_count, temperature_period}
use Rattle.device.specs.Base.{temperature_count, event_continuous, each_interrupt, is_read, sum, Averages}
use Rattle.device.specs.declared.Model.{Model}
use Rattle.device.specs.declared.Answer.{Answer}
use Rattle.device.specs.Registers.{register_word}
use Rattle.device.specs.Call.{Call, transaction, tick, flight, temperature, stretch, opcode, words, on_frame, on_delivery}
use Rattle.device.specs.Reply.{number_in, values_in}
use Rattle.device.specs.History.{Entry, Kind, by_kind}

-- A refusal is an answer with a number.
unfoldable pub is_refusal : Answer → Bool
is_refusal a = ltb 0 (length (number_in a))

-- What a list of calls tells of a value that each accepted call gives anew, from what it was: a refused call changes nothing.
unfoldable pub last_given : {A : Type 0} → (Call → A → A) → List Entry → A → A
last_given given [] x = x
last_given given (e ∷ es) x = last_given given es (pick (is_refusal e.answer) x (given e.call x))

-- the value at a place of an answer, the first at 0
abbrev pub value_at : ℕ → Answer → ℕ
value_at i a = get_or (values_in a) i 0

-- "After acceptance an accepted transaction stands in the list only if it is a register read."
abbrev pub is_transaction : Call → Bool
is_transaction c = on_frame c (λ f o x. true)

unfoldable pub may_follow : Call → Bool
may_follow c = either (negate (is_transaction c)) (on_frame c (λ f o x. is_read (opcode f)))

unfoldable pub only_reads : List Entry → Bool
only_reads [] = true
only_reads (e ∷ es) = both (either (is_refusal e.answer) (may_follow e.call)) (only_reads es)

-- "07h runs both kinds, 08h differences, 09h temperatures."
unfoldable pub runs : Kind → ℕ → Bool
runs k op = either (eqb op 0x07) (eqb op (by_kind k 0x08 0x09))

unfoldable pub is_delivery : Kind → Call → Bool
is_delivery k c = on_delivery c false (λ u d. by_kind k true false) (λ w. by_kind k false true)

-- P, N, the sort of the event and CONT_INT, by the set-up at acceptance.
pub record Plan : Type 0 where
  pub period : ℕ
  pub count : ℕ
  pub continuous : Bool
  pub each : Bool

abbrev pub plan_of : Kind → List ℕ → Plan
plan_of k s =
    record {
      period = by_kind k (difference_period s).0 (temperature_period s).0;
      count = by_kind k (difference_count s) (temperature_count s);
      continuous = event_continuous s;
      each = each_interrupt s;
    }

-- "A flight delivery's difference is the up list's sum ÷ H rounded down, less the same of the down list"
unfoldable pub averages_of : List ℕ → Call → Averages
averages_of s c =
    on_delivery c (record { up = 0; down = 0 }) (λ u d. record { up = sum u / hit_count s; down = sum d / hit_count s })
    (λ w. record { up = 0; down = 0 })

-- "a temperature delivery's port words are the four delivered, each port with a mean of its own": port 0 to 3
unfoldable pub port_word : ℕ → Call → ℕ
port_word i c = on_delivery c 0 (λ u d. 0) (λ w. get_or w i 0)

-- A failure that a tick reports: the kind's last start before it, and the tick.
pub record Expiry : Type 0 where
  pub start : ℕ
  pub at : ℕ

-- What a list of calls and answers tells of one kind.
pub record History : Type 0 where
  -- the ticks of the list
  pub ticks : ℕ
  -- the elapsed ticks at which starts were reported, in order of time, and the last of them
  pub starts : List ℕ
  pub last : ℕ
  -- the failures that ticks reported, and the accepted deliveries with their answers
  pub expiries : List Expiry
  pub deliveries : List Entry
  -- Since acceptance, or in the current group of a continuous event: the starts;
  pub started : ℕ
  -- "good, the deliveries answered good", in order of time;
  pub good : List Call
  -- "failed, those answered failed and the failures that ticks report"
  pub failed : ℕ
  -- What two bits of FEh are then, 1 or 0: TOF_EVTMG or TEMP_EVTMG, and TOF or TE.
  pub evtmg : ℕ
  pub own : ℕ

-- a bit of the interrupt status: "TOF 12, TE 11, TOF_EVTMG 9, TEMP_EVTMG 8"
abbrev pub status_bit : Model → ℕ → ℕ
status_bit m place = register_word m 0xFE / 2 ^ place % 2

abbrev pub evtmg_place : Kind → ℕ
evtmg_place k = by_kind k 9 8

abbrev pub own_place : Kind → ℕ
own_place k = by_kind k 12 11

-- At acceptance, by the model that accepts the command and its answer, whose two values are the kinds that it started.
unfoldable pub at_acceptance : Kind → Model → Answer → History
at_acceptance k m a =
    record {
      ticks = 0;
      starts = pick (eqb (value_at (by_kind k 0 1) a) 1) (0 ∷ []) [];
      last = 0;
      expiries = [];
      deliveries = [];
      started = value_at (by_kind k 0 1) a;
      good = [];
      failed = 0;
      evtmg = status_bit m (evtmg_place k);
      own = status_bit m (own_place k);
    }

-- "A measurement is settled when it is good or failed.": those since acceptance, or of the current group
abbrev pub settled_of : History → ℕ
settled_of h = length h.good + h.failed

-- "Settling the N-th sets TOF_EVTMG or TEMP_EVTMG", the N-th of each group (Note 5); "With CONT_INT .. each settled one sets TOF or TE."
abbrev pub evtmg_after : Plan → Bool → History → ℕ
evtmg_after p settles h = pick (both settles (eqb (settled_of h + 1) p.count)) 1 h.evtmg

abbrev pub own_after : Plan → Bool → History → ℕ
own_after p settles h = pick (both settles p.each) 1 h.own

-- Whether the next start opens a group: "Each N starts of a kind make a group" (Note 5). An event that is not continuous has one
-- group, from acceptance on.
unfoldable pub opens_group : Plan → History → Bool
opens_group p h = both p.continuous (eqb h.started p.count)

-- A history with one tick more, and what it reports. A start that opens a group is the group's first, and nothing is good or failed
-- in it yet.
unfoldable pub note_tick : Plan → Bool → Bool → History → History
note_tick p started failed h =
    record {
      ticks = h.ticks + 1;
      starts = pick started (h.starts ++ ((h.ticks + 1) ∷ [])) h.starts;
      last = pick started (h.ticks + 1) h.last;
      expiries = pick failed (h.expiries ++ (record { start = h.last; at = h.ticks + 1 } ∷ [])) h.expiries;
      deliveries = h.deliveries;
      started = pick started (pick (opens_group p h) 1 (h.started + 1)) h.started;
      good = pick (both started (opens_group p h)) [] h.good;
      failed = pick (both started (opens_group p h)) 0 (pick failed (h.failed + 1) h.failed);
      evtmg = evtmg_after p failed h;
      own = own_after p failed h;
    }

-- "each accepted one counts as its n ticks, and a start or failure named in its answer as reported by that tick" (Note 1): the ticks
-- named, 0 for none
unfoldable pub note_ticks : Plan → ℕ → ℕ → ℕ → History → History
note_ticks p zero started failed h = h
note_ticks p (suc n) started failed h =
    note_tick p (eqb started (n + 1)) (eqb failed (n + 1)) (note_ticks p n started failed h)

-- A history with one delivery more. Its answer's value is 1 where it is good.
unfoldable pub note_delivery : Plan → Entry → History → History
note_delivery p e h =
    record {
      ticks = h.ticks;
      starts = h.starts;
      last = h.last;
      expiries = h.expiries;
      deliveries = h.deliveries ++ (e ∷ []);
      started = h.started;
      good = pick (eqb (value_at 0 e.answer) 1) (h.good ++ (e.call ∷ [])) h.good;
      failed = pick (eqb (value_at 0 e.answer) 1) h.failed (h.failed + 1);
      evtmg = evtmg_after p true h;
      own = own_after p true h;
    }

-- "FEh is the interrupt status; reading it clears it": the words of the read, from its address on, reach over FEh
abbrev pub reads_status : List ℕ → Bool
reads_status f = both (leb (opcode f) 0xFE) (ltb 0xFE (opcode f + words f))

unfoldable pub note_read : List ℕ → History → History
note_read f h =
    record {
      ticks = h.ticks;
      starts = h.starts;
      last = h.last;
      expiries = h.expiries;
      deliveries = h.deliveries;
      started = h.started;
      good = h.good;
      failed = h.failed;
      evtmg = pick (reads_status f) 0 h.evtmg;
      own = pick (reads_status f) 0 h.own;
    }

-- A history with one accepted call more. Of the four values of a tick or a stretch, the first two are of flight: start, failure.
unfoldable pub note_accepted : Kind → Plan → Call → Answer → History → History
note_accepted k p (transaction f o x) a h = note_read f h
note_accepted k p tick a h = note_ticks p 1 (value_at (by_kind k 0 2) a) (value_at (by_kind k 1 3) a) h
note_accepted k p (flight u d) a h = by_kind k (note_delivery p (record { call = flight u d; answer = a }) h) h
note_accepted k p (temperature w) a h = by_kind k h (note_delivery p (record { call = temperature w; answer = a }) h)
note_accepted k p (stretch n) a h = note_ticks p n (value_at (by_kind k 0 2) a) (value_at (by_kind k 1 3) a) h

-- A refused call tells nothing.
unfoldable pub note : Kind → Plan → Entry → History → History
note k p e h = pick (is_refusal e.answer) h (note_accepted k p e.call e.answer h)

unfoldable pub history : Kind → Plan → List Entry → History → History
history k p [] h = h
history k p (e ∷ es) h = history k p es (note k p e h)
