-- A fresh model has the words that the registers need, and every call keeps them so, refused or not. Assumes nothing.
use Prim.Native.Nat.{ℕ, zero, suc, ◌+◌, ◌*◌, ◌<◌}
use native.Mathlib.Omega.{arith}
use mathlib.Core.Bool.{Bool, false}
use mathlib.Core.List.{List}
use mathlib.Core.Path.{◌≡◌, refl}
use lib.Dec.{ltb, leb, eqb}
use lib.ListN.{length, get_or, drop}
use borrow.Author.Tests.{leb-false}
use Rattle.unit.specs.Choice.{pick}
use Rattle.unit.specs.declared.Quanta.{Quanta}
use Rattle.unit.proofs.Joined.{neither}
use Rattle.setup.specs.Setup.{factory, hit_count, timeout, port_cycle}
use Rattle.setup.proofs.Laws.{cycle-below}
use Rattle.frame.specs.Frame.{is_command, is_write, is_flash}
use Rattle.hit.specs.Limit.{late_from, open_from, short_below, any_from}
use Rattle.hit.specs.Words.{word_or_zero, six_words, four_words, six_total, average, filled, failed_pairs, port_pair, port_pairs, failed_ports}
use Rattle.hit.specs.Difference.{difference_word}
use Rattle.hit.proofs.Limits.{quotient-below}
use Rattle.hit.proofs.Sum.{all-below, late-most}
use Rattle.hit.proofs.Ports.{Good, open-below}
use Rattle.device.specs.declared.Status.{Status}
use Rattle.device.specs.declared.Schedule.{Schedule}
use Rattle.device.specs.declared.Flight.{Flight}
use Rattle.device.specs.declared.Temperature.{Temperature}
use Rattle.device.specs.declared.Model.{Model}
use Rattle.device.specs.Model.{fresh_with, fresh_model, reset_model, no_flight, no_temperature}
use Rattle.device.specs.Event.{fails, settle, tick_schedule}
use Rattle.device.specs.Results.{good_difference, good_flight, failed_difference, failed_flight}
use Rattle.device.specs.Tick.{flight_ticked, flight_after, temperature_after, tick_model}
use Rattle.device.specs.Stretch.{model_ticked}
use Rattle.device.specs.Write.{with_word, setup_after, write_model}
use Rattle.device.specs.Delivery.{good_flight_model, failed_flight_model, good_temperature_model, failed_temperature_model}
use Rattle.device.specs.Bus.{starts_flight, starts_temperature, is_event, flight_started, flight_event, temperature_event, event_flight, event_temperature, started_event, initialised_model, halted_model, single_started, supplied, unsupplied, run_model, read_model}
use Rattle.device.specs.FlashFrame.{flash_model}
use Rattle.device.specs.Call.{Call, transaction, tick, flight, temperature, stretch, Verdict, accepted, refused, verdict, miscounted, opcode, words}
use Rattle.device.specs.Reply.{any_late, any_open, port_fault, accepted_model, reply_by, reply}
use Rattle.device.proofs.Table.{NoneHolds, none-holds, picked}
use Rattle.device.proofs.Sound.{hits-below, ports-good}
use Rattle.register_words.specs.Words.{EachBelow, Array, Words, CallFits}
use Rattle.register_words.proofs.Arrays.{at_place, behind, set-array, word_small}

whichever : {A : Type 0} (P : A → Type 0) (t : Bool) {x y : A} → P x → P y → P (pick t x y)
whichever P t one other = picked P t (λ _. one) (λ _. other)

-- The results of each kind by themselves: each kind of call leaves those of the other as they are.
record FlightWords (f : Flight) : Type 0 where
  ups : Array 7 4294967296 f.ups
  downs : Array 7 4294967296 f.downs
  difference : f.difference < 4294967296

abbrev Ports : Temperature → Type 0
Ports t = Array 4 4294967296 t.ports

flight-of : (m : Model) → Words m → FlightWords m.flight
flight-of m w = record { ups = w.ups; downs = w.downs; difference = w.difference }

words_of : (m : Model) → Array 16 65536 m.setup → FlightWords m.flight → Ports m.temperature → Words m
words_of m s f t = record { setup = s; ups = f.ups; downs = f.downs; difference = f.difference; ports = t }

-- ---- a fresh model

with-words : (s : Status) → Words (fresh_with s)
unfolding fresh_with factory no_flight no_temperature
with-words s = record {
  setup = record { long = refl; below = omega arith };
  ups = record { long = refl; below = omega arith };
  downs = record { long = refl; below = omega arith };
  difference = omega arith;
  ports = record { long = refl; below = omega arith };
}

pub fresh-words : Words fresh_model
unfolding fresh_model
fresh-words = with-words _

reset-words : Words reset_model
unfolding reset_model
reset-words = with-words _

-- ---- a write

setup-words : (bytes : List ℕ) (op : ℕ) (s : List ℕ) (n : ℕ) → EachBelow 256 bytes → Array 16 65536 s → Array 16 65536 (setup_after bytes op s n)
unfolding setup_after with_word
setup-words bytes op s zero b a = a
setup-words bytes op s (suc n) b a =
    let before = setup-words bytes op s n b a in
    whichever (Array 16 65536) (ltb (op + n) 0x34) before (set-array 16 65536 _ _ _ (word_small bytes n b) before)

write-words : (bytes : List ℕ) (op n : ℕ) (m : Model) → EachBelow 256 bytes → Words m → Words (write_model bytes op n m)
unfolding write_model
write-words bytes op n m b w = words_of (write_model bytes op n m) (setup-words bytes op m.setup n b w.setup) (flight-of m w) w.ports

-- ---- the other transactions

started-words : (m : Model) (op : ℕ) → Words m → Words (single_started m op)
unfolding single_started flight_started
started-words m op w =
    whichever Words (eqb op 0x03)
    record { setup = w.setup; ups = w.ups; downs = w.downs; difference = w.difference; ports = w.ports }
    record { setup = w.setup; ups = w.ups; downs = w.downs; difference = w.difference; ports = w.ports }

event-words : (m : Model) (op : ℕ) → Words m → Words (started_event m op)
unfolding started_event event_flight event_temperature flight_event temperature_event
event-words m op w =
    words_of (started_event m op) w.setup
    (whichever FlightWords (starts_flight op) record { ups = w.ups; downs = w.downs; difference = w.difference } (flight-of m w))
    (whichever Ports (starts_temperature op) w.ports w.ports)

run-words : (m : Model) (op : ℕ) → Words m → Words (run_model m op)
unfolding run_model initialised_model halted_model supplied unsupplied
run-words m op w =
    whichever Words (eqb op 0x04) reset-words
    (whichever Words (eqb op 0x05)
    (words_of _ w.setup (flight-of m w) w.ports)
    (whichever Words (eqb op 0x0A)
    record { setup = w.setup; ups = w.ups; downs = w.downs; difference = w.difference; ports = w.ports }
    (whichever Words (eqb op 0x0C)
    (words_of _ w.setup (flight-of m w) w.ports)
    (whichever Words (eqb op 0x0D)
    (words_of _ w.setup (flight-of m w) w.ports)
    (whichever Words (is_event op) (event-words m op w) (started-words m op w))))))

flash-words : (m : Model) (op : ℕ) → Words m → Words (flash_model m op)
unfolding flash_model
flash-words m op w =
    whichever Words (eqb op 0x90) w
    (words_of _ w.setup (flight-of m w) w.ports)

read-words : (m : Model) (a n : ℕ) → Words m → Words (read_model m a n)
unfolding read_model
read-words m a n w =
    whichever Words (ltb 0xFE a) w
    (whichever Words (leb (a + n) 0xFE) w
    (words_of _ w.setup (flight-of m w) w.ports))

transaction-words : (m : Model) (f o x : List ℕ) → EachBelow 256 f → Words m → Words (accepted_model m (transaction f o x))
unfolding accepted_model
transaction-words m f o x b w =
    whichever Words (is_command (opcode f)) (run-words m (opcode f) w)
    (whichever Words (is_write (opcode f)) (write-words (drop 1 f) (opcode f) (words f) m (behind 256 1 f b) w)
    (whichever Words (is_flash (opcode f)) (flash-words m (opcode f) w) (read-words m (opcode f) (words f) w)))

-- ---- ticks

-- "every HIT and AVG of the measured directions and, for a difference, TOF_DIFF become FFFFh"
lost-words : (f : Flight) (k : Schedule) → FlightWords f → FlightWords (failed_flight f k)
unfolding failed_flight failed_pairs failed_difference
lost-words f k w =
    let all : Array 7 4294967296 failed_pairs = record { long = refl; below = omega arith } in
    record {
      ups = whichever (Array 7 4294967296) f.up all w.ups;
      downs = whichever (Array 7 4294967296) f.down all w.downs;
      difference =
          whichever (λ d. d < 4294967296) f.up (whichever (λ d. d < 4294967296) f.down (omega arith) w.difference)
          w.difference;
    }

flight-ticked : (f : Flight) → FlightWords f → FlightWords (flight_after f)
unfolding flight_after flight_ticked
flight-ticked f w =
    let same : FlightWords (flight_ticked f) = record { ups = w.ups; downs = w.downs; difference = w.difference } in
    whichever FlightWords (fails f.schedule) (lost-words (flight_ticked f) (tick_schedule f.schedule) same) same

temperature-ticked : (t : Temperature) → Ports t → Ports (temperature_after t)
unfolding temperature_after failed_ports
temperature-ticked t w = whichever Ports (fails t.schedule) record { long = refl; below = omega arith } w

tick-words : (m : Model) → Words m → Words (tick_model m)
unfolding tick_model
tick-words m w =
    words_of (tick_model m) w.setup (flight-ticked m.flight (flight-of m w)) (temperature-ticked m.temperature w.ports)

ticked-words : (n : ℕ) (m : Model) → Words m → Words (model_ticked n m)
unfolding model_ticked
ticked-words zero m w = w
ticked-words (suc n) m w = tick-words (model_ticked n m) (ticked-words n m w)

-- ---- deliveries

-- a hit that is not late
hit-small : (k : ℕ) (ws : List ℕ) (i : ℕ) → any_from (late_from k) ws ≡ false → word_or_zero ws i < 2147483648
unfolding word_or_zero
hit-small k ws i e =
    let most = late-most k in
    let one = at_place (late_from k).0 ws most.0 (all-below (late_from k) ws e) i in
    whichever (λ w. w < 2147483648) (ltb i (length ws)) (omega arith) (omega arith)

filled-words :
    (k n : ℕ) (ws : List ℕ) →
    any_from (late_from k) ws ≡ false →
    six_total (six_words ws) < n * 2147483648 →
    Array 7 4294967296 (filled (six_words ws) (average (six_words ws) n))
unfolding filled six_words average
filled-words k n ws e total =
    let mean = quotient-below (six_total (six_words ws)) n 2147483648 total in
    record {
      long = refl;
      below =
          omega
          (arith, mean, hit-small k ws 0 e, hit-small k ws 1 e, hit-small k ws 2 e, hit-small k ws 3 e, hit-small k ws 4 e, hit-small k ws 5 e);
    }

difference-small : (up down : Quanta) → difference_word up down < 4294967296
unfolding difference_word
difference-small up down = omega arith

good-words :
    (f : Flight) (n : ℕ) (u d : List ℕ) →
    Array 7 4294967296 (filled u (average u n)) →
    Array 7 4294967296 (filled d (average d n)) →
    FlightWords f →
    FlightWords (good_flight f n u d)
unfolding good_flight good_difference
good-words f n u d up down w = record {
  ups = whichever (Array 7 4294967296) f.up up w.ups;
  downs = whichever (Array 7 4294967296) f.down down w.downs;
  difference =
      whichever (λ d. d < 4294967296) f.up
      (whichever (λ d. d < 4294967296) f.down (difference-small (average u n) (average d n)) w.difference)
      w.difference;
}

flight-words : (m : Model) (u d : List ℕ) → miscounted m (flight u d) ≡ false → Words m → Words (accepted_model m (flight u d))
unfolding accepted_model failed_flight_model good_flight_model any_late
flight-words m u d counted w =
    let k : ℕ = timeout m.setup in
    let h : ℕ = hit_count m.setup in
    let settled = flight-of m w in
    picked Words (any_late m u d)
    (λ _. words_of (failed_flight_model m) w.setup (lost-words m.flight (settle m.flight.schedule false) settled) w.ports)
    (λ none.
    let (nu, nd) = neither (any_from (late_from k) u) (any_from (late_from k) d) none in
    let (tu, td) = hits-below m u d counted none in
    words_of (good_flight_model m h (six_words u) (six_words d)) w.setup
    (good-words m.flight h (six_words u) (six_words d) (filled-words k h u nu tu) (filled-words k h d nd td) settled)
    w.ports)

-- An open port reads FFFFh FFFFh, and a word below the limit is below 2^31.
port-small : (limit : Quanta) (w : ℕ) → limit.0 < 2147483648 → port_pair limit w < 4294967296
unfolding port_pair
port-small limit w h =
    picked (λ x. x < 4294967296) (leb limit.0 w) (λ _. omega arith)
    (λ e. whichever (λ x. x < 4294967296) (ltb w short_below.0) (omega arith) (omega (arith, leb-false limit.0 w e)))

pairs-words : (limit : Quanta) (ws : List ℕ) → limit.0 < 2147483648 → Array 4 4294967296 (port_pairs limit ws)
unfolding port_pairs
pairs-words limit ws h = record {
  long = refl;
  below =
      omega
      (arith, port-small limit (get_or ws 0 0) h, port-small limit (get_or ws 1 0) h, port-small limit (get_or ws 2 0) h, port-small limit (get_or ws 3 0) h);
}

four-words : (limit : Quanta) (ws : List ℕ) → Good limit ws → Array 4 4294967296 (four_words ws)
unfolding four_words
four-words limit ws g = record { long = refl; below = omega (arith, g.first, g.second, g.third, g.fourth) }

temperature-words : (m : Model) (ws : List ℕ) → miscounted m (temperature ws) ≡ false → Words m → Words (accepted_model m (temperature ws))
unfolding accepted_model failed_temperature_model good_temperature_model
temperature-words m ws counted w =
    let limit : Quanta = open_from (port_cycle m.setup) in
    picked Words (port_fault m ws)
    (λ _. words_of (failed_temperature_model m limit (any_open m ws) (four_words ws)) w.setup (flight-of m w)
    (pairs-words limit (four_words ws) (open-below (port_cycle m.setup) (cycle-below m.setup))))
    (λ none.
    let g = ports-good m ws counted none in
    words_of (good_temperature_model m (four_words ws)) w.setup (flight-of m w) (four-words limit ws g))

-- ---- any call

accepted-words : (m : Model) (c : Call) → NoneHolds m c → CallFits c → Words m → Words (accepted_model m c)
accepted-words m (transaction f o x) n b w = transaction-words m f o x b w
accepted-words m tick n b w = unfold accepted_model in tick-words m w
accepted-words m (flight u d) n b w = flight-words m u d n.row11 w
accepted-words m (temperature ws) n b w = temperature-words m ws n.row11 w
accepted-words m (stretch k) n b w = unfold accepted_model in ticked-words k m w

pub keeps-words : (m : Model) (c : Call) → CallFits c → Words m → Words (reply m c).model
unfolding reply reply_by
keeps-words m c b w = go (verdict m c) refl
  where
    go : (v : Verdict) → verdict m c ≡ v → Words (reply_by v m c).model
    go accepted e = accepted-words m c (none-holds m c e) b w
    go (refused n) e = w
