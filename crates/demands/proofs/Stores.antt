-- 34h, 36h and 37h only store: no definition but a read of these registers looks at their words.
use Prim.Native.Nat.{ℕ, zero, suc, ◌+◌, ◌-◌, ◌≤◌, ◌<◌}
use native.Mathlib.Omega.{arith}
use mathlib.Core.Bool.{true, false}
use mathlib.Core.List.{List}
use mathlib.Core.Path.{◌≡◌, refl, ap, sym, ◌∙◌}
use lib.ListN.{length, drop}
use lib.Dec.{ltb, leb, eqb}
use Rattle.unit.proofs.Cases.{by-test, by-ltb}
use Rattle.frame.specs.Frame.{is_command, is_write, is_flash}
use Rattle.setup.specs.Setup.{word_of, alarm_word, hit_count, timeout, port_cycle, flight_unset, temperature_unset, clock_stands, event_continuous}
use Rattle.setup.specs.Setup.{difference_period, difference_count, temperature_period, temperature_count, interrupt_enabled, each_interrupt, alarm_mode}
use Rattle.device.specs.declared.Model.{Model}
use Rattle.device.specs.Model.{is_sound, is_busy, with_setup, fresh_with, reset_model}
use Rattle.device.specs.Registers.{calendar_word, register_word}
use Rattle.device.specs.Write.{setup_after, ticks_after, clock_after, write_invalid, write_model}
use Rattle.device.specs.Tick.{clock_ticked, tick_rings, tick_status, tick_model}
use Rattle.device.specs.Stretch.{model_ticked}
use Rattle.device.specs.Delivery.{flight_status, temperature_status, good_flight_model, failed_flight_model, good_temperature_model, failed_temperature_model}
use Rattle.device.specs.Bus.{starts_flight, starts_temperature, is_event, command_busy, before_initialize, flight_side_unset, temperature_side_unset, event_side_unset, command_unset}
use Rattle.device.specs.Bus.{flight_event, temperature_event, event_flight, event_temperature, started_event, initialised_model, halted_model, single_started, supplied, unsupplied, run_model, read_model}
use Rattle.device.specs.FlashFrame.{flash_model}
use Rattle.device.specs.Call.{Call, transaction, tick, flight, temperature, stretch, opcode, words, table, Verdict, accepted, refused, first_of, verdict}
use Rattle.device.specs.Call.{while_busy, supply_off, unreachable, unerased, bad_calendar, not_initialised, bad_setup, not_awaited, miscounted}
use Rattle.device.specs.Reply.{any_late, any_open, port_fault, accepted_answer, accepted_model, reply_by, reply}
use Rattle.device.specs.Question.{interrupt_pending}
use Rattle.demands.specs.SetupTold.{word_given}
use Rattle.demands.specs.Terms.{OtherStored}
use Rattle.demands.specs.SecondDemand.{StoresClaim}
use Rattle.device.proofs.RegisterMeaning.{reads-setup, setup-means}
use Rattle.device.proofs.Stretch.{setup-ticked}
use Rattle.demands.proofs.SetupTold.{given}

-- Every field of the set-up is the same.
record Fields (s t : List ℕ) : Type 0 where
  alarm : alarm_word t ≡ alarm_word s
  hits : hit_count t ≡ hit_count s
  late : timeout t ≡ timeout s
  cycle : port_cycle t ≡ port_cycle s
  flights : flight_unset t ≡ flight_unset s
  temperatures : temperature_unset t ≡ temperature_unset s
  stands : clock_stands t ≡ clock_stands s
  continuous : event_continuous t ≡ event_continuous s
  period : difference_period t ≡ difference_period s
  count : difference_count t ≡ difference_count s
  temperature-period : temperature_period t ≡ temperature_period s
  temperature-count : temperature_count t ≡ temperature_count s
  int : interrupt_enabled t ≡ interrupt_enabled s
  each : each_interrupt t ≡ each_interrupt s
  mode : alarm_mode t ≡ alarm_mode s

fields : (s t : List ℕ) → OtherStored s t → Fields s t
unfolding alarm_word hit_count timeout port_cycle flight_unset temperature_unset clock_stands event_continuous difference_period difference_count temperature_period temperature_count interrupt_enabled each_interrupt alarm_mode
fields s t o =
    record {
      alarm = o.words 0x35 (omega arith) (omega arith) (λ e. omega arith) (λ e. omega arith);
      hits = rw (word 0x39 (omega arith) (omega arith));
      late = rw (word 0x39 (omega arith) (omega arith));
      cycle = rw (word 0x40 (omega arith) (omega arith));
      flights = rw (word 0x38 (omega arith) (omega arith));
      temperatures = rw (word 0x40 (omega arith) (omega arith));
      stands = rw (word 0x43 (omega arith) (omega arith));
      continuous = rw (word 0x42 (omega arith) (omega arith));
      period = rw (word 0x3F (omega arith) (omega arith));
      count = rw (word 0x3F (omega arith) (omega arith));
      temperature-period = rw (word 0x3F (omega arith) (omega arith));
      temperature-count = rw (word 0x40 (omega arith) (omega arith));
      int = rw (word 0x42 (omega arith) (omega arith));
      each = rw (word 0x42 (omega arith) (omega arith));
      mode = rw (word 0x43 (omega arith) (omega arith));
    }
  where
    word : (a : ℕ) → 0x38 ≤ a → a ≤ 0x43 → word_of t a ≡ word_of s a
    word a h i = o.words a (omega arith) i (λ e. omega arith) (λ e. omega arith)

module _ (m : Model) (t : List ℕ) (o : OtherStored m.setup t) where
  k : Fields m.setup t
  k = fields m.setup t o

  -- what an accepted call leaves there
  stored : (c : Call) → OtherStored (accepted_model m c).setup (accepted_model (with_setup m t) c).setup
  stored c =
      let f = given m c o.long.0 in
      let g = given (with_setup m t) c o.long.1 in
      record {
        long = (f.long, g.long);
        words =
            λ a h i d e.
            g.word a (omega arith) i ∙ ap (word_given a c) (o.words a h i d e) ∙ sym (f.word a (omega arith) i);
      }

  written-alarm :
      (bytes : List ℕ) (op n : ℕ) → alarm_word (setup_after bytes op t n) ≡ alarm_word (setup_after bytes op m.setup n)
  unfolding alarm_word
  written-alarm bytes op n =
      setup-means bytes op t n 0x35 o.long.1 (omega arith) (omega arith)
      ∙ rw (o.words 0x35 (omega arith) (omega arith) (λ e. omega arith) (λ e. omega arith))
      (sym (setup-means bytes op m.setup n 0x35 o.long.0 (omega arith) (omega arith)))

  -- the numbers
  rows_same : (c : Call) → table (with_setup m t) c ≡ table m c
  unfolding table is_sound while_busy supply_off unreachable unerased bad_calendar not_initialised bad_setup not_awaited miscounted command_busy is_busy before_initialize command_unset event_side_unset flight_side_unset temperature_side_unset write_invalid ticks_after calendar_word
  rows_same (transaction f x y) =
      rw (k.alarm, k.flights, k.temperatures, k.stands, written-alarm (drop 1 f) (opcode f) (words f))
  rows_same tick = rw k.alarm
  rows_same (flight u d) = rw (k.alarm, k.hits)
  rows_same (temperature w) = rw k.alarm
  rows_same (stretch n) = rw k.alarm

  verdict-same : (c : Call) → verdict (with_setup m t) c ≡ verdict m c
  unfolding verdict
  verdict-same c = ap first_of (rows_same c)

  -- the answers
  answer-same : (c : Call) → accepted_answer (with_setup m t) c ≡ accepted_answer m c
  unfolding accepted_answer any_late port_fault
  answer-same (transaction f x y) = refl
  answer-same tick = refl
  answer-same (flight u d) = rw k.late
  answer-same (temperature w) = rw k.cycle
  answer-same (stretch n) = refl

  -- the rest of the model
  tick-same : tick_model (with_setup m t) ≡ with_setup (tick_model m) t
  unfolding tick_model clock_ticked tick_status tick_rings
  tick-same = rw (k.stands, k.alarm, k.mode, k.each)

  flight-same : (u d : List ℕ) → accepted_model (with_setup m t) (flight u d) ≡ with_setup (accepted_model m (flight u d)) t
  unfolding accepted_model any_late failed_flight_model good_flight_model flight_status
  flight-same u d = rw (k.late, k.hits, k.each) (by-test (any_late m u d) (λ e. rw e) (λ e. rw e))

  temperature-same : (w : List ℕ) → accepted_model (with_setup m t) (temperature w) ≡ with_setup (accepted_model m (temperature w)) t
  unfolding accepted_model any_open port_fault failed_temperature_model good_temperature_model temperature_status
  temperature-same w = rw (k.cycle, k.each) (by-test (port_fault m w) (λ e. rw e) (λ e. rw e))

  event-same : (op : ℕ) → started_event (with_setup m t) op ≡ with_setup (started_event m op) t
  unfolding started_event event_flight event_temperature flight_event temperature_event
  event-same op = rw (k.period, k.count, k.temperature-period, k.temperature-count, k.continuous)

  command-same : (op : ℕ) → run_model (with_setup m t) op ≡ with_setup (run_model m op) (run_model (with_setup m t) op).setup
  unfolding run_model
  command-same op =
      by-test (eqb op 4) (λ e. rw e (unfold reset_model fresh_with in refl))
      (λ e. rw e
      (by-test (eqb op 5) (λ f. rw f (unfold initialised_model in refl))
      (λ f. rw f
      (by-test (eqb op 10) (λ g. rw g (unfold halted_model in refl))
      (λ g. rw g
      (by-test (eqb op 12) (λ i. rw i (unfold supplied in refl))
      (λ i. rw i
      (by-test (eqb op 13) (λ j. rw j (unfold unsupplied in refl))
      (λ j. rw j
      (by-test (is_event op) (λ h. rw (h, event-same op))
      (λ h. rw h (by-test (eqb op 3) (λ l. unfold single_started in rw l) (λ l. unfold single_started in rw l)))))))))))))

  write_same :
      (bytes : List ℕ) (op n : ℕ) →
      write_model bytes op n (with_setup m t) ≡ with_setup (write_model bytes op n m) (setup_after bytes op t n)
  unfolding write_model clock_after ticks_after calendar_word
  write_same bytes op n = refl

  read_same : (a n : ℕ) → read_model (with_setup m t) a n ≡ with_setup (read_model m a n) t
  unfolding read_model
  read_same a n =
      by-test (ltb 0xFE a) (λ e. rw e) (λ e. rw e (by-test (leb (a + n) 0xFE) (λ f. rw f) (λ f. rw f)))

  flash-same : (op : ℕ) → flash_model (with_setup m t) op ≡ with_setup (flash_model m op) t
  unfolding flash_model
  flash-same op = by-test (eqb op 0x90) (λ e. rw e) (λ e. rw e)

-- With the set-up that the call leaves.
own : (p : Model) {n : Model} {u : List ℕ} → n ≡ with_setup p u → n ≡ with_setup p n.setup
own p e = e ∙ ap (with_setup p) (sym (ap (λ (q : Model). q.setup) e))

stretch-same :
    (m : Model) (t : List ℕ) → OtherStored m.setup t → (n : ℕ) → model_ticked n (with_setup m t) ≡ with_setup (model_ticked n m) t
unfolding model_ticked
stretch-same m t o zero = refl
stretch-same m t o (suc n) =
    ap tick_model (stretch-same m t o n) ∙ tick-same (model_ticked n m) t (rw (setup-ticked n m) o)

model-same :
    (m : Model) (t : List ℕ) → OtherStored m.setup t →
    (c : Call) →
    accepted_model (with_setup m t) c ≡ with_setup (accepted_model m c) (accepted_model (with_setup m t) c).setup
unfolding accepted_model
model-same m t o (transaction f x y) =
    by-test (is_command (opcode f)) (λ c. rw c (command-same m t o (opcode f)))
    (λ c. by-test (is_write (opcode f))
    (λ w. rw (c, w) (own (write_model (drop 1 f) (opcode f) (words f) m) (write_same m t o (drop 1 f) (opcode f) (words f))))
    (λ w. by-test (is_flash (opcode f))
    (λ u. rw (c, w, u) (own (flash_model m (opcode f)) (flash-same m t o (opcode f))))
    (λ u. rw (c, w, u) (own (read_model m (opcode f) (words f)) (read_same m t o (opcode f) (words f))))))
model-same m t o tick = own (tick_model m) (tick-same m t o)
model-same m t o (flight u d) = own (accepted_model m (flight u d)) (flight-same m t o u d)
model-same m t o (temperature w) = own (accepted_model m (temperature w)) (temperature-same m t o w)
model-same m t o (stretch n) = own (model_ticked n m) (stretch-same m t o n)

-- Every other register: "Register w is read at w + 80h".
above : (b : ℕ) → 0x34 ≤ b → ¬ (b ≡ 0x34) → 0x34 < b
above b h n = omega arith

written_at : (a : ℕ) → 0xB4 ≤ a → a < 0xC4 → (a ≡ a - 0x80 + 0x80) × (0x34 ≤ a - 0x80) × (a - 0x80 ≤ 0x43)
written_at a h i = (omega arith, omega arith, omega arith)

module _ (m : Model) (t : List ℕ) (o : OtherStored m.setup t) where
  setup-read :
      (a b : ℕ) →
      a ≡ b + 0x80 →
      0x34 ≤ b →
      b ≤ 0x43 →
      ¬ (a ≡ 0xB4) →
      ¬ (a ≡ 0xB6) →
      ¬ (a ≡ 0xB7) →
      register_word (with_setup m t) a ≡ register_word m a
  setup-read a b p h i d e f =
      let shift : (w : ℕ) → b ≡ w → a ≡ w + 0x80 = λ w x. p ∙ ap (λ (n : ℕ). n + 0x80) x in
      rw p
      (reads-setup (with_setup m t) b h i
      ∙ o.words b (above b h (λ x. d (shift 0x34 x))) i (λ x. e (shift 0x36 x)) (λ x. f (shift 0x37 x))
      ∙ sym (reads-setup m b h i))

  reads_same :
      (a : ℕ) → ¬ (a ≡ 0xB4) → ¬ (a ≡ 0xB6) → ¬ (a ≡ 0xB7) → register_word (with_setup m t) a ≡ register_word m a
  reads_same a d e f =
      by-ltb a 0xB4 (λ h i. unfold register_word calendar_word in rw i)
      (λ h i. by-ltb a 0xC4
      (λ j l. let (p, q, r) = written_at a h j in setup-read a (a - 0x80) p q r d e f)
      (λ j l. unfold register_word in rw (i, l)))

pub only_store : (m : Model) (t : List ℕ) → OtherStored m.setup t → StoresClaim m t
unfolding reply reply_by interrupt_pending is_sound
only_store m t o =
    record {
      answers = λ c. rw (verdict-same m t o c) (answers c (verdict m c));
      leaves = λ c. rw (verdict-same m t o c) (leaves c (verdict m c));
      reads = reads_same m t o;
      interrupt = let k = fields m.setup t o in rw (k.alarm, k.int);
    }
  where
    answers : (c : Call) (v : Verdict) → (reply_by v (with_setup m t) c).answer ≡ (reply_by v m c).answer
    answers c accepted = answer-same m t o c
    answers c (refused n) = refl

    leaves :
        (c : Call) (v : Verdict) →
        ((reply_by v (with_setup m t) c).model ≡ with_setup (reply_by v m c).model (reply_by v (with_setup m t) c).model.setup) ×
        OtherStored (reply_by v m c).model.setup (reply_by v (with_setup m t) c).model.setup
    leaves c accepted = (model-same m t o c, stored m t o c)
    leaves c (refused n) = (refl, o)
