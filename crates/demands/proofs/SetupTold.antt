-- Over every list of calls each register of the set-up has the word last written to it since Reset.
use Prim.Native.Nat.{ℕ, zero, suc, ◌+◌, ◌-◌, ◌≤◌, ◌<◌}
use native.Mathlib.Omega.{arith}
use mathlib.Core.List.{List, [], ◌∷◌, map}
use mathlib.Core.Path.{◌≡◌, refl, ap, sym, ◌∙◌}
use lib.ListN.{length, get_or, drop}
use lib.Dec.{ltb, leb, eqb}
use Rattle.unit.specs.Choice.{pick}
use Rattle.unit.proofs.Cases.{by-test}
use Rattle.setup.specs.Setup.{factory, word_of}
use Rattle.frame.specs.Frame.{is_command, is_write, is_flash}
use Rattle.device.specs.declared.Model.{Model}
use Rattle.device.specs.Model.{fresh_model, fresh_with, reset_model}
use Rattle.device.specs.Registers.{upwards}
use Rattle.device.specs.Write.{written, write_model}
use Rattle.device.specs.Tick.{tick_model}
use Rattle.device.specs.Delivery.{good_flight_model, failed_flight_model, good_temperature_model, failed_temperature_model}
use Rattle.device.specs.FlashFrame.{flash_model}
use Rattle.device.specs.Bus.{supplied, unsupplied, is_event, started_event, initialised_model, halted_model, single_started, run_model, read_model}
use Rattle.device.specs.Call.{Call, transaction, tick, flight, temperature, stretch, opcode, words}
use Rattle.device.specs.Call.{Verdict, accepted, refused, verdict}
use Rattle.device.specs.Reply.{any_late, port_fault, accepted_model, reply_by, reply}
use Rattle.device.specs.History.{after, log}
use Rattle.demands.specs.EventHistory.{last_given}
use Rattle.demands.specs.SetupTold.{word_given, setup_told, SetupClaim}
use Rattle.device.proofs.RegisterMeaning.{setup-length, setup-means}
use Rattle.device.proofs.Stretch.{setup-ticked}
use Rattle.demands.proofs.CallSteps.{all-given}

run-setup : (m : Model) (op : ℕ) → (run_model m op).setup ≡ pick (eqb op 4) factory m.setup
unfolding run_model reset_model fresh_with initialised_model halted_model supplied unsupplied started_event single_started
run-setup m op =
    by-test (eqb op 4) (λ e. rw e)
    (λ e. rw e
    (by-test (eqb op 5) (λ f. rw f)
    (λ f. rw f
    (by-test (eqb op 10) (λ g. rw g)
    (λ g. rw g
    (by-test (eqb op 12) (λ j. rw j)
    (λ j. rw j
    (by-test (eqb op 13) (λ k. rw k)
    (λ k. rw k
    (by-test (is_event op) (λ h. rw h) (λ h. rw h (by-test (eqb op 3) (λ i. rw i) (λ i. rw i)))))))))))))

read-setup : (m : Model) (a n : ℕ) → (read_model m a n).setup ≡ m.setup
unfolding read_model
read-setup m a n = by-test (ltb 0xFE a) (λ e. rw e) (λ e. rw e (by-test (leb (a + n) 0xFE) (λ f. rw f) (λ f. rw f)))

flash-setup : (m : Model) (op : ℕ) → (flash_model m op).setup ≡ m.setup
unfolding flash_model
flash-setup m op = by-test (eqb op 0x90) (λ e. rw e) (λ e. rw e)

-- What one accepted call does to the set-up.
pub record Given (m : Model) (c : Call) : Type 0 where
  pub long : length (accepted_model m c).setup ≡ 16
  pub word : (a : ℕ) → 0x34 ≤ a → a ≤ 0x43 → word_of (accepted_model m c).setup a ≡ word_given a c (word_of m.setup a)

factory-long : length factory ≡ 16
unfolding factory
factory-long = refl

run_long : (m : Model) (op : ℕ) → length m.setup ≡ 16 → length (run_model m op).setup ≡ 16
run_long m op l =
    rw (run-setup m op) (by-test (eqb op 4) (λ e. rw e factory-long) (λ e. rw e l))

run-word :
    (m : Model) (op a : ℕ) →
    word_of (run_model m op).setup a ≡ pick (eqb op 4) (word_of factory a) (word_of m.setup a)
run-word m op a = rw (run-setup m op) (by-test (eqb op 4) (λ e. rw e) (λ e. rw e))

write_word :
    (m : Model) (bytes : List ℕ) (op n a : ℕ) →
    length m.setup ≡ 16 →
    0x34 ≤ a →
    a ≤ 0x43 →
    word_of (write_model bytes op n m).setup a ≡ written bytes op n a (word_of m.setup a)
unfolding write_model
write_word m bytes op n a l h i = setup-means bytes op m.setup n a l h i

write-long : (m : Model) (bytes : List ℕ) (op n : ℕ) → length m.setup ≡ 16 → length (write_model bytes op n m).setup ≡ 16
unfolding write_model
write-long m bytes op n l = setup-length bytes op m.setup n ∙ l

pub given : (m : Model) (c : Call) → length m.setup ≡ 16 → Given m c
unfolding accepted_model word_given written tick_model failed_flight_model good_flight_model failed_temperature_model good_temperature_model
given m (transaction f o x) l =
    by-test (is_command (opcode f))
    (λ c. record {
      long = rw c (run_long m (opcode f) l);
      word = λ a h i. rw c (run-word m (opcode f) a);
    })
    (λ c. by-test (is_write (opcode f))
    (λ w. record {
      long = rw (c, w) (write-long m (drop 1 f) (opcode f) (words f) l);
      word = λ a h i. rw (c, w) (write_word m (drop 1 f) (opcode f) (words f) a l h i);
    })
    (λ w. by-test (is_flash (opcode f))
    (λ u. record {
      long = rw (c, w, u, flash-setup m (opcode f)) l;
      word = λ a h i. rw (c, w, u, flash-setup m (opcode f));
    })
    (λ u. record {
      long = rw (c, w, u, read-setup m (opcode f) (words f)) l;
      word = λ a h i. rw (c, w, u, read-setup m (opcode f) (words f));
    })))
given m tick l = record { long = l; word = λ a h i. refl }
given m (flight u d) l =
    by-test (any_late m u d)
    (λ e. record { long = rw e l; word = λ a h i. rw e })
    (λ e. record { long = rw e l; word = λ a h i. rw e })
given m (temperature w) l =
    by-test (port_fault m w)
    (λ e. record { long = rw e l; word = λ a h i. rw e })
    (λ e. record { long = rw e l; word = λ a h i. rw e })
given m (stretch n) l =
    record { long = rw (setup-ticked n m) l; word = λ a h i. rw (setup-ticked n m) }

-- One call, accepted or refused.
step-long : (m : Model) (c : Call) → length m.setup ≡ 16 → length (reply m c).model.setup ≡ 16
unfolding reply reply_by
step-long m c l = go (verdict m c)
  where
    go : (v : Verdict) → length (reply_by v m c).model.setup ≡ 16
    go accepted = (given m c l).long
    go (refused n) = l

pub all-long : (cs : List Call) (m : Model) → length m.setup ≡ 16 → length (after m cs).setup ≡ 16
unfolding after
all-long [] m l = l
all-long (c ∷ cs) m l = all-long cs (reply m c).model (step-long m c l)

all_words :
    (cs : List Call) (m : Model) (a : ℕ) →
    length m.setup ≡ 16 →
    0x34 ≤ a →
    a ≤ 0x43 →
    word_of (after m cs).setup a ≡ last_given (word_given a) (log m cs) (word_of m.setup a)
all_words cs m a l h i =
    all-given (λ (m : Model). word_of m.setup a) (word_given a) (λ (m : Model). length m.setup ≡ 16) step-long
    (λ m c l. (given m c l).word a h i) cs m l

-- A list of sixteen words is its words one by one.
shifted :
    (w : ℕ) (l : List ℕ) (a b n : ℕ) →
    a < b →
    map (λ (i : ℕ). get_or (w ∷ l) (i - a) 0) (upwards b n) ≡ map (λ (i : ℕ). get_or l (i - (a + 1)) 0) (upwards b n)
shifted w l a b zero h = refl
shifted w l a b (suc n) h =
    let e : b - a ≡ suc (b - (a + 1)) = omega arith in rw (e, shifted w l a (b + 1) n (omega arith))

one_by_one : (l : List ℕ) (a : ℕ) → l ≡ map (λ (i : ℕ). get_or l (i - a) 0) (upwards a (length l))
one_by_one [] a = refl
one_by_one (w ∷ l) a =
    let e : a - a ≡ 0 = omega arith in
    rw e (ap (λ (r : List ℕ). w ∷ r) (one_by_one l (a + 1) ∙ sym (shifted w l a (a + 1) (length l) (omega arith))))

same_map :
    (f g : ℕ → ℕ) (a n : ℕ) →
    ((i : ℕ) → a ≤ i → i < a + n → f i ≡ g i) →
    map f (upwards a n) ≡ map g (upwards a n)
same_map f g a zero h = refl
same_map f g a (suc n) h =
    rw (h a (omega arith) (omega arith), same_map f g (a + 1) n (λ i j k. h i (omega arith) (omega arith)))

sixteen : (l : List ℕ) → length l ≡ 16 → l ≡ map (word_of l) (upwards 0x34 16)
sixteen l e = one_by_one l 0x34 ∙ ap (λ (n : ℕ). map (word_of l) (upwards 0x34 n)) e

pub setup-told : SetupClaim
unfolding setup_told
setup-told cs =
    let l : length fresh_model.setup ≡ 16 = unfold fresh_model fresh_with in factory-long in
    let s : List ℕ = (after fresh_model cs).setup in
    sixteen s (all-long cs fresh_model l) ∙
    same_map (word_of s) (λ (a : ℕ). last_given (word_given a) (log fresh_model cs) (word_of factory a)) 0x34 16
    (λ a h i. all_words cs fresh_model a l h (omega arith) ∙ fresh-word a)
  where
    fresh-word : (a : ℕ) → last_given (word_given a) (log fresh_model cs) (word_of fresh_model.setup a) ≡ last_given (word_given a) (log fresh_model cs) (word_of factory a)
    fresh-word a = unfold fresh_model fresh_with in refl
