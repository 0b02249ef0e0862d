-- A change of probes leaves the flow: two runs stay alike but for what temperature words may touch.
use Prim.Native.Nat.{ℕ}
use mathlib.Core.Bool.{Bool, true, false}
use mathlib.Core.List.{List, ◌∷◌, map}
use mathlib.Core.Path.{◌≡◌, refl, ap, sym, ◌∙◌}
use Rattle.unit.proofs.Cases.{by-test}
use Rattle.device.specs.declared.Flight.{Flight}
use Rattle.device.specs.declared.Model.{Model}
use Rattle.device.specs.declared.Reply.{Reply}
use Rattle.device.specs.declared.Answer.TheVariants.{Refused}
use Rattle.device.specs.Model.{is_sound}
use Rattle.device.specs.Registers.{flight_word, register_word}
use Rattle.device.specs.Call.{Call, transaction, tick, flight, temperature, stretch, table, Verdict, accepted, refused, first_of, verdict}
use Rattle.device.specs.Reply.{values_in, refuse, reply_by, reply, accepted_memory, memory_of, memory_by, memory}
use Rattle.demands.specs.Probes.{OtherProbes, same, values, buffer, OtherProbesIn, none, next, flow_registers, Flow, start_of, flow_of, flow_through, ProbesClaim}
use Rattle.demands.specs.FlashRun.{lent, memory_left}
use Rattle.demands.proofs.ProbesBlanked.{blank, model-alike, report-alike, other_rows, rows_alike}
use Rattle.device.proofs.Sound.{keeps-sound}
use Rattle.refusal.specs.declared.Refusal.{Refusal}

-- A call of two sound models: the same number or none, and then the rest.
sound-verdict : (m : Model) (c : Call) → is_sound m ≡ true → verdict m c ≡ first_of (other_rows m c)
unfolding verdict first_of table
sound-verdict m c s = rw s

pub verdict-alike :
    (m n : Model) {c d : Call} →
    is_sound m ≡ true →
    is_sound n ≡ true →
    blank m ≡ blank n →
    OtherProbes c d →
    verdict m c ≡ verdict n d
verdict-alike m n {c} {d} s t e o =
    sound-verdict m c s ∙ ap first_of (rows_alike m n e o) ∙ sym (sound-verdict n d t)

pub record Alike (c d : Call) (r s : Reply) : Type 0 where
  pub models : blank r.model ≡ blank s.model
  pub reports : start_of c r.answer ≡ start_of d s.answer

refused_none : (c : Call) (n : Refusal) → start_of c (Refused n) ≡ 0
unfolding start_of values_in
refused_none (transaction f o x) n = refl
refused_none tick n = refl
refused_none (flight u d) n = refl
refused_none (temperature w) n = refl
refused_none (stretch k) n = refl

pub reply-alike :
    (m n : Model) {c d : Call} →
    is_sound m ≡ true →
    is_sound n ≡ true →
    blank m ≡ blank n →
    OtherProbes c d →
    Alike c d (reply m c) (reply n d)
unfolding reply reply_by
reply-alike m n {c} {d} s t e o = rw (verdict-alike m n s t e o) (go (verdict n d))
  where
    go : (v : Verdict) → Alike c d (reply_by v m c) (reply_by v n d)
    go accepted = record { models = model-alike m n e o; reports = report-alike m n e o }
    go (refused k) = record { models = e; reports = refused_none c k ∙ sym (refused_none d k) }

-- The memory that a run lends changes nothing of this, and both runs leave the same.
lent_alike : (x : List ℕ) {c d : Call} → OtherProbes c d → OtherProbes (lent x c) (lent x d)
lent_alike x (same c) = same (lent x c)
lent_alike x (values v w l) = unfold lent in values v w l
lent_alike x (buffer f o p y l) = unfold lent in buffer f o p x l

unfoldable left_by : Verdict → List ℕ → Call → List ℕ
left_by v x (transaction f o y) = memory_by v (transaction f o x)
left_by v x tick = x
left_by v x (flight u d) = x
left_by v x (temperature w) = x
left_by v x (stretch n) = x

left_by_lem : (m : Model) (x : List ℕ) (c : Call) → memory_left m x c ≡ left_by (verdict m (lent x c)) x c
unfolding memory_left left_by lent memory
left_by_lem m x (transaction f o y) = refl
left_by_lem m x tick = refl
left_by_lem m x (flight u d) = refl
left_by_lem m x (temperature w) = refl
left_by_lem m x (stretch n) = refl

left_other : (v : Verdict) (x : List ℕ) {c d : Call} → OtherProbes c d → left_by v x c ≡ left_by v x d
unfolding left_by memory_by accepted_memory memory_of
left_other v x (same c) = refl
left_other v x (values u w l) = refl
left_other accepted x (buffer f o p y l) = refl
left_other (refused n) x (buffer f o p y l) = refl

left-alike :
    (m n : Model) (x : List ℕ) {c d : Call} →
    is_sound m ≡ true →
    is_sound n ≡ true →
    blank m ≡ blank n →
    OtherProbes c d →
    memory_left m x c ≡ memory_left n x d
left-alike m n x {c} {d} s t e o =
    left_by_lem m x c ∙ ap (λ (v : Verdict). left_by v x c) (verdict-alike m n s t e (lent_alike x o)) ∙
    left_other (verdict n (lent x d)) x o ∙ sym (left_by_lem n x d)

-- What is compared is the report, what the flight reads, and the memory.
unfoldable flow_by : ℕ → Flight → List ℕ → Flow
flow_by started f x = record { started = started; words = map (flight_word f) flow_registers; memory = x }

flow-read : (c : Call) (r : Reply) (x : List ℕ) → flow_of c r x ≡ flow_by (start_of c r.answer) (blank r.model).flight x
unfolding flow_of flow_by register_word flow_registers blank
flow-read c r x = refl

flow-alike : {c d : Call} {r s : Reply} {x y : List ℕ} → Alike c d r s → x ≡ y → flow_of c r x ≡ flow_of d s y
flow-alike {c} {d} {r} {s} {x} {y} a e =
    flow-read c r x ∙ ap (λ (p : Model). flow_by (start_of c r.answer) p.flight x) a.models ∙
    ap (λ (t : ℕ). flow_by t (blank s.model).flight x) a.reports ∙
    ap (flow_by (start_of d s.answer) (blank s.model).flight) e ∙
    sym (flow-read d s y)

-- Both lists.
through-alike :
    (m n : Model) (x : List ℕ) {cs ds : List Call} →
    is_sound m ≡ true →
    is_sound n ≡ true →
    blank m ≡ blank n →
    OtherProbesIn cs ds →
    flow_through m x cs ≡ flow_through n x ds
unfolding flow_through
through-alike m n x s t e none = refl
through-alike m n x s t e (next c d cs ds o os) =
    let a = reply-alike m n s t e (lent_alike x o) in
    let l = left-alike m n x s t e o in
    rw (flow-alike a l, l)
    (ap (λ (fs : List Flow). flow_of (lent x d) (reply n (lent x d)) (memory_left n x d) ∷ fs)
    (through-alike (reply m (lent x c)).model (reply n (lent x d)).model (memory_left n x d) (keeps-sound m (lent x c) s)
    (keeps-sound n (lent x d) t) a.models os))

-- A model that is not sound refuses every call, and stays; so does the memory.
unsound-refuses : (m : Model) (c : Call) → is_sound m ≡ false → reply m c ≡ refuse Refusal.NotSound m
unfolding reply reply_by verdict first_of table
unsound-refuses m c s = rw s

unsound-left : (m : Model) (x : List ℕ) (c : Call) → is_sound m ≡ false → memory_left m x c ≡ x
unfolding memory_left memory memory_by memory_of verdict first_of table
unsound-left m x (transaction f o y) s = rw s
unsound-left m x tick s = refl
unsound-left m x (flight u d) s = refl
unsound-left m x (temperature w) s = refl
unsound-left m x (stretch n) s = refl

unsound-through :
    (m : Model) (x : List ℕ) {cs ds : List Call} →
    is_sound m ≡ false →
    OtherProbesIn cs ds →
    flow_through m x cs ≡ flow_through m x ds
unfolding flow_through
unsound-through m x s none = refl
unsound-through m x s (next c d cs ds o os) =
    let a : Alike (lent x c) (lent x d) (refuse Refusal.NotSound m) (refuse Refusal.NotSound m) =
    record { models = refl; reports = refused_none (lent x c) Refusal.NotSound ∙ sym (refused_none (lent x d) Refusal.NotSound) } in
    let e : x ≡ x = refl in
    rw (unsound-refuses m (lent x c) s, unsound-refuses m (lent x d) s, unsound-left m x c s, unsound-left m x d s, flow-alike a e)
    (ap (λ (fs : List Flow). flow_of (lent x d) (refuse Refusal.NotSound m) x ∷ fs) (unsound-through m x s os))

pub probes-leave-flow : ProbesClaim
probes-leave-flow m x cs ds o =
    by-test (is_sound m) (λ s. through-alike m m x s s refl o) (λ s. unsound-through m x s o)
