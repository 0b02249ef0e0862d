-- What a call that fits has, and what a run of one more call is.
use Prim.Native.Nat.{ℕ, zero, suc, ◌+◌, ◌-◌, ◌*◌, ◌/◌, ◌≤◌, ◌<◌, min}
use native.Mathlib.Omega.{arith}
use native.Mathlib.Numerals.{add-one}
use mathlib.Core.Bool.{Bool, true, false}
use mathlib.Core.Path.{◌≡◌, refl, sym, ap, ◌∙◌}
use mathlib.Core.List.{List, ◌++◌}
use lib.ListN.{length, get_or, take, drop, take-append-drop, length-append, length-set}
use lib.Seq.{length_front, length-sets}
use lib.Dec.{leb, eqb}
use borrow.Author.Tests.{leb-true, le-leb, lt-leb, eq-eqb, ne_eqb, eqb-true}
use Rattle.unit.specs.Choice.{pick}
use Rattle.unit.proofs.Cases.{by-test, by-ltb}
use Rattle.unit.proofs.Joined.{both_true}
use Rattle.device.specs.declared.Model.{Model}
use Rattle.device.specs.declared.Reply.{Reply}
use Rattle.device.specs.declared.Answer.{Answer}
use Rattle.device.specs.Model.{is_sound}
use Rattle.device.specs.Call.{Call, transaction, tick, flight, temperature, stretch}
use Rattle.device.specs.Reply.{reply, refuse, output, memory, buffer_of, memory_of}
use Rattle.device.specs.Tick.{tick_model}
use Rattle.device.specs.Stretch.{model_ticked}
use Rattle.device.specs.StretchSteps.{quiet_for}
use Rattle.device.proofs.Replies.{reply-tick}
use Rattle.ticking.proofs.Quiet.{next-flight, next-temperature}
use Rattle.reply_parts.proofs.Decode.{reply-unsound}
use Rattle.device.proofs.Sound.{keeps-sound}
use Rattle.layout.specs.Code.{code_of, words_of, filled}
use Rattle.call_list.specs.declared.Entry.{Entry}
use Rattle.call_list.specs.declared.Place.{Place}
use Rattle.call_list.specs.declared.Progress.{Progress}
use Rattle.call_list.specs.CallList.{answers_after, beginning, Run, part, within, entry_at, entry_fits, call_fits, call_of, output_after, flash_after, place_after, step, step_by, fits, runs}
use Rattle.list_run.specs.Room.{AllTicks, Moved, Near, Room, Told, quiet_answer, quiet_answers, quiet_progress}
use Rattle.refusal.specs.declared.Refusal.{Refusal}

-- The parts of a call that fits.
pub frame-fits :
    (e : Entry) (f h o : ℕ) → e.kind ≡ 0 → entry_fits e f h o ≡ true → (e.first ≤ f) × (e.second ≤ o)
unfolding entry_fits
frame-fits e f h o k = rw (eq-eqb _ _ k) (λ t. let (a, b) = both_true _ _ t in (leb-true _ _ a, leb-true _ _ b))

pub flight-fits :
    (e : Entry) (f h o : ℕ) → e.kind ≡ 3 → entry_fits e f h o ≡ true → (e.first ≤ h) × (e.second ≤ h - e.first)
unfolding entry_fits
flight-fits e f h o k = rw k (λ t. let (a, b) = both_true _ _ t in (leb-true _ _ a, leb-true _ _ b))

-- the last of the kinds
pub temperature-fits :
    (e : Entry) (f h o : ℕ) →
    (e.kind ≡ 0 → ⊥) →
    (e.kind ≡ 1 → ⊥) →
    (e.kind ≡ 2 → ⊥) →
    (e.kind ≡ 3 → ⊥) →
    entry_fits e f h o ≡ true →
    e.first ≤ h
unfolding entry_fits
temperature-fits e f h o a b c d =
    rw (ne_eqb _ _ a, ne_eqb _ _ d, ne_eqb _ _ b, ne_eqb _ _ c) (λ t. go (eqb e.kind 4) t)
  where
    go : (k : Bool) → pick k (leb e.first h) false ≡ true → e.first ≤ h
    go true t = leb-true _ _ t
    go false t = absurd (let z : ◌≡◌ {A = ℕ} 0 1 = cc in omega arith)

pub temperature-kind : (e : Entry) (f h o : ℕ) → e.kind ≡ 4 → entry_fits e f h o ≡ true → e.first ≤ h
unfolding entry_fits
temperature-kind e f h o k = rw k (λ t. leb-true _ _ t)

pub fits-parts :
    (e : Entry) (p : Place) (f h o a : ℕ) →
    call_fits e p f h o a ≡ true →
    (5 ≤ a - 5 * p.calls) × (entry_fits e (f - p.frames) (h - p.hits) (o - p.output) ≡ true)
unfolding call_fits
fits-parts e p f h o a t = let (x, y) = both_true _ _ t in (leb-true _ _ x, y)

-- A part that is put back leaves the list.
pub put_back : (a n : ℕ) (l : List ℕ) → l ≡ within a n l (part a n l)
put_back a n l = sym (ap (λ (k : List ℕ). take a l ++ k) (take-append-drop n (drop a l)) ∙ take-append-drop a l)

-- The soundness of a model is that of the one after a call.
pub sound-still : (m : Model) (c : Call) → is_sound m ≡ is_sound (reply m c).model
sound-still m c = go (is_sound m) refl
  where
    go : (s : Bool) → is_sound m ≡ s → is_sound m ≡ is_sound (reply m c).model
    go true s = s ∙ sym (keeps-sound m c s)
    go false s = ap (λ (r : Reply). is_sound r.model) (reply-unsound m c s).0

-- The calls of each kind, and what they leave.
pub frame_is :
    (e : Entry) (p : Place) (m : Model) (frames hits out flash : List ℕ) →
    e.kind ≡ 0 →
    (transaction (part p.frames e.first frames) (part p.output e.second out) flash ≡ call_of e p frames hits out flash) ×
    (within p.output e.second out (output m (transaction (part p.frames e.first frames) (part p.output e.second out) flash))
    ≡ output_after e p m (call_of e p frames hits out flash) out) ×
    (memory m (transaction (part p.frames e.first frames) (part p.output e.second out) flash)
    ≡ flash_after e m (call_of e p frames hits out flash) flash)
unfolding call_of output_after flash_after
frame_is e p m frames hits out flash k = rw (eq-eqb _ _ k) (refl, refl, refl)

pub others-leave :
    (e : Entry) (p : Place) (m : Model) (c : Call) (out flash : List ℕ) →
    (e.kind ≡ 0 → ⊥) →
    (out ≡ output_after e p m c out) × (flash ≡ flash_after e m c flash)
unfolding output_after flash_after
others-leave e p m c out flash n = rw (ne_eqb _ _ n) (refl, refl)

module _ (e : Entry) (p : Place) (frames hits out flash : List ℕ) where
  pub tick_is : e.kind ≡ 1 → tick ≡ call_of e p frames hits out flash
  unfolding call_of
  tick_is k = rw k refl

  pub stretch-is : e.kind ≡ 2 → stretch e.first ≡ call_of e p frames hits out flash
  unfolding call_of
  stretch-is k = rw k refl

  pub flight-is :
      e.kind ≡ 3 →
      flight (part p.hits e.first hits) (part (p.hits + e.first) e.second hits) ≡ call_of e p frames hits out flash
  unfolding call_of
  flight-is k = rw k refl

  pub temperature-is :
      (e.kind ≡ 0 → ⊥) →
      (e.kind ≡ 1 → ⊥) →
      (e.kind ≡ 2 → ⊥) →
      (e.kind ≡ 3 → ⊥) →
      temperature (part p.hits e.first hits) ≡ call_of e p frames hits out flash
  unfolding call_of
  temperature-is a b c d = rw (ne_eqb _ _ a, ne_eqb _ _ b, ne_eqb _ _ c, ne_eqb _ _ d) refl

-- A model that is not sound refuses any of them.
refused-either :
    (m : Model) (a n : ℕ) (out flash f : List ℕ) (c : Call) (t : Bool) →
    is_sound m ≡ false →
    (out ≡ pick t (within a n out (output m (pick t (transaction f (part a n out) flash) c))) out) ×
    (flash ≡ pick t (memory m (pick t (transaction f (part a n out) flash) c)) flash)
unfolding buffer_of memory_of
refused-either m a n out flash f c true s = (
  put_back a n out ∙ ap (within a n out) (reply-unsound m (transaction f (part a n out) flash) s).1,
  (reply-unsound m (transaction f (part a n out) flash) s).2,
)
refused-either m a n out flash f c false s = (refl, refl)

pub unsound-leaves :
    (e : Entry) (p : Place) (m : Model) (frames hits out flash : List ℕ) →
    is_sound m ≡ false →
    (out ≡ output_after e p m (call_of e p frames hits out flash) out) ×
    (flash ≡ flash_after e m (call_of e p frames hits out flash) flash)
unfolding call_of output_after flash_after
unsound-leaves e p m frames hits out flash s =
    refused-either m p.output e.second out flash (part p.frames e.first frames) _ (eqb e.kind 0) s

-- Places after a call.
one_more : (a b c : Bool) (v w x y : Place) (n : ℕ) →
    v.calls ≡ n → w.calls ≡ n → x.calls ≡ n → y.calls ≡ n → (pick a v (pick b w (pick c x y))).calls ≡ n
one_more true b c v w x y n h i j k = h
one_more false true c v w x y n h i j k = i
one_more false false true v w x y n h i j k = j
one_more false false false v w x y n h i j k = k

pub after-calls : (e : Entry) (p : Place) → (place_after e p).calls ≡ p.calls + 1
unfolding place_after
after-calls e p = one_more (eqb e.kind 0) (eqb e.kind 3) (eqb e.kind 4) _ _ _ _ (p.calls + 1) refl refl refl refl

pub record Inside (p : Place) (frames hits out answers : ℕ) : Type 0 where
  pub in_frames : p.frames ≤ frames
  pub in_hits : p.hits ≤ hits
  pub in_output : p.output ≤ out
  pub in_answers : 5 * p.calls ≤ answers

pub after-inside :
    (e : Entry) (p : Place) (f h o a : ℕ) →
    Inside p f h o a →
    call_fits e p f h o a ≡ true →
    Inside (place_after e p) f h o a
unfolding place_after
after-inside e p f h o a i t = go (eqb e.kind 0) refl (eqb e.kind 3) refl (eqb e.kind 4) refl
  where
    room : (5 ≤ a - 5 * p.calls) × (entry_fits e (f - p.frames) (h - p.hits) (o - p.output) ≡ true)
    room = fits-parts e p f h o a t

    go :
        (x : Bool) →
        eqb e.kind 0 ≡ x →
        (y : Bool) →
        eqb e.kind 3 ≡ y →
        (z : Bool) →
        eqb e.kind 4 ≡ z →
        Inside
        (pick x
        record { calls = p.calls + 1; frames = p.frames + e.first; hits = p.hits; output = p.output + e.second }
        (pick y
        record { calls = p.calls + 1; frames = p.frames; hits = p.hits + e.first + e.second; output = p.output }
        (pick z
        record { calls = p.calls + 1; frames = p.frames; hits = p.hits + e.first; output = p.output }
        record { calls = p.calls + 1; frames = p.frames; hits = p.hits; output = p.output })))
        f
        h
        o
        a
    go true k y l z n =
        let (u, v) = frame-fits e _ _ _ (eqb-true _ _ k) room.1 in
        let five = room.0 in
        record { in_frames = omega (arith, i.in_frames); in_hits = i.in_hits; in_output = omega (arith, i.in_output); in_answers = omega (arith, i.in_answers) }
    go false k true l z n =
        let (u, v) = flight-fits e _ _ _ (eqb-true _ _ l) room.1 in
        let five = room.0 in
        record { in_frames = i.in_frames; in_hits = omega (arith, i.in_hits); in_output = i.in_output; in_answers = omega (arith, i.in_answers) }
    go false k false l true n =
        let u = temperature-kind e _ _ _ (eqb-true _ _ n) room.1 in
        let five = room.0 in
        record { in_frames = i.in_frames; in_hits = omega (arith, i.in_hits); in_output = i.in_output; in_answers = omega (arith, i.in_answers) }
    go false k false l false n =
        let five = room.0 in
        record { in_frames = i.in_frames; in_hits = i.in_hits; in_output = i.in_output; in_answers = omega (arith, i.in_answers) }

-- One call is a step.
pub step_is :
    (e : Entry) (c : Call) (s : Run) (r : Reply) (place : Place) (out flash answers : List ℕ) →
    r ≡ reply s.progress.model c →
    place ≡ place_after e s.progress.place →
    out ≡ output_after e s.progress.place s.progress.model c s.output →
    flash ≡ flash_after e s.progress.model c s.flash →
    answers ≡ answers_after r.answer (5 * s.progress.place.calls) s.answers →
    ◌≡◌ {A = Run} record { progress = record { model = r.model; place = place }; output = out; flash = flash; answers = answers } (step_by e c s)
unfolding step_by
step_is e c s r place out flash answers a b d f g = rw (g, f, d, b, a) refl

abbrev frame_of : Entry → Run → List ℕ → Call
frame_of e s frames =
    transaction (part s.progress.place.frames e.first frames) (part s.progress.place.output e.second s.output) s.flash

-- A call of each kind is a step. One other than a transaction leaves the output and the user flash.
pub frame_step :
    (frames hits : List ℕ) (e : Entry) (s : Run) (r : Progress) (out flash answers : List ℕ) →
    e.kind ≡ 0 →
    Told e (frame_of e s frames) s.progress r s.answers answers →
    out ≡ within s.progress.place.output e.second s.output (output s.progress.model (frame_of e s frames)) →
    flash ≡ memory s.progress.model (frame_of e s frames) →
    ◌≡◌ {A = Run} record { progress = r; output = out; flash = flash; answers = answers } (step frames hits e s)
unfolding step
frame_step frames hits e s r out flash answers k t o f =
    let (c, o', f') = frame_is e s.progress.place s.progress.model frames hits s.output s.flash k in
    rw t.left
    (step_is e (call_of e s.progress.place frames hits s.output s.flash) s (reply s.progress.model (frame_of e s frames)) _ _ _ _
    (ap (reply s.progress.model) c) refl (o ∙ o') (f ∙ f') t.answers)

pub other_step :
    (frames hits : List ℕ) (e : Entry) (c : Call) (s : Run) (r : Progress) (answers : List ℕ) →
    (e.kind ≡ 0 → ⊥) →
    c ≡ call_of e s.progress.place frames hits s.output s.flash →
    Told e c s.progress r s.answers answers →
    ◌≡◌ {A = Run} record { progress = r; output = s.output; flash = s.flash; answers = answers } (step frames hits e s)
unfolding step
other_step frames hits e c s r answers k h t =
    let (o, f) = others-leave e s.progress.place s.progress.model c s.output s.flash k in
    rw t.left (step_is e c s (reply s.progress.model c) _ _ _ _ refl refl o f t.answers)
    ∙ ap (λ (x : Call). step_by e x s) h

pub unsound-step :
    (frames hits : List ℕ) (e : Entry) (s : Run) (r : Progress) (answers : List ℕ) →
    is_sound s.progress.model ≡ false →
    r ≡ record { model = s.progress.model; place = place_after e s.progress.place } →
    answers ≡ answers_after (Answer.Refused Refusal.NotSound) (5 * s.progress.place.calls) s.answers →
    ◌≡◌ {A = Run} record { progress = r; output = s.output; flash = s.flash; answers = answers } (step frames hits e s)
unfolding step
unsound-step frames hits e s r answers h a b =
    let c : Call = call_of e s.progress.place frames hits s.output s.flash in
    let (o, f) = unsound-leaves e s.progress.place s.progress.model frames hits s.output s.flash h in
    rw a (step_is e c s (refuse Refusal.NotSound s.progress.model) _ _ _ _ (reply-unsound s.progress.model c h).0 refl o f b)

-- A run of one more call, and where it ends.
pub run-one :
    (calls frames hits : List ℕ) (s : Run) →
    fits frames hits (entry_at calls s.progress.place.calls) s ≡ true →
    runs 1 calls frames hits s ≡ step frames hits (entry_at calls s.progress.place.calls) s
unfolding runs
run-one calls frames hits s t = rw t refl

run_none :
    (n : ℕ) (calls frames hits : List ℕ) (s : Run) →
    fits frames hits (entry_at calls s.progress.place.calls) s ≡ false →
    runs n calls frames hits s ≡ s
unfolding runs
run_none zero calls frames hits s t = refl
run_none (suc n) calls frames hits s t = rw t refl

-- a calls, and then b.
pub run-both :
    (a b : ℕ) (calls frames hits : List ℕ) (s : Run) →
    runs (a + b) calls frames hits s ≡ runs b calls frames hits (runs a calls frames hits s)
unfolding runs
run-both zero b calls frames hits s =
    let e : 0 + b ≡ b = omega arith in ap (λ (k : ℕ). runs k calls frames hits s) e
run-both (suc a) b calls frames hits s =
    let e : suc a + b ≡ suc (a + b) = omega arith in
    ap (λ (k : ℕ). runs k calls frames hits s) e
    ∙ by-test (fits frames hits (entry_at calls s.progress.place.calls) s)
    (λ t. rw t (run-both a b calls frames hits (step frames hits (entry_at calls s.progress.place.calls) s)))
    (λ t. rw t (sym (run_none b calls frames hits s t)))

pub run-stops :
    (n : ℕ) (calls frames hits : List ℕ) (s : Run) →
    s.progress.place.calls < n →
    fits frames hits (entry_at calls s.progress.place.calls) s ≡ false →
    runs (n - s.progress.place.calls) calls frames hits s ≡ s
unfolding runs
run-stops n calls frames hits s h t =
    let e : n - s.progress.place.calls ≡ suc (n - (s.progress.place.calls + 1)) = omega arith in
    ap (λ (k : ℕ). runs k calls frames hits s) e ∙ rw t refl

pub run-done :
    (n : ℕ) (calls frames hits : List ℕ) (s : Run) →
    n ≤ s.progress.place.calls →
    runs (n - s.progress.place.calls) calls frames hits s ≡ s
unfolding runs
run-done n calls frames hits s h =
    let e : n - s.progress.place.calls ≡ 0 = omega arith in ap (λ (k : ℕ). runs k calls frames hits s) e

-- What a step does to the places and the model.
pub step-place : (frames hits : List ℕ) (e : Entry) (s : Run) → (step frames hits e s).progress.place ≡ place_after e s.progress.place
unfolding step step_by
step-place frames hits e s = refl

pub step-calls : (frames hits : List ℕ) (e : Entry) (s : Run) → (step frames hits e s).progress.place.calls ≡ s.progress.place.calls + 1
unfolding step step_by
step-calls frames hits e s = after-calls e s.progress.place

pub step-sound : (frames hits : List ℕ) (e : Entry) (s : Run) → is_sound s.progress.model ≡ is_sound (step frames hits e s).progress.model
unfolding step step_by
step-sound frames hits e s = sound-still s.progress.model (call_of e s.progress.place frames hits s.output s.flash)

-- One call is done.
pub moved-step :
    (calls frames hits : List ℕ) (s u : Run) (e : Entry) →
    s.progress.place.calls < length calls / 3 →
    e ≡ entry_at calls s.progress.place.calls →
    Room e s.progress.place (length frames) (length hits) (length s.output) (length s.answers) →
    u ≡ step frames hits e s →
    Moved calls frames hits s u
unfolding fits
moved-step calls frames hits s u e h k room v =
    let c : u.progress.place.calls ≡ s.progress.place.calls + 1 = rw v (step-calls frames hits e s) in
    let d : 1 ≡ u.progress.place.calls - s.progress.place.calls = omega arith in
    let p : u.progress.place ≡ place_after e s.progress.place = rw v (step-place frames hits e s) in
    let i =
    after-inside e s.progress.place _ _ _ _
    record { in_frames = room.in_frames; in_hits = room.in_hits; in_output = room.in_output; in_answers = room.in_answers }
    room.enough in
    record {
      farther = omega arith;
      within = omega arith;
      same =
          v
          ∙ ap (λ (x : Entry). step frames hits x s) k
          ∙ sym (run-one calls frames hits s (rw (← k) room.enough))
          ∙ ap (λ (n : ℕ). runs n calls frames hits s) d;
      judged = rw v (step-sound frames hits e s);
      in_frames = rw p i.in_frames;
      in_hits = rw p i.in_hits;
      in_output = rw p i.in_output;
      in_answers = rw p i.in_answers;
    }

-- AllTicks in which nothing happens: as many answers as before, one more of them is a step, and n of them are a run of n.
told-length : (a : Answer) (at : ℕ) (l : List ℕ) → length (answers_after a at l) ≡ length l
unfolding answers_after
told-length a at l =
    length-set (within (at + 1) 4 l (filled (part (at + 1) 4 l) (words_of a))) at (code_of a)
    ∙ length-append (take (at + 1) l) (filled (part (at + 1) 4 l) (words_of a) ++ drop 4 (drop (at + 1) l))
    ∙ ap (λ (k : ℕ). length (take (at + 1) l) + k)
    (length_front (drop (at + 1) l) (filled (part (at + 1) 4 l) (words_of a)) 4 (length-sets (part (at + 1) 4 l) 0 (words_of a)))
    ∙ sym (length-append (take (at + 1) l) (drop (at + 1) l))
    ∙ ap length (take-append-drop (at + 1) l)

quiet-length : (n k : ℕ) (l : List ℕ) → length (quiet_answers n k l) ≡ length l
unfolding quiet_answers
quiet-length zero k l = refl
quiet-length (suc n) k l = told-length quiet_answer (5 * (k + n)) (quiet_answers n k l) ∙ quiet-length n k l

tick-fits : (e : Entry) (p : Place) (f h o a : ℕ) → e.kind ≡ 1 → 5 * p.calls + 5 ≤ a → call_fits e p f h o a ≡ true
unfolding call_fits entry_fits
tick-fits e p f h o a k l = let m : 5 ≤ a - 5 * p.calls = omega arith in rw (le-leb _ _ m, k) refl

tick-place :
    (e : Entry) (p : Place) →
    e.kind ≡ 1 →
    place_after e p ≡ record { calls = p.calls + 1; frames = p.frames; hits = p.hits; output = p.output }
unfolding place_after
tick-place e p k = rw k refl

tick-entry : (calls : List ℕ) (k : ℕ) → get_or calls (3 * k) 0 ≡ 1 → (entry_at calls k).kind ≡ 1
unfolding entry_at
tick-entry calls k h = h

module _ (calls frames hits : List ℕ) (s : Run) (sound : is_sound s.progress.model ≡ true) where
  abbrev quiet_run : ℕ → Run
  quiet_run n =
      record {
        progress = quiet_progress n s.progress;
        output = s.output;
        flash = s.flash;
        answers = quiet_answers n s.progress.place.calls s.answers;
      }

  sound-later : (n : ℕ) → is_sound (model_ticked n s.progress.model) ≡ true
  unfolding model_ticked
  sound-later zero = sound
  sound-later (suc n) =
      let m : Model = model_ticked n s.progress.model in
      ap (λ (r : Reply). is_sound r.model) (sym (reply-tick m (sound-later n))) ∙ keeps-sound m tick (sound-later n)

  quiet-reply :
      (n : ℕ) →
      n < quiet_for s.progress.model →
      reply (model_ticked n s.progress.model) tick
      ≡ record { answer = quiet_answer; model = tick_model (model_ticked n s.progress.model) }
  unfolding quiet_answer
  quiet-reply n l =
      simp (
        reply-tick (model_ticked n s.progress.model) (sound-later n),
        next-flight s.progress.model n l,
        next-temperature s.progress.model n l,
      )

  quiet_step :
      (n : ℕ) →
      n < quiet_for s.progress.model →
      get_or calls (3 * (s.progress.place.calls + n)) 0 ≡ 1 →
      quiet_run (suc n) ≡ step frames hits (entry_at calls (s.progress.place.calls + n)) (quiet_run n)
  unfolding quiet_progress quiet_answers model_ticked
  quiet_step n l t =
      let k : ℕ = s.progress.place.calls + n in
      let e : Entry = entry_at calls k in
      let one = tick-entry calls k t in
      let more : s.progress.place.calls + suc n ≡ s.progress.place.calls + n + 1 = omega arith in
      let r = quiet-reply n l in
      other_step frames hits e tick (quiet_run n) (quiet_progress (suc n) s.progress) _ (λ z. omega arith)
      (tick_is e (quiet_run n).progress.place frames hits s.output s.flash one)
      record {
        left = rw (r, tick-place e (quiet_run n).progress.place one, more) refl;
        answers = rw r refl;
      }

  quiet-runs :
      (n : ℕ) →
      n ≤ quiet_for s.progress.model →
      5 * (s.progress.place.calls + n) ≤ length s.answers →
      AllTicks calls s.progress.place.calls n →
      quiet_run n ≡ runs n calls frames hits s
  unfolding quiet_progress quiet_answers model_ticked runs fits
  quiet-runs zero l room t =
      let e : s.progress.place.calls + 0 ≡ s.progress.place.calls = omega arith in rw e refl
  quiet-runs (suc n) l room t =
      let k : ℕ = s.progress.place.calls + n in
      let h : get_or calls (3 * k) 0 ≡ 1 = t.each n (omega arith) in
      let q = quiet-length n s.progress.place.calls s.answers in
      let f = tick-fits (entry_at calls k) (quiet_run n).progress.place (length frames) (length hits) (length s.output) (length (quiet_run n).answers) (tick-entry calls k h) (omega (arith, q)) in
      let ind = quiet-runs n (omega arith) (omega arith) record { each = λ i b. t.each i (omega arith) } in
      let e : n + 1 ≡ suc n = omega arith in
      quiet_step n (omega arith) h
      ∙ sym (run-one calls frames hits (quiet_run n) f)
      ∙ ap (runs 1 calls frames hits) ind
      ∙ sym (run-both n 1 calls frames hits s)
      ∙ ap (λ (x : ℕ). runs x calls frames hits s) e

  pub moved-quietly :
      (n : ℕ) (r : Progress) (answers : List ℕ) →
      1 ≤ n →
      n ≤ quiet_for s.progress.model →
      s.progress.place.calls + n ≤ length calls / 3 →
      5 * (s.progress.place.calls + n) ≤ length s.answers →
      AllTicks calls s.progress.place.calls n →
      s.progress.place.frames ≤ length frames →
      s.progress.place.hits ≤ length hits →
      s.progress.place.output ≤ length s.output →
      r ≡ quiet_progress n s.progress →
      answers ≡ quiet_answers n s.progress.place.calls s.answers →
      Moved calls frames hits s record { progress = r; output = s.output; flash = s.flash; answers = answers }
  unfolding quiet_progress
  moved-quietly n r answers some few most room t inf inh ino a b =
      rw (a, b)
      (let d : n ≡ s.progress.place.calls + n - s.progress.place.calls = omega arith in
      record {
        farther = omega arith;
        within = most;
        same = quiet-runs n few room t ∙ ap (λ (x : ℕ). runs x calls frames hits s) d;
        judged = sound ∙ sym (sound-later n);
        in_frames = inf;
        in_hits = inh;
        in_output = ino;
        in_answers = room;
      })

-- A run that has come from s to t: what is left to do gives what the whole gives.
pub record Going (n : ℕ) (sound : Bool) (calls frames hits : List ℕ) (s t : Run) : Type 0 where
  pub same : runs n calls frames hits s ≡ runs (n - t.progress.place.calls) calls frames hits t
  pub most : t.progress.place.calls ≤ n
  pub judged : sound ≡ is_sound t.progress.model
  pub inside : Inside t.progress.place (length frames) (length hits) (length t.output) (length t.answers)
  pub outputs : length t.output ≡ length s.output
  pub flashes : length t.flash ≡ length s.flash
  pub answers : length t.answers ≡ length s.answers

pub going-starts :
    (n : ℕ) (sound : Bool) (m : Model) (calls frames hits out flash answers : List ℕ) (p : Progress) →
    sound ≡ is_sound m →
    p ≡ beginning m →
    Going n sound calls frames hits record { progress = p; output = out; flash = flash; answers = answers }
    record { progress = p; output = out; flash = flash; answers = answers }
unfolding beginning
going-starts n sound m calls frames hits out flash answers p h b =
    rw b
    (let e : n ≡ n - 0 = omega arith in
    record {
      same = ap (λ (k : ℕ). runs k calls frames hits record { progress = record { model = m; place = record { calls = 0; frames = 0; hits = 0; output = 0 } }; output = out; flash = flash; answers = answers }) e;
      most = omega arith;
      judged = h;
      inside = record { in_frames = omega arith; in_hits = omega arith; in_output = omega arith; in_answers = omega arith };
      outputs = refl;
      flashes = refl;
      answers = refl;
    })

module _ (n : ℕ) (sound : Bool) (calls frames hits : List ℕ) (s t : Run) (e : Entry) (g : Going n sound calls frames hits s t) where
  pub going_on :
      (u : Run) →
      n ≡ length calls / 3 →
      Moved calls frames hits t u →
      length u.output ≡ length t.output →
      length u.flash ≡ length t.flash →
      length u.answers ≡ length t.answers →
      Going n sound calls frames hits s u × (n - u.progress.place.calls < n - t.progress.place.calls)
  going_on u h m lo lf la =
      let far = m.farther in
      let most = m.within in
      let d : n - t.progress.place.calls ≡ (u.progress.place.calls - t.progress.place.calls) + (n - u.progress.place.calls) = omega arith in (
        record {
          same =
              g.same
              ∙ ap (λ (k : ℕ). runs k calls frames hits t) d
              ∙ run-both (u.progress.place.calls - t.progress.place.calls) (n - u.progress.place.calls) calls frames hits t
              ∙ ap (λ (r : Run). runs (n - u.progress.place.calls) calls frames hits r) (sym m.same);
          most = omega arith;
          judged = g.judged ∙ m.judged;
          inside =
              record {
                in_frames = m.in_frames;
                in_hits = m.in_hits;
                in_output = rw lo m.in_output;
                in_answers = rw la m.in_answers;
              };
          outputs = lo ∙ g.outputs;
          flashes = lf ∙ g.flashes;
          answers = la ∙ g.answers;
        },
        omega arith,
      )

  pub going-stops :
      t.progress.place.calls < n →
      e ≡ entry_at calls t.progress.place.calls →
      call_fits e t.progress.place (length frames) (length hits) (length t.output) (length t.answers) ≡ false →
      t ≡ runs n calls frames hits s
  unfolding fits
  going-stops h k f = sym (g.same ∙ run-stops n calls frames hits t h (rw (← k) f))

  pub going-ends : n ≤ t.progress.place.calls → t ≡ runs n calls frames hits s
  going-ends h = sym (g.same ∙ run-done n calls frames hits t h)

-- What the parts of the code leave.
pub told_of :
    (e : Entry) (c : Call) (p r : Progress) (s : Reply) (before after : List ℕ) →
    s ≡ reply p.model c →
    r ≡ record { model = s.model; place = place_after e p.place } →
    after ≡ answers_after s.answer (5 * p.place.calls) before →
    Told e c p r before after
told_of e c p r s before after h a b =
    record {
      left = a ∙ ap (λ (x : Reply). record { model = x.model; place = place_after e p.place }) h;
      answers = b ∙ ap (λ (x : Reply). answers_after x.answer (5 * p.place.calls) before) h;
    }

pub quiet_told :
    (n k : ℕ) (a : Answer) (l₀ l l' : List ℕ) →
    a ≡ quiet_answer →
    l ≡ quiet_answers n k l₀ →
    l' ≡ answers_after a (5 * (k + n)) l →
    l' ≡ quiet_answers (n + 1) k l₀
unfolding quiet_answers
quiet_told n k a l₀ l l' x y z = rw (add-one n) (z ∙ rw (x, y) refl)

pub first-tick : (calls : List ℕ) (k : ℕ) → get_or calls (3 * k) 0 ≡ 1 → AllTicks calls k 1
first-tick calls k h =
    record {
      each = λ i l. let e : 3 * (k + i) ≡ 3 * k = omega arith in ap (λ (x : ℕ). get_or calls x 0) e ∙ h;
    }

pub next-tick : (calls : List ℕ) (k n : ℕ) → AllTicks calls k n → get_or calls (3 * (k + n)) 0 ≡ 1 → AllTicks calls k (n + 1)
next-tick calls k n t h =
    record {
      each =
          λ i l.
          by-ltb i n (λ a _. t.each i a)
          (λ a _. let e : 3 * (k + i) ≡ 3 * (k + n) = omega arith in ap (λ (x : ℕ). get_or calls x 0) e ∙ h);
    }

pub entry-tick : (calls : List ℕ) (k : ℕ) (e : Entry) → e ≡ entry_at calls k → e.kind ≡ 1 → get_or calls (3 * k) 0 ≡ 1
unfolding entry_at
entry-tick calls k e h t = sym (ap (λ (x : Entry). x.kind) h) ∙ t

-- Buffers are short enough to count in.
pub near_of :
    (e : Entry) (p : Place) (f h o a : ℕ) →
    Room e p f h o a →
    f < 9223372036854775808 →
    h < 9223372036854775808 →
    o < 9223372036854775808 →
    Near p a
near_of e p f h o a room x y z =
    let five = (fits-parts e p f h o a room.enough).0 in
    record {
      frames = omega (arith, room.in_frames);
      hits = omega (arith, room.in_hits);
      output = omega (arith, room.in_output);
      told = omega (arith, room.in_answers);
    }

-- A call that fits, by what its frame, its words and its output need, where there is room for its answer; and where there is none.
pub fits-of :
    (e : Entry) (p : Place) (f h o a : ℕ) →
    p.calls < a / 5 →
    entry_fits e (f - p.frames) (h - p.hits) (o - p.output) ≡ true →
    call_fits e p f h o a ≡ true
unfolding call_fits
fits-of e p f h o a l t = let m : 5 ≤ a - 5 * p.calls = omega arith in rw (le-leb _ _ m, t) refl

pub fits_not :
    (e : Entry) (p : Place) (f h o a : ℕ) →
    p.calls < a / 5 →
    entry_fits e (f - p.frames) (h - p.hits) (o - p.output) ≡ false →
    call_fits e p f h o a ≡ false
unfolding call_fits
fits_not e p f h o a l t = let m : 5 ≤ a - 5 * p.calls = omega arith in rw (le-leb _ _ m, t) refl

no_room : (e : Entry) (p : Place) (f h o a : ℕ) → a / 5 ≤ p.calls → call_fits e p f h o a ≡ false
unfolding call_fits
no_room e p f h o a l = let m : a - 5 * p.calls < 5 = omega arith in rw (lt-leb _ _ m) refl

-- a list is done where all its calls are, or where there is no room for a further answer
pub going-over :
    (n : ℕ) (sound : Bool) (calls frames hits : List ℕ) (s t : Run) →
    Going n sound calls frames hits s t →
    min n (length t.answers / 5) ≤ t.progress.place.calls →
    t ≡ runs n calls frames hits s
going-over n sound calls frames hits s t g h =
    let e : Entry = entry_at calls t.progress.place.calls in
    by-ltb t.progress.place.calls n
    (λ l _. going-stops n sound calls frames hits s t e g l refl
    (no_room e t.progress.place _ _ _ _ (omega arith)))
    (λ l _. going-ends n sound calls frames hits s t e g l)
