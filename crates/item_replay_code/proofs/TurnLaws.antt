-- Turns of a replay, by what code ensures of a line. Assumes nothing.
use Prim.Native.Nat.{ℕ, ◌+◌, ◌-◌, ◌*◌, ◌≤◌, ◌<◌}
use native.Mathlib.Nat.{add_assoc}
use native.Mathlib.Omega.{arith}
use mathlib.Core.Bool.{Bool, true≢false}
use mathlib.Core.List.{List, [], ◌∷◌, ◌++◌, append-nil, append_assoc}
use mathlib.Core.Path.{◌≡◌, refl, sym, ap, subst, ◌∙◌}
use lib.Dec.{eqb}
use lib.IntN.{ℤ}
use lib.ListN.{length, take, drop, length-append}
use borrow.Author.Tests.{ne_eqb}
use Rattle.unit.proofs.Cases.{by-test, by_eqb}
use Rattle.text.specs.Text.{Text, ended, text_where}
use Rattle.text.specs.OwnPut.{Puts}
use Rattle.text.proofs.Lengths.{where-most}
use Rattle.item_line.specs.Line.{Expected}
use Rattle.item_line.specs.Reading.{line_of}
use Rattle.item_line.specs.OwnBounds.{ExpectedBound}
use Rattle.item_answer.specs.declared.Carried.{Carried}
use Rattle.item_answer.specs.declared.Counts.{Counts}
use Rattle.item_answer.specs.Answer.{Item, with_model, ticked}
use Rattle.item_answer.specs.Step.{Step, expected_text}
use Rattle.item_answer.specs.OwnView.{item_of, tally_of}
use Rattle.item_answer.specs.OwnKept.{Kept}
use Rattle.item_answer.proofs.Room.{expected-most}
use Rattle.item_ticks_code.proofs.Ticks.{ticked-then}
use Rattle.item_replay.specs.Going.{ticks, Going, expected_of, rest_step, texts, Went}
use Rattle.item_replay.specs.OwnTurn.{done_with, within, Parts}
use Rattle.item_replay.proofs.Turns.{went-more, went-over}
use Rattle.item_replay_code.specs.declared.State.{State}
use Rattle.item_replay_code.specs.declared.Turn.{Turn}
use Rattle.item_replay_code.specs.declared.RestRan.{RestRan}
use Rattle.item_replay_code.specs.OwnRest.{line_ending, ending_of, RestRuns}
use Rattle.item_replay_code.specs.OwnState.{rest_of, going_of, Fits, Few, Small}
use Rattle.item_replay_code.specs.OwnTurn.{LineDone, LineLeft, Turns, ticks_tally, AfterRest, Bounded, Under, TurnsOn}

-- ---- ticks in two parts

-- Some of the ticks of a line, and those that are left.
pub rest-split : (a b first : ℕ) (differs : Bool) (x : Expected) (i : Item)
    → Parts (rest_step (a + b) first differs x i) (ticked a first i.model).reports
    (rest_step b (first + a) differs x (with_model i (ticked a first i.model).model (i.moment + a)))
unfolding rest_step
rest-split a b first differs x i =
    let e = ticked-then a b first i.model in
    record {
      text =
          rw e
          (append_assoc (ticked a first i.model).reports (ticked b (first + a) (ticked a first i.model).model).reports
          (ended (text_where differs (expected_text x))));
      item = rw (e, add_assoc i.moment a b);
      adds = refl;
    }

-- The item after the ticks that were run.
pub ran-item : (c d : Carried) (ran first : ℕ) (fs : List ℕ) (ds : List ℤ) (es : List ℕ)
    → d.model ≡ (ticked ran first c.model).model → d.moment ≡ c.moment + ran → d.recorded ≡ c.recorded → d.probes ≡ c.probes
    → item_of d fs ds es ≡ with_model (item_of c fs ds es) (ticked ran first (item_of c fs ds es).model).model ((item_of c fs ds es).moment + ran)
unfolding item_of
ran-item c d ran first fs ds es m t r p = rw (m, t, r, p)

-- ---- states

pub state-done : (s : State) (r : Turn) (st : Step) (to end : ℕ) (c : Carried) (adds : Counts) (ls ls' fs fs' : List ℕ) (ds ds' : List ℤ) (es es' : List ℕ)
    → LineDone s to c adds end r → item_of c fs' ds' es' ≡ st.item → tally_of adds ≡ st.adds
    → going_of r.state ls' fs' ds' es' ≡ done_with (going_of s ls fs ds es) st
unfolding going_of rest_of
state-done s r st to end c adds ls ls' fs fs' ds ds' es es' d i t =
    rw (d.number, d.carried, d.counts, d.begun, d.left, i, t)

state-left : (s : State) (r : Turn) (to end left next : ℕ) (differs : Bool) (c : Carried) (ls fs fs' : List ℕ) (ds ds' : List ℤ) (es es' : List ℕ)
    → LineLeft s to c left next differs end r → 0 < left
    → going_of r.state ls fs' ds' es' ≡ within (going_of s ls fs ds es) (take s.begun ls) (item_of c fs' ds' es') left next differs
unfolding going_of rest_of
state-left s r to end left next differs c ls fs fs' ds ds' es es' d h =
    rw (d.number, d.carried, d.counts, d.begun, d.left, d.next, d.differs, ne_eqb left 0 (λ e. omega arith))

-- ---- a line of ticks that was under way

-- the replay of a state in which ticks are left
under_rest : (s : State) (ls fs : List ℕ) (ds : List ℤ) (es : List ℕ) → 0 < s.left.0
    → (going_of s ls fs ds es).rest ≡ ticks s.left.0 s.next s.differs
unfolding going_of rest_of
under_rest s ls fs ds es h = rw (ne_eqb s.left.0 0 (λ e. omega arith))

-- the end of a line has room
ending-most : (differs : Bool) (x : Expected) → ExpectedBound x → length (line_ending differs x) ≤ 1011
unfolding line_ending ended
ending-most differs x b = simp length-append (omega (arith, where-most differs (expected_text x), expected-most x b))

-- what is done where no tick is left
over-went : (piece : Text) (s : State) (ls fs : List ℕ) (ds : List ℤ) (es : List ℕ) (x : Expected) → 0 < s.left.0
    → x ≡ expected_of (line_of (take s.begun ls))
    → let st = rest_step s.left.0 s.next s.differs x (item_of s.carried fs ds es) in
    Went (going_of s ls fs ds es) piece 0 (st ∷ []) [] (done_with (going_of s ls fs ds es) st)
unfolding going_of
over-went piece s ls fs ds es x h e =
    rw e (went-over (going_of s ls fs ds es) piece s.left.0 s.next s.differs (under_rest s ls fs ds es h))

pub over-text : (left ran next after : ℕ) (differs : Bool) (x : Expected) (c : Carried) (fs : List ℕ) (ds : List ℤ) (es : List ℕ) → ran ≡ left → after ≡ 0
    → texts (rest_step left next differs x (item_of c fs ds es) ∷ []) ++ [] ≡ (ticked ran next c.model).reports ++ ending_of after differs x
unfolding texts rest_step ending_of line_ending item_of
over-text left ran next after differs x c fs ds es n e = rw (n, e) (append-nil _ ∙ append-nil _)

pub over-item : (left next : ℕ) (differs : Bool) (x : Expected) (i : Item)
    → (rest_step left next differs x i).item ≡ with_model i (ticked left next i.model).model (i.moment + left)
unfolding rest_step
over-item left next differs x i = refl

pub over-adds : (left next : ℕ) (differs : Bool) (x : Expected) (i : Item) → (rest_step left next differs x i).adds ≡ ticks_tally differs x
unfolding rest_step ticks_tally
over-adds left next differs x i = refl

-- what is done where some are
more-went : (piece : Text) (s : State) (ls fs : List ℕ) (ds : List ℤ) (es : List ℕ) (x : Expected) (ran left next : ℕ) (i : Item) → 0 < s.left.0
    → x ≡ expected_of (line_of (take s.begun ls))
    → ran + left ≡ s.left.0 → next ≡ s.next + ran
    → let j = item_of s.carried fs ds es in
    i ≡ with_model j (ticked ran s.next j.model).model (j.moment + ran)
    → Went (going_of s ls fs ds es) piece 0 [] (ticked ran s.next s.carried.model).reports
    (within (going_of s ls fs ds es) (take s.begun ls) i left next s.differs)
unfolding going_of item_of
more-went piece s ls fs ds es x ran left next i h e n m k =
    went-more (going_of s ls fs ds es) piece s.left.0 s.next s.differs (under_rest s ls fs ds es h)
    (ticked ran s.next s.carried.model).reports i left next
    (rw (sym n, m, k) (rest-split ran left s.next s.differs (expected_of (line_of (take s.begun ls))) (item_of s.carried fs ds es)))

pub more-text : (part : Text) (left : ℕ) (differs : Bool) (x : Expected) → 0 < left → part ++ ending_of left differs x ≡ part
unfolding ending_of
more-text part left differs x h = rw (ne_eqb left 0 (λ e. omega arith)) (append-nil part)

-- ---- the turn

-- the end of a line has room where one may follow
pub ending-least : (after : ℕ) (differs : Bool) (x : Expected) → ExpectedBound x → length (ending_of after differs x) ≤ 1011
unfolding ending_of
ending-least after differs x b = by-test (eqb after 0) (λ f. rw f (ending-most differs x b)) (λ f. rw f (omega arith))

pub fits_both : (at : ℕ) (a b : Text) (l : List ℕ) → at + length a + 1100 ≤ length l → length b ≤ 1011 → at + length (a ++ b) ≤ length l
fits_both at a b l h k = let e = length-append a b in omega arith

pub went-as : {g h k : Going} {piece : Text} {n m : ℕ} {done : List Step} {part : Text} → n ≡ m → h ≡ k → Went g piece n done part h → Went g piece m done part k
went-as {g} {h} {k} {piece} {n} {m} {done} {part} e f w =
    subst (λ j. Went g piece j done part k) e (subst (λ j. Went g piece n done part j) f w)

pub few-most : {c : Counts} {n m : ℕ} → Few c n → n ≤ m → Few c m
few-most f h = record {
  calls = omega (arith, f.calls, h);
  refused = omega (arith, f.refused, h);
  unannounced = omega (arith, f.unannounced, h);
  bad = omega (arith, f.bad, h);
  expectations = omega (arith, f.expectations, h);
  differ = omega (arith, f.differ, h);
}

-- the numbers have room
pub bounded-few : {s : State} → Bounded s → Few s.counts 9223372036854775807 × (s.number < 9223372036854775807)
bounded-few b =
    let k = b.small in
    (few-most k.counts (omega (arith, b.most)), omega (arith, b.most, k.number))

-- what is kept after ticks
pub ran-kept : {c : Carried} {left first : ℕ} {differs : Bool} {x : Expected} {l l' : List ℕ} {at : ℕ} {r : RestRan} (fs : List ℕ) (ds : List ℤ) (es : List ℕ)
    → RestRuns c left first differs x l at r l' → Kept (item_of c fs ds es) → Kept (item_of r.carried fs ds es)
unfolding item_of
ran-kept fs ds es run k = record {
  sound = run.sound;
  recorded = rw run.recorded k.recorded;
  quanta = rw run.recorded k.quanta;
  probes = rw run.probes k.probes;
}

pub ran-fits : {c : Carried} {left first : ℕ} {differs : Bool} {x : Expected} {l l' : List ℕ} {at : ℕ} {r : RestRan}
    → RestRuns c left first differs x l at r l' → Fits c → Fits r.carried
ran-fits run f = record { sound = run.sound; recorded = rw run.recorded f.recorded; probes = rw run.probes f.probes }

-- the numbers of a state after ticks of its line
pub small-done : (s : State) (to end : ℕ) (c : Carried) (adds : Counts) (t : Turn) (n : ℕ) → LineDone s to c adds end t
    → c.moment ≤ s.carried.moment + 4294967296 → Small s n → Small t.state (n + 1)
small-done s to end c adds t n d m k = record {
  number = rw d.number (omega (arith, k.number));
  moment = rw d.carried (omega (arith, k.moment, m));
  counts = few-most (d.few (4611686018427387904 + 4294967296 * n) k.counts) (omega arith);
  left = rw d.left (omega arith);
  next = rw (d.left, d.next) (omega arith);
  begun = rw d.begun (omega arith);
}

small-more : (s : State) (to end left next : ℕ) (differs : Bool) (c : Carried) (t : Turn) (ran n : ℕ) → LineLeft s to c left next differs end t
    → c.moment ≡ s.carried.moment + ran → ran + left ≡ s.left.0 → next ≡ s.next + ran → Small s n → Small t.state (n + 1)
small-more s to end left next differs c t ran n d m e f k = record {
  number = rw d.number (omega (arith, k.number));
  moment = rw (d.carried, m) (omega (arith, k.moment, k.left, e));
  counts = rw d.counts (few-most k.counts (omega arith));
  left = rw d.left (omega (arith, k.left, e));
  next = rw (d.left, d.next) (omega (arith, k.next, e, f));
  begun = rw d.begun k.begun;
}

-- no tick is left
turns-over :
    (text : Text) (from : ℕ) (s : State) (ls fs : List ℕ) (ds : List ℤ) (es l : List ℕ) (at : ℕ) (x : Expected) (r : RestRan) (t : Turn) (l' : List ℕ)
    → Under s ls x → at + 1100 ≤ length l → from ≤ length text → Kept (item_of s.carried fs ds es)
    → RestRuns s.carried s.left.0 s.next s.differs x l at r l' → AfterRest s from x r s.differs t → r.left.0 ≡ 0
    → Turns text from s ls fs ds es l at t ls fs ds es l'
turns-over text from s ls fs ds es l at x r t l' u room most kept run after e =
    let i = item_of s.carried fs ds es in
    let st = rest_step s.left.0 s.next s.differs x i in
    let d = after.done e in
    let n : run.ran ≡ s.left.0 = omega (arith, run.count, e) in
    let item : item_of r.carried fs ds es ≡ st.item =
    ran-item s.carried r.carried s.left.0 s.next fs ds es
    (run.model ∙ ap (λ k. (ticked k s.next s.carried.model).model) n)
    (run.moment ∙ ap (λ k. s.carried.moment + k) n)
    run.recorded
    run.probes
    ∙ sym (over-item s.left.0 s.next s.differs x i) in
    let adds : tally_of t.adds ≡ st.adds = after.tally e ∙ sym (over-adds s.left.0 s.next s.differs x i) in
    let said = over-text s.left.0 run.ran s.next r.left.0 s.differs x s.carried fs ds es n e in
    record {
      done = st ∷ [];
      part = [];
      went =
          went-as (let z : 0 ≡ t.taken - from = omega (arith, d.taken) in z)
          (sym (state-done s t st from r.end r.carried t.adds ls ls fs fs ds ds es es d item adds))
          (over-went (drop from text) s ls fs ds es x u.left u.expected);
      low = rw d.taken (omega arith);
      high = rw d.taken most;
      put = rw (said, d.used) run.text;
      room =
          rw said
          (fits_both at (ticked run.ran s.next s.carried.model).reports (ending_of r.left.0 s.differs x) l (run.room room)
          (ending-least r.left.0 s.differs x u.bound));
      kept = rw d.carried (ran-kept fs ds es run kept);
      fits = rw d.carried (ran-fits run u.fits);
      small = λ m k.
          small-done s from r.end r.carried t.adds t m d (omega (arith, run.moment, k.left, n)) k;
      outcome = record {
        whole = λ _. record { one = st; done = refl; part = refl; adds = sym adds };
        under = λ f. absurd (true≢false (sym d.done ∙ f));
      };
      alike = d.on ∙ sym d.done;
      quiet = λ _. d.left;
      over = λ _. refl;
      on = λ _ z. absurd (omega (arith, u.left, z));
    }

-- some are
turns_more :
    (text : Text) (from : ℕ) (s : State) (ls fs : List ℕ) (ds : List ℤ) (es l : List ℕ) (at : ℕ) (x : Expected) (r : RestRan) (t : Turn) (l' : List ℕ)
    → Under s ls x → at + 1100 ≤ length l → from ≤ length text → Kept (item_of s.carried fs ds es)
    → RestRuns s.carried s.left.0 s.next s.differs x l at r l' → AfterRest s from x r s.differs t → 0 < r.left.0
    → Turns text from s ls fs ds es l at t ls fs ds es l'
unfolding texts
turns_more text from s ls fs ds es l at x r t l' u room most kept run after h =
    let d = after.left h in
    let part = (ticked run.ran s.next s.carried.model).reports in
    let said : part ++ ending_of r.left.0 s.differs x ≡ part = more-text part r.left.0 s.differs x h in
    record {
      done = [];
      part = part;
      went =
          went-as (let z : 0 ≡ t.taken - from = omega (arith, d.taken) in z)
          (sym (state-left s t from r.end r.left.0 r.next s.differs r.carried ls fs fs ds ds es es d h))
          (more-went (drop from text) s ls fs ds es x run.ran r.left.0 r.next (item_of r.carried fs ds es) u.left u.expected run.count
          run.next
          (ran-item s.carried r.carried run.ran s.next fs ds es run.model run.moment run.recorded run.probes));
      low = rw d.taken (omega arith);
      high = rw d.taken most;
      put = rw d.used (subst (λ w. Puts l at w r.end l') said run.text);
      room = omega (arith, run.room room);
      kept = rw d.carried (ran-kept fs ds es run kept);
      fits = rw d.carried (ran-fits run u.fits);
      small = λ m k.
          small-more s from r.end r.left.0 r.next s.differs r.carried t run.ran m d run.moment run.count run.next k;
      outcome = record { whole = λ f. absurd (true≢false (sym f ∙ d.done)); under = λ _. refl };
      alike = d.on ∙ sym d.done;
      quiet = λ f. absurd (true≢false (sym f ∙ d.on));
      over = λ f. absurd (true≢false (sym f ∙ d.on));
      on = λ f z. absurd (omega (arith, u.left, z));
    }

pub turns-rest :
    {s : State} {from : ℕ} {ls l : List ℕ} {at : ℕ} {x : Expected} {r : RestRan} {t : Turn} {l' : List ℕ}
    → Under s ls x → at + 1100 ≤ length l
    → RestRuns s.carried s.left.0 s.next s.differs x l at r l' → AfterRest s from x r s.differs t
    → TurnsOn s from ls l at t l'
turns-rest {s} {from} {ls} {l} {at} {x} {r} {t} {l'} u room run after = record {
  any = λ text fs ds es most kept.
      by_eqb r.left.0 0
      (λ e _. turns-over text from s ls fs ds es l at x r t l' u room most kept run after e)
      (λ n _. turns_more text from s ls fs ds es l at x r t l' u room most kept run after (pos_of n));
}
  where
    pos_of : {n : ℕ} → ¬ (n ≡ 0) → 0 < n
    pos_of {n} h = omega arith
