-- The lines of a piece, turn by turn. Assumes nothing.
use Prim.Native.Nat.{ℕ, zero, suc, ◌+◌, ◌-◌, ◌*◌, ◌≤◌, ◌<◌}
use native.Mathlib.Nat.{add-zero, zero-add, add_assoc}
use native.Mathlib.Omega.{arith}
use mathlib.Core.Bool.{Bool, true, false, true≢false}
use mathlib.Core.List.{List, [], ◌∷◌, ◌++◌, append-nil, append_assoc}
use mathlib.Core.Path.{◌≡◌, refl, sym, ap, subst, ◌∙◌}
use lib.Dec.{eqb, ltb, leb}
use lib.IntN.{ℤ}
use lib.ListN.{length, drop, length-append}
use borrow.Author.Tests.{lt-ltb, le-ltb, eq-eqb}
use Rattle.unit.specs.Choice.{pick, both}
use Rattle.unit.proofs.Cases.{by-test, by-ltb, by-leb, by_eqb}
use Rattle.numeral.specs.Place.{overwrite}
use Rattle.numeral.proofs.PlaceLaws.{overwrite-nil, overwrite-append, overwrite-snoc, length-overwrite}
use Rattle.text.specs.Text.{Text}
use Rattle.text.specs.OwnPut.{Puts}
use Rattle.item_answer.specs.declared.Counts.{Counts}
use Rattle.item_answer.specs.Step.{Step, outcome, outcome_bits}
use Rattle.item_answer.specs.OwnView.{tally_of}
use Rattle.item_replay.specs.Going.{Going, texts, Went}
use Rattle.item_replay.proofs.Pieces.{went-none, went_then}
use Rattle.item_replay_code.specs.declared.State.{State}
use Rattle.item_replay_code.specs.declared.Turn.{Turn}
use Rattle.item_replay_code.specs.OwnState.{going_of, Lists, Few, Small}
use Rattle.item_replay_code.specs.OwnTurn.{Turns}
use Rattle.item_replay_code.specs.OwnGone.{Ready, TurnReady, bits_of, marks_from, Marked, Goes}

-- ---- lists of steps

texts-append : (ds es : List Step) → texts (ds ++ es) ≡ texts ds ++ texts es
unfolding texts
texts-append [] es = refl
texts-append (d ∷ ds) es = ap (λ t. d.text ++ t) (texts-append ds es) ∙ sym (append_assoc d.text (texts ds) (texts es))

marks-append : (at : ℕ) (ds es : List Step) → marks_from at (ds ++ es) ≡ marks_from at ds ++ marks_from (at + length (texts ds)) es
unfolding marks_from texts
marks-append at [] es = rw (add-zero at)
marks-append at (d ∷ ds) es =
    ap (λ ms. ((at + length d.text) * 32 + outcome_bits (outcome d)) ∷ ms)
    (marks-append (at + length d.text) ds es
    ∙ ap (λ n. marks_from (at + length d.text) ds ++ marks_from n es)
    (let z : at + length d.text + length (texts ds) ≡ at + length (d.text ++ texts ds) = rw (length-append, add_assoc) in z))

marks-long : (at : ℕ) (ds : List Step) → length (marks_from at ds) ≡ length ds
unfolding marks_from
marks-long at [] = refl
marks-long at (d ∷ ds) = ap suc (marks-long (at + length d.text) ds)

-- ---- before each turn

-- So far: what the lines before it came to.
pub record Sofar (text : Text) (s : State) (ls fs : List ℕ) (ds : List ℤ) (es l ms : List ℕ) (state : State) (taken used count : ℕ) (more : Bool) (ls' fs' : List ℕ) (ds' : List ℤ) (es' l' ms' : List ℕ) : Type 0 where
  pub done : List Step
  pub part : Text
  pub went : Went (going_of s ls fs ds es) text taken done part (going_of state ls' fs' ds' es')
  pub bytes : l' ≡ overwrite l 0 (texts done ++ part)
  pub put : used ≡ length (texts done ++ part)
  pub room : used ≤ length l
  pub marks : ms' ≡ overwrite ms 0 (marks_from 0 done)
  pub lines : count ≡ length done
  pub few : count ≤ length ms
  pub most : count ≤ 16777216
  pub turns : ℕ
  pub ready : Ready state turns ls' fs' ds' es'
  pub after : turns ≤ count + 1
  pub before : more ≡ true → turns ≤ count
  pub whole : more ≡ true → part ≡ []

pub sofar-first : (text : Text) (s : State) (ls fs : List ℕ) (ds : List ℤ) (es l ms : List ℕ) → Ready s 0 ls fs ds es
    → Sofar text s ls fs ds es l ms s 0 0 0 true ls fs ds es l ms
unfolding texts marks_from
sofar-first text s ls fs ds es l ms r = record {
  done = [];
  part = [];
  went = went-none (going_of s ls fs ds es) text;
  bytes = sym (overwrite-nil l 0);
  put = refl;
  room = omega arith;
  marks = sym (overwrite-nil ms 0);
  lines = refl;
  few = omega arith;
  most = omega arith;
  turns = 0;
  ready = r;
  after = omega arith;
  before = λ _. omega arith;
  whole = λ _. refl;
}

-- What is put after what was put.
put_on : (l l' l'' : List ℕ) (a b : Text) (used r : ℕ) → l' ≡ overwrite l 0 a → used ≡ length a → used ≤ length l → Puts l' used b r l'' → used + length b ≤ length l'
    → (l'' ≡ overwrite l 0 (a ++ b)) × (r ≡ length (a ++ b)) × (r ≤ length l)
put_on l l' l'' a b used r e u low p h =
    let fit : 0 + length a ≤ length l = omega arith in
    let same : length l' ≡ length l = ap length e ∙ length-overwrite l 0 a fit in
    let both : 0 + length a + length b ≤ length l = omega arith in
    (p.bytes h ∙ rw (e, u) (ap (λ k. overwrite (overwrite l 0 a) k b) (sym (zero-add (length a))) ∙ overwrite-append l 0 a b both), p.next h ∙ rw (u, length-append a b), rw (p.next h) (omega arith))

ltb-more : (a n : ℕ) → ltb a (a + n) ≡ ltb 0 n
ltb-more a zero = le-ltb a (a + 0) (omega arith) ∙ sym (le-ltb 0 0 (omega arith))
ltb-more a (suc n) = lt-ltb a (a + suc n) (omega arith) ∙ sym (lt-ltb 0 (suc n) (omega arith))

-- A turn after those before it.
went_on : (text : Text) (g h k : Going) (taken to : ℕ) (done : List Step) (part : Text) (es : List Step) (rest : Text) → part ≡ []
    → Went g text taken done part h → Went h (drop taken text) (to - taken) es rest k → taken ≤ to → Went g text to (done ++ es) rest k
went_on text g h k taken to done part es rest none p q low =
    subst (λ n. Went g text n (done ++ es) rest k) (let z : taken + (to - taken) ≡ to = omega arith in z)
    (went_then (subst (λ x. Went g text taken done x h) none p) q)

-- One mark more.
mark_on : (ms ms' ms'' : List ℕ) (done : List Step) (one : Step) (count used r : ℕ) (adds : Counts)
    → ms' ≡ overwrite ms 0 (marks_from 0 done) → count ≡ length done → count < length ms → used ≡ length (texts done) → one.adds ≡ tally_of adds
    → Marked ms' count used (used + length one.text) true adds r ms''
    → (ms'' ≡ overwrite ms 0 (marks_from 0 (done ++ (one ∷ [])))) × (r ≡ length (done ++ (one ∷ [])))
unfolding marks_from bits_of outcome
mark_on ms ms' ms'' done one count used r adds e n h u a k =
    let long = marks-long 0 done in
    let place : count ≡ 0 + length (marks_from 0 done) = omega arith in
    let mark : ℕ = (0 + length (texts done) + length one.text) * 32 + outcome_bits (outcome one) in
    let same : (used + length one.text) * 32 + bits_of (ltb used (used + length one.text)) (tally_of adds) ≡ mark =
    rw (ltb-more used (length one.text), ← a, u, zero-add (length (texts done))) in (
      k.marks
          ∙ (rw (same, e, place) (overwrite-snoc ms 0 (marks_from 0 done) mark (omega arith))
          ∙ ap (overwrite ms 0) (sym (marks-append 0 done (one ∷ [])))),
      k.next ∙ rw (n, length-append done (one ∷ [])),
    )

-- A turn that is done with a line.
pub sofar-done : (text : Text) (s : State) (ls fs : List ℕ) (ds : List ℤ) (es l ms : List ℕ) (state : State) (taken used count : ℕ) (ls' fs' : List ℕ) (ds' : List ℤ) (es' l' ms' : List ℕ)
    (t : Turn) (r : ℕ) (ls'' fs'' : List ℕ) (ds'' : List ℤ) (es'' l'' ms'' : List ℕ)
    → Sofar text s ls fs ds es l ms state taken used count true ls' fs' ds' es' l' ms'
    → count < length ms → count < 16777216
    → Turns text taken state ls' fs' ds' es' l' used t ls'' fs'' ds'' es'' l''
    → t.done ≡ true → Lists ls'' fs'' ds'' es''
    → Marked ms' count used t.used true t.adds r ms''
    → Sofar text s ls fs ds es l ms t.state t.taken t.used r t.more ls'' fs'' ds'' es'' l'' ms''
unfolding texts
sofar-done text s ls fs ds es l ms state taken used count ls' fs' ds' es' l' ms' t r ls'' fs'' ds'' es'' l'' ms'' f low few u d lists k =
    let w = u.outcome.whole d in
    let one : Step = w.one in
    let none : f.part ≡ [] = f.whole refl in
    let empty : texts f.done ++ f.part ≡ texts f.done = rw (none, append-nil (texts f.done)) in
    let text-one : texts u.done ++ u.part ≡ one.text = rw (w.done, w.part, append-nil (one.text ++ []), append-nil one.text) in
    let here : used ≡ length (texts f.done) = f.put ∙ ap length empty in
    let puts = put_on l l' l'' (texts f.done) one.text used t.used (f.bytes ∙ ap (overwrite l 0) empty) here f.room
    (subst (λ b. Puts l' used b t.used l'') text-one u.put) (subst (λ b. used + length b ≤ length l') text-one u.room) in
    let used-is : t.used ≡ used + length one.text = puts.1 ∙ (length-append (texts f.done) one.text ∙ rw (← here)) in
    let marks = mark_on ms ms' ms'' f.done one count used r t.adds f.marks f.lines low here w.adds
    (subst (λ n. Marked ms' count used n true t.adds r ms'') used-is k) in
    let all : texts (f.done ++ (one ∷ [])) ++ [] ≡ texts f.done ++ one.text =
    append-nil (texts (f.done ++ (one ∷ []))) ∙ (texts-append f.done (one ∷ []) ∙ ap (λ b. texts f.done ++ b) (append-nil one.text)) in
    let step : r ≡ count + 1 = marks.1 ∙ (length-append f.done (one ∷ []) ∙ rw (← f.lines)) in
    record {
      done = f.done ++ (one ∷ []);
      part = [];
      went = went_on text (going_of s ls fs ds es) (going_of state ls' fs' ds' es') (going_of t.state ls'' fs'' ds'' es'') taken t.taken f.done f.part (one ∷ []) [] none f.went
          (subst (λ p. Went (going_of state ls' fs' ds' es') (drop taken text) (t.taken - taken) (one ∷ []) p (going_of t.state ls'' fs'' ds'' es'')) w.part
          (subst (λ es. Went (going_of state ls' fs' ds' es') (drop taken text) (t.taken - taken) es u.part (going_of t.state ls'' fs'' ds'' es'')) w.done u.went))
          u.low;
      bytes = puts.0 ∙ ap (overwrite l 0) (sym all);
      put = puts.1 ∙ ap length (sym all);
      room = puts.2;
      marks = marks.0;
      lines = marks.1;
      few = omega arith;
      most = omega arith;
      turns = f.turns + 1;
      ready = record { lists = lists; fits = u.fits; kept = u.kept; small = u.small f.turns f.ready.small };
      after = let b = f.before refl in omega arith;
      before = λ _. let b = f.before refl in omega arith;
      whole = λ _. refl;
    }

-- A turn after which the piece is over.
pub sofar-left : (text : Text) (s : State) (ls fs : List ℕ) (ds : List ℤ) (es l ms : List ℕ) (state : State) (taken used count : ℕ) (ls' fs' : List ℕ) (ds' : List ℤ) (es' l' ms' : List ℕ)
    (t : Turn) (r : ℕ) (ls'' fs'' : List ℕ) (ds'' : List ℤ) (es'' l'' ms'' : List ℕ)
    → Sofar text s ls fs ds es l ms state taken used count true ls' fs' ds' es' l' ms'
    → Turns text taken state ls' fs' ds' es' l' used t ls'' fs'' ds'' es'' l''
    → t.done ≡ false → t.more ≡ false → Lists ls'' fs'' ds'' es''
    → Marked ms' count used t.used false t.adds r ms''
    → Sofar text s ls fs ds es l ms t.state t.taken t.used r t.more ls'' fs'' ds'' es'' l'' ms''
unfolding texts
sofar-left text s ls fs ds es l ms state taken used count ls' fs' ds' es' l' ms' t r ls'' fs'' ds'' es'' l'' ms'' f u d m lists k =
    let none : f.part ≡ [] = f.whole refl in
    let nothing : u.done ≡ [] = u.outcome.under d in
    let empty : texts f.done ++ f.part ≡ texts f.done = rw (none, append-nil (texts f.done)) in
    let part-only : texts u.done ++ u.part ≡ u.part = rw nothing in
    let here : used ≡ length (texts f.done) = f.put ∙ ap length empty in
    let puts = put_on l l' l'' (texts f.done) u.part used t.used (f.bytes ∙ ap (overwrite l 0) empty) here f.room
    (subst (λ b. Puts l' used b t.used l'') part-only u.put) (subst (λ b. used + length b ≤ length l') part-only u.room) in
    let same : r ≡ count = k.next ∙ add-zero count in
    record {
      done = f.done ++ [];
      part = u.part;
      went = went_on text (going_of s ls fs ds es) (going_of state ls' fs' ds' es') (going_of t.state ls'' fs'' ds'' es'') taken t.taken f.done f.part [] u.part none f.went
          (subst (λ es. Went (going_of state ls' fs' ds' es') (drop taken text) (t.taken - taken) es u.part (going_of t.state ls'' fs'' ds'' es'')) nothing u.went)
          u.low;
      bytes = puts.0 ∙ rw (append-nil f.done);
      put = puts.1 ∙ rw (append-nil f.done);
      room = puts.2;
      marks = k.marks ∙ rw (append-nil f.done) f.marks;
      lines = same ∙ rw (append-nil f.done) f.lines;
      few = let n = f.few in omega arith;
      most = let n = f.most in omega arith;
      turns = f.turns + 1;
      ready = record { lists = lists; fits = u.fits; kept = u.kept; small = u.small f.turns f.ready.small };
      after = let b = f.before refl in omega arith;
      before = λ e. absurd (true≢false (sym e ∙ m));
      whole = λ e. absurd (true≢false (sym e ∙ m));
    }

few-more : {c : Counts} {n m : ℕ} → n ≤ m → Few c n → Few c m
few-more h f = record {
  calls = omega (arith, f.calls);
  refused = omega (arith, f.refused);
  unannounced = omega (arith, f.unannounced);
  bad = omega (arith, f.bad);
  expectations = omega (arith, f.expectations);
  differ = omega (arith, f.differ);
}

small-more : (s : State) (n m : ℕ) → n ≤ m → Small s n → Small s m
small-more s n m h b = record {
  number = omega (arith, b.number);
  moment = omega (arith, b.moment);
  counts = few-more (omega arith) b.counts;
  left = b.left;
  next = omega (arith, b.next);
  begun = b.begun;
}

-- A turn, whether it is done with a line or not.
pub sofar-turn : (text : Text) (s : State) (ls fs : List ℕ) (ds : List ℤ) (es l ms : List ℕ) (state : State) (taken used count : ℕ) (ls' fs' : List ℕ) (ds' : List ℤ) (es' l' ms' : List ℕ)
    (t : Turn) (r : ℕ) (ls'' fs'' : List ℕ) (ds'' : List ℤ) (es'' l'' ms'' : List ℕ)
    → Sofar text s ls fs ds es l ms state taken used count true ls' fs' ds' es' l' ms'
    → count < length ms → count < 16777216
    → Turns text taken state ls' fs' ds' es' l' used t ls'' fs'' ds'' es'' l''
    → Lists ls'' fs'' ds'' es''
    → Marked ms' count used t.used t.done t.adds r ms''
    → Sofar text s ls fs ds es l ms t.state t.taken t.used r t.more ls'' fs'' ds'' es'' l'' ms''
sofar-turn text s ls fs ds es l ms state taken used count ls' fs' ds' es' l' ms' t r ls'' fs'' ds'' es'' l'' ms'' f low few u lists k =
    by-test t.done
    (λ d. sofar-done text s ls fs ds es l ms state taken used count ls' fs' ds' es' l' ms' t r ls'' fs'' ds'' es'' l'' ms'' f low few u d lists
    (subst (λ b. Marked ms' count used t.used b t.adds r ms'') d k))
    (λ d. sofar-left text s ls fs ds es l ms state taken used count ls' fs' ds' es' l' ms' t r ls'' fs'' ds'' es'' l'' ms'' f u d (u.alike ∙ d) lists
    (subst (λ b. Marked ms' count used t.used b t.adds r ms'') d k))

-- What is left to do: less after each turn.
abbrev pub left_over : Text → State → ℕ → Bool → ℕ
left_over text state taken more = pick more (1 + 2 * (length text - taken) + pick (eqb state.left.0 0) 0 1) 0

pub less-left : (text : Text) (state : State) (taken used : ℕ) (ls fs : List ℕ) (ds : List ℤ) (es l : List ℕ) (t : Turn) (ls' fs' : List ℕ) (ds' : List ℤ) (es' l' : List ℕ)
    → Turns text taken state ls fs ds es l used t ls' fs' ds' es' l' → left_over text t.state t.taken t.more < left_over text state taken true
less-left text state taken used ls fs ds es l t ls' fs' ds' es' l' u =
    by-test t.more
    (λ m.
    by_eqb state.left.0 0
    (λ z e. rw (m, e, eq-eqb _ 0 (u.quiet m)) (omega (arith, u.on m z, u.high)))
    (λ z e. rw (m, e, eq-eqb _ 0 (u.quiet m)) (omega (arith, u.low, u.high))))
    (λ m. rw m (omega arith))

pub less-next : (text : Text) (state : State) (taken : ℕ) (t : Turn) (more : Bool) {used : ℕ} {ls fs : List ℕ} {ds : List ℤ} {es l : List ℕ} {ls' fs' : List ℕ} {ds' : List ℤ} {es' l' : List ℕ}
    → more ≡ true → Turns text taken state ls fs ds es l used t ls' fs' ds' es' l' → left_over text t.state t.taken t.more < left_over text state taken more
less-next text state taken t more m u = rw m (less-left text state taken _ _ _ _ _ _ t _ _ _ _ _ u)

-- After the last turn.
pub gone : (text : Text) (s : State) (ls fs : List ℕ) (ds : List ℤ) (es l ms : List ℕ) (state : State) (taken used count : ℕ) (more : Bool) (ls' fs' : List ℕ) (ds' : List ℤ) (es' l' ms' : List ℕ)
    → Sofar text s ls fs ds es l ms state taken used count more ls' fs' ds' es' l' ms'
    → Goes text s ls fs ds es l ms record { state = state; taken = taken; used = used; count = count } ls' fs' ds' es' l' ms'
gone text s ls fs ds es l ms state taken used count more ls' fs' ds' es' l' ms' f = record {
  done = f.done;
  part = f.part;
  went = f.went;
  bytes = f.bytes;
  used = f.put;
  room = f.room;
  marks = f.marks;
  count = f.lines;
  few = f.few;
  fits = f.ready.fits;
  kept = f.ready.kept;
  small = small-more state f.turns 16777217 (let a = f.after in let b = f.most in omega arith) f.ready.small;
}

-- What room means.
pub roomy : (used places count marks : ℕ) → both (leb (used + 100000) places) (both (ltb count marks) (ltb count 16777216)) ≡ true
    → (used + 100000 ≤ places) × (count < marks) × (count < 16777216)
roomy used places count marks =
    by-leb (used + 100000) places
    (λ a e.
    by-ltb count marks
    (λ b f. by-ltb count 16777216 (λ d g. rw (e, f, g) (λ h. (a, b, d))) (λ d g. rw (e, f, g) (λ h. absurd (true≢false (sym h)))))
    (λ b f. rw (e, f) (λ h. absurd (true≢false (sym h)))))
    (λ a e. rw e (λ h. absurd (true≢false (sym h))))

-- What the next turn asks for.
pub turn-ready : {text : Text} {s : State} {ls fs : List ℕ} {ds : List ℤ} {es l ms : List ℕ} {state : State} {taken used count : ℕ} {more : Bool} {ls' fs' : List ℕ} {ds' : List ℤ} {es' l' ms' : List ℕ}
    → more ≡ true → count < 16777216 → Sofar text s ls fs ds es l ms state taken used count more ls' fs' ds' es' l' ms' → TurnReady state ls' fs' ds' es'
turn-ready m few f = record {
  lists = f.ready.lists;
  fits = f.ready.fits;
  kept = f.ready.kept;
  bounded = record { lines = f.turns; most = omega (arith, f.before m, few); small = f.ready.small };
}

pub used-small : {text : Text} {from : ℕ} {s : State} {ls fs : List ℕ} {ds : List ℤ} {es l : List ℕ} {at : ℕ} {t : Turn} {ls' fs' : List ℕ} {ds' : List ℤ} {es' l' : List ℕ}
    → Turns text from s ls fs ds es l at t ls' fs' ds' es' l' → length l < 4294967296 → t.used < 4294967296
used-small u h = let e = u.put.next u.room in omega (arith, e, u.room, h)

-- A turn more, with the lists as long as they were.
pub sofar-next : {text : Text} {s : State} {ls fs : List ℕ} {ds : List ℤ} {es l ms : List ℕ} {state : State} {taken used count : ℕ} {more : Bool} {ls' fs' : List ℕ} {ds' : List ℤ} {es' l' ms' : List ℕ}
    {t : Turn} {r : ℕ} {ls'' fs'' : List ℕ} {ds'' : List ℤ} {es'' l'' ms'' : List ℕ}
    → more ≡ true → count < length ms → count < 16777216
    → Sofar text s ls fs ds es l ms state taken used count more ls' fs' ds' es' l' ms'
    → Turns text taken state ls' fs' ds' es' l' used t ls'' fs'' ds'' es'' l''
    → length ls'' ≡ length ls' → length fs'' ≡ length fs' → length ds'' ≡ length ds' → length es'' ≡ length es'
    → Marked ms' count used t.used t.done t.adds r ms''
    → Sofar text s ls fs ds es l ms t.state t.taken t.used r t.more ls'' fs'' ds'' es'' l'' ms''
sofar-next {text} {s} {ls} {fs} {ds} {es} {l} {ms} {state} {taken} {used} {count} {more} {ls'} {fs'} {ds'} {es'} {l'} {ms'} {t} {r} {ls''} {fs''} {ds''} {es''} {l''} {ms''} m low few f u a b d e k =
    sofar-turn text s ls fs ds es l ms state taken used count ls' fs' ds' es' l' ms' t r ls'' fs'' ds'' es'' l'' ms''
    (subst (λ x. Sofar text s ls fs ds es l ms state taken used count x ls' fs' ds' es' l' ms') m f) low few u
    record {
      line = a ∙ f.ready.lists.line;
      flash = b ∙ f.ready.lists.flash;
      differences = d ∙ f.ready.lists.differences;
      entries = e ∙ f.ready.lists.entries;
    }
    k
