-- Turns on a piece, by what code ensures of the bytes that are kept and of a line that has ended. Assumes nothing.
use Prim.Native.Nat.{ℕ, ◌+◌, ◌-◌, ◌≤◌, ◌<◌}
use native.Mathlib.Omega.{arith}
use mathlib.Core.Bool.{Bool, true, false, true≢false}
use mathlib.Core.List.{List, [], ◌∷◌, ◌++◌, append-nil, append_assoc}
use mathlib.Core.Path.{◌≡◌, refl, sym, ap, subst, ◌∙◌}
use lib.IntN.{ℤ}
use lib.ListN.{length, take, drop, length-drop, length-append}
use Prim.Native.String.{String}
use borrow.Author.Tests.{ne_eqb, le-ltb}
use Rattle.unit.proofs.Cases.{by_eqb}
use Rattle.numeral.specs.Ascii.{ascii}
use Rattle.numeral.specs.Print.{decimal}
use Rattle.numeral.proofs.PlaceLaws.{length-overwrite}
use Rattle.text.specs.Text.{Text, ended, text_where}
use Rattle.text.specs.OwnPut.{Puts}
use Rattle.text.proofs.Putting.{puts_none, puts_then}
use Rattle.item_line.specs.Line.{Call, Expected, Line}
use Rattle.item_line.specs.Reading.{line_of}
use Rattle.item_line.specs.OwnBounds.{ExpectedBound}
use Rattle.item_answer.specs.declared.Carried.{Carried}
use Rattle.item_answer.specs.declared.Counts.{Counts}
use Rattle.item_answer.specs.Answer.{Item, with_model, ticked, ticks_told, at_result, call_result}
use Rattle.item_answer.specs.Step.{Step, step, line_step, result_step, told_step, disagrees, expected_text}
use Rattle.item_answer.specs.OwnView.{item_of, tally_of}
use Rattle.item_answer.specs.OwnKept.{Kept}
use Rattle.item_answer.proofs.Room.{head-room}
use Rattle.item_answer.proofs.Moment.{step-soon}
use Rattle.item_replay.specs.Replay.{plus}
use Rattle.item_replay.specs.Going.{none, expected_of, rest_step, texts, Went}
use Rattle.item_replay.specs.OwnFeed.{has_feed, before_feed}
use Rattle.item_replay.specs.OwnTurn.{held, done_with, within, Parts}
use Rattle.item_replay.proofs.Turns.{no-feed, went-held, went_line, went-begun}
use Rattle.item_replay_code.specs.declared.State.{State}
use Rattle.item_replay_code.specs.declared.Turn.{Turn}
use Rattle.item_replay_code.specs.declared.Held.{Held}
use Rattle.item_replay_code.specs.declared.RestRan.{RestRan}
use Rattle.item_replay_code.specs.declared.TicksBegun.{TicksBegun}
use Rattle.item_replay_code.specs.OwnHeld.{Holds}
use Rattle.item_replay_code.specs.OwnRest.{ending_of, RestRuns, TicksRun}
use Rattle.item_replay_code.specs.OwnState.{rest_of, going_of, Fits}
use Rattle.item_replay_code.specs.OwnTurn.{LineDone, LineHeld, LineLeft, LineAnswered, Turns, ticks_tally, AfterRest, Begins}
use Rattle.item_replay_code.proofs.TurnLaws.{rest-split, ran-item, state-done, over-text, over-item, over-adds, more-text, ending-least, went-as, few-most, ran-kept, ran-fits, small-done}

-- the replay of a state in which no tick is left
quiet-rest : (s : State) (ls fs : List ℕ) (ds : List ℤ) (es : List ℕ) → s.left.0 ≡ 0 → (going_of s ls fs ds es).rest ≡ none
unfolding going_of rest_of
quiet-rest s ls fs ds es e = rw e

-- ---- the piece is over before the line

held-went : (text : Text) (from : ℕ) (s : State) (ls fs : List ℕ) (ds : List ℤ) (es : List ℕ) (h : Held) (ls' : List ℕ)
    → s.left.0 ≡ 0 → Holds text from ls s.begun h ls' → h.whole ≡ false
    → Went (going_of s ls fs ds es) (drop from text) (length (drop from text)) [] [] (held (going_of s ls fs ds es) (take h.begun ls'))
unfolding going_of
held-went text from s ls fs ds es h ls' quiet k w =
    let f : has_feed (drop from text) ≡ false = sym k.whole ∙ w in
    rw (k.bytes, no-feed (drop from text) f)
    (went-held 1002 (omega arith) (going_of s ls fs ds es) (drop from text) (quiet-rest s ls fs ds es quiet) f)

state-held : (s : State) (t : Turn) (to begun at : ℕ) (ls ls' fs : List ℕ) (ds : List ℤ) (es : List ℕ) → LineHeld s to begun at t
    → held (going_of s ls fs ds es) (take begun ls') ≡ going_of t.state ls' fs ds es
unfolding going_of rest_of
state-held s t to begun at ls ls' fs ds es d = rw (d.number, d.carried, d.counts, d.begun, d.left)

pub turns-held :
    (text : Text) (from : ℕ) (s : State) (ls fs : List ℕ) (ds : List ℤ) (es l : List ℕ) (at : ℕ) (h : Held) (t : Turn) (ls' : List ℕ)
    → s.left.0 ≡ 0 → from ≤ length text → at ≤ length l → Kept (item_of s.carried fs ds es) → Fits s.carried
    → Holds text from ls s.begun h ls' → h.whole ≡ false → LineHeld s h.next h.begun at t
    → Turns text from s ls fs ds es l at t ls' fs ds es l
unfolding texts
turns-held text from s ls fs ds es l at h t ls' quiet most room kept fits k w d =
    let end : t.taken ≡ length text = d.taken ∙ k.over w in
    let n : length (drop from text) ≡ t.taken - from = rw end (length-drop from text) in
    record {
      done = [];
      part = [];
      went =
          went-as n (state-held s t h.next h.begun at ls ls' fs ds es d)
          (held-went text from s ls fs ds es h ls' quiet k w);
      low = rw end most;
      high = rw end (omega arith);
      put = rw d.used (puts_none l at);
      room = omega (arith, room);
      kept = rw d.carried kept;
      fits = rw d.carried fits;
      small = λ m b. record {
        number = rw d.number (omega (arith, b.number));
        moment = rw d.carried (omega (arith, b.moment));
        counts = rw d.counts (few-most b.counts (omega arith));
        left = rw d.left (omega arith);
        next = rw (d.left, d.next) (omega arith);
        begun = rw d.begun k.most;
      };
      outcome = record { whole = λ f. absurd (true≢false (sym f ∙ d.done)); under = λ _. refl };
      alike = d.on ∙ sym d.done;
      quiet = λ _. d.left;
      over = λ _. refl;
      on = λ f z. absurd (true≢false (sym f ∙ d.on));
    }

-- ---- the line has ended, and is done

line-went : (text : Text) (from : ℕ) (s : State) (ls fs : List ℕ) (ds : List ℤ) (es : List ℕ) (h : Held) (ls' : List ℕ)
    → s.left.0 ≡ 0 → Holds text from ls s.begun h ls' → h.whole ≡ true
    → let st = step s.number (take h.begun ls') (item_of s.carried fs ds es) in
    Went (going_of s ls fs ds es) (drop from text) (length (before_feed (drop from text)) + 1) (st ∷ []) [] (done_with (going_of s ls fs ds es) st)
unfolding going_of
line-went text from s ls fs ds es h ls' quiet k w =
    rw k.bytes
    (went_line 1002 (omega arith) (going_of s ls fs ds es) (drop from text) (quiet-rest s ls fs ds es quiet) (sym k.whole ∙ w))

one-text : (st : Step) → texts (st ∷ []) ++ [] ≡ st.text
unfolding texts
one-text st = append-nil _ ∙ append-nil _

pub turns-line :
    (text : Text) (from : ℕ) (s : State) (ls fs : List ℕ) (ds : List ℤ) (es l : List ℕ) (at : ℕ) (h : Held) (c : Carried) (adds : Counts) (end : ℕ) (t : Turn)
    (ls' fs' : List ℕ) (ds' : List ℤ) (es' l' : List ℕ)
    → s.left.0 ≡ 0 → Holds text from ls s.begun h ls' → h.whole ≡ true
    → LineAnswered (step s.number (take h.begun ls') (item_of s.carried fs ds es)) s l at c adds end fs' ds' es' l'
    → LineDone s h.next c adds end t
    → Turns text from s ls fs ds es l at t ls' fs' ds' es' l'
turns-line text from s ls fs ds es l at h c adds end t ls' fs' ds' es' l' quiet k w a d =
    let st = step s.number (take h.begun ls') (item_of s.carried fs ds es) in
    let to : t.taken ≡ from + (length (before_feed (drop from text)) + 1) = d.taken ∙ k.next w in
    let n : length (before_feed (drop from text)) + 1 ≡ t.taken - from = omega (arith, to) in
    record {
      done = st ∷ [];
      part = [];
      went =
          went-as n (sym (state-done s t st h.next end c adds ls ls' fs fs' ds ds' es es' d a.item a.adds))
          (line-went text from s ls fs ds es h ls' quiet k w);
      low = omega (arith, to);
      high = rw d.taken k.high;
      put = rw (one-text st, d.used) a.text;
      room = rw (one-text st) a.room;
      kept = rw d.carried a.kept;
      fits = rw d.carried a.fits;
      small = λ m b. small-done s h.next end c adds t m d a.moment b;
      outcome = record {
        whole = λ _. record { one = st; done = refl; part = refl; adds = rw d.adds (sym a.adds) };
        under = λ f. absurd (true≢false (sym d.done ∙ f));
      };
      alike = d.on ∙ sym d.done;
      quiet = λ _. d.left;
      over = λ _. refl;
      on = λ _ z. omega (arith, to);
    }

-- What code ensures of a line that is answered at once; the counts may wait on room for the text.
pub answered :
    (s : State) (line : Text) (fs : List ℕ) (ds : List ℤ) (es l : List ℕ) (at : ℕ) (c : Carried) (adds : Counts) (end : ℕ) (fs' : List ℕ) (ds' : List ℤ) (es' l' : List ℕ)
    → let st = step s.number line (item_of s.carried fs ds es) in
    Puts l at st.text end l' → item_of c fs' ds' es' ≡ st.item → (at + length st.text ≤ length l → tally_of adds ≡ st.adds)
    → c.recorded ≤ 4096 → c.probes ≤ 1024 → Kept st.item → length st.text ≤ 98304 → at + 98304 ≤ length l
    → LineAnswered st s l at c adds end fs' ds' es' l'
unfolding item_of
answered s line fs ds es l at c adds end fs' ds' es' l' put item counts recorded probes kept most room =
    let st = step s.number line (item_of s.carried fs ds es) in
    let fit : at + length st.text ≤ length l = omega (arith, most, room) in
    let all : Kept (item_of c fs' ds' es') = subst Kept (sym item) kept in
    let moment : c.moment ≡ st.item.moment = ap (λ i. i.moment) item in
    record {
      text = put;
      room = fit;
      item = item;
      adds = counts fit;
      kept = all;
      fits = record { sound = all.sound; recorded = recorded; probes = probes };
      moment = omega (arith, moment, step-soon s.number line (item_of s.carried fs ds es));
    }

-- ---- a line of ticks

-- The step of a line of ticks: what stands before the reports, and the rest.
pub tick-parts :
    (keyword : String) (number n first : ℕ) (x : Expected) (i : Item)
    → Parts (told_step 1 x (ticks_told keyword number n first i)) (ascii keyword ++ ascii " " ++ decimal number)
    (rest_step n first (disagrees x (ascii keyword ++ ascii " " ++ decimal number ++ (ticked n first i.model).reports)) x i)
unfolding told_step ticks_told rest_step ended
tick-parts keyword number n first x i =
    let head = ascii keyword ++ ascii " " ++ decimal number in
    let reports = (ticked n first i.model).reports in
    let more = text_where (disagrees x (head ++ reports)) (expected_text x) in
    record {
      text = append-nil _ ∙ (append_assoc (head ++ reports) more (10 ∷ []) ∙ append_assoc head reports (more ++ (10 ∷ [])));
      item = refl;
      adds = refl;
    }

-- a part, and a part of what is left
parts_then : {s m r : Step} {a b : Text} → Parts s a m → Parts m b r → Parts s (a ++ b) r
parts_then {s} {m} {r} {a} {b} p q = record {
  text = p.text ∙ (ap (λ w. a ++ w) q.text ∙ sym (append_assoc a b r.text));
  item = p.item ∙ q.item;
  adds = p.adds ∙ q.adds;
}

-- A line of ticks that has ended: what it comes to, what was put of it, and how far its ticks have run.
pub record TicksGone (st : Step) (c : Carried) (fs : List ℕ) (ds : List ℤ) (es : List ℕ) (x : Expected) (l : List ℕ) (at : ℕ) (differs : Bool) (r : RestRan) (l' : List ℕ) : Type 0 where
  pub n : ℕ
  pub first : ℕ
  pub head : Text
  pub mid : List ℕ
  pub place : ℕ
  pub parts : Parts st head (rest_step n first differs x (item_of c fs ds es))
  pub put : Puts l at head place mid
  pub run : RestRuns c n first differs x mid place r l'
  pub bound : ExpectedBound x
  pub short : length head ≤ 40
  pub room : at + 1400 ≤ length l
  pub most : n < 4294967296
  pub last : first + n ≤ 4294967296

-- the places after the line's first words
mid-room : (l mid : List ℕ) (at place : ℕ) (head : Text) → Puts l at head place mid → length head ≤ 40 → at + 1400 ≤ length l
    → (place ≡ at + length head) × (length mid ≡ length l)
mid-room l mid at place head p short room =
    let h : at + length head ≤ length l = omega arith in
    (p.next h, ap length (p.bytes h) ∙ length-overwrite l at head h)

-- what was put has room, with the line's end
gone-room : {st : Step} {c : Carried} {fs : List ℕ} {ds : List ℤ} {es : List ℕ} {x : Expected} {l : List ℕ} {at : ℕ} {differs : Bool} {r : RestRan} {l' : List ℕ}
    (g : TicksGone st c fs ds es x l at differs r l')
    → at + (length g.head + length (ticked g.run.ran g.first c.model).reports) + 1100 ≤ length l
gone-room {l = l} {at = at} g =
    let m = mid-room l g.mid at g.place g.head g.put g.short g.room in
    let a = g.run.room (omega (arith, m.0, m.1, g.short, g.room)) in
    omega (arith, m.0, m.1, a)

-- all its ticks have run
gone-over : (s : State) (st : Step) (fs : List ℕ) (ds : List ℤ) (es : List ℕ) (x : Expected) (l : List ℕ) (at : ℕ) (differs : Bool) (r : RestRan) (l' : List ℕ) (adds : Counts)
    → TicksGone st s.carried fs ds es x l at differs r l' → Kept (item_of s.carried fs ds es) → Fits s.carried
    → r.left.0 ≡ 0 → tally_of adds ≡ ticks_tally differs x
    → LineAnswered st s l at r.carried adds r.end fs ds es l'
gone-over s st fs ds es x l at differs r l' adds g kept fits e tally =
    let run = g.run in
    let i = item_of s.carried fs ds es in
    let rest = rest_step g.n g.first differs x i in
    let reports = (ticked run.ran g.first s.carried.model).reports in
    let ending = ending_of r.left.0 differs x in
    let k : run.ran ≡ g.n = omega (arith, run.count, e) in
    let said : rest.text ≡ reports ++ ending =
    sym (one-text rest) ∙ over-text g.n run.ran g.first r.left.0 differs x s.carried fs ds es k e in
    let all : st.text ≡ g.head ++ (reports ++ ending) = g.parts.text ∙ ap (λ w. g.head ++ w) said in
    record {
      text = subst (λ w. Puts l at w r.end l') (sym all) (puts_then g.put run.text);
      room =
          rw all
          (let a = length-append g.head (reports ++ ending) in
          let b = length-append reports ending in
          omega (arith, a, b, gone-room g, ending-least r.left.0 differs x g.bound));
      item =
          ran-item s.carried r.carried g.n g.first fs ds es
          (run.model ∙ ap (λ j. (ticked j g.first s.carried.model).model) k)
          (run.moment ∙ ap (λ j. s.carried.moment + j) k)
          run.recorded
          run.probes
          ∙ (sym (over-item g.n g.first differs x i) ∙ sym g.parts.item);
      adds = tally ∙ (sym (over-adds g.n g.first differs x i) ∙ sym g.parts.adds);
      kept = ran-kept fs ds es run kept;
      fits = ran-fits run fits;
      moment = omega (arith, run.moment, k, g.most);
    }

-- some of its ticks are left: the step is in two parts
split-as : (a b n first next : ℕ) (differs : Bool) (x : Expected) (i j : Item) → a + b ≡ n → next ≡ first + a
    → j ≡ with_model i (ticked a first i.model).model (i.moment + a)
    → Parts (rest_step n first differs x i) (ticked a first i.model).reports (rest_step b next differs x j)
split-as a b n first next differs x i j e f k = rw (sym e, f, k) (rest-split a b first differs x i)

ran-parts :
    {c : Carried} {n first : ℕ} {differs : Bool} {x : Expected} {l l' : List ℕ} {at : ℕ} {r : RestRan} (fs : List ℕ) (ds : List ℤ) (es : List ℕ)
    (run : RestRuns c n first differs x l at r l')
    → Parts (rest_step n first differs x (item_of c fs ds es)) (ticked run.ran first c.model).reports
    (rest_step r.left.0 r.next differs x (item_of r.carried fs ds es))
unfolding item_of
ran-parts {c} {n} {first} {differs} {x} {l} {l'} {at} {r} fs ds es run =
    split-as run.ran r.left.0 n first r.next differs x (item_of c fs ds es) (item_of r.carried fs ds es) run.count run.next
    (ran-item c r.carried run.ran first fs ds es run.model run.moment run.recorded run.probes)

begun-went :
    (text : Text) (from : ℕ) (s : State) (ls fs : List ℕ) (ds : List ℤ) (es : List ℕ) (h : Held) (ls' : List ℕ)
    (part : Text) (i : Item) (left next : ℕ) (differs : Bool)
    → s.left.0 ≡ 0 → Holds text from ls s.begun h ls' → h.whole ≡ true
    → let line = take h.begun ls' in
    Parts (step s.number line (item_of s.carried fs ds es)) part (rest_step left next differs (expected_of (line_of line)) i)
    → Went (going_of s ls fs ds es) (drop from text) (length (before_feed (drop from text)) + 1) [] part
    (within (going_of s ls fs ds es) line i left next differs)
unfolding going_of
begun-went text from s ls fs ds es h ls' part i left next differs quiet k w =
    rw k.bytes
    (went-begun 1002 (omega arith) (going_of s ls fs ds es) (drop from text) (quiet-rest s ls fs ds es quiet) (sym k.whole ∙ w) part i left next differs)

state-begun : (s b : State) (t : Turn) (bytes to end left next : ℕ) (differs : Bool) (c : Carried) (ls ls' fs : List ℕ) (ds : List ℤ) (es : List ℕ)
    → Begins s bytes b → LineLeft b to c left next differs end t → 0 < left
    → within (going_of s ls fs ds es) (take bytes ls') (item_of c fs ds es) left next differs ≡ going_of t.state ls' fs ds es
unfolding going_of rest_of
state-begun s b t bytes to end left next differs c ls ls' fs ds es k d h =
    rw (d.number, k.number, d.carried, d.counts, k.counts, d.begun, k.begun, d.left, d.next, d.differs, ne_eqb left 0 (λ e. omega arith))

gone-left :
    (text : Text) (from : ℕ) (s b : State) (ls fs : List ℕ) (ds : List ℤ) (es l : List ℕ) (at : ℕ) (h : Held) (x : Expected) (differs : Bool) (r : RestRan) (t : Turn)
    (ls' l' : List ℕ)
    → s.left.0 ≡ 0 → Holds text from ls s.begun h ls' → h.whole ≡ true → x ≡ expected_of (line_of (take h.begun ls'))
    → TicksGone (step s.number (take h.begun ls') (item_of s.carried fs ds es)) s.carried fs ds es x l at differs r l'
    → Kept (item_of s.carried fs ds es) → Fits s.carried → Begins s h.begun b
    → LineLeft b h.next r.carried r.left.0 r.next differs r.end t → 0 < r.left.0
    → Turns text from s ls fs ds es l at t ls' fs ds es l'
unfolding texts
gone-left text from s b ls fs ds es l at h x differs r t ls' l' quiet k w xe g kept fits begins d some =
    let st = step s.number (take h.begun ls') (item_of s.carried fs ds es) in
    let run = g.run in
    let reports = (ticked run.ran g.first s.carried.model).reports in
    let to : t.taken ≡ from + (length (before_feed (drop from text)) + 1) = d.taken ∙ k.next w in
    let n : length (before_feed (drop from text)) + 1 ≡ t.taken - from = omega (arith, to) in
    let said : reports ++ ending_of r.left.0 differs x ≡ reports = more-text reports r.left.0 differs x some in
    let parts : Parts st (g.head ++ reports) (rest_step r.left.0 r.next differs x (item_of r.carried fs ds es)) =
    parts_then g.parts (ran-parts fs ds es run) in
    record {
      done = [];
      part = g.head ++ reports;
      went =
          went-as n (state-begun s b t h.begun h.next r.end r.left.0 r.next differs r.carried ls ls' fs ds es begins d some)
          (begun-went text from s ls fs ds es h ls' (g.head ++ reports) (item_of r.carried fs ds es) r.left.0 r.next differs quiet k w
          (subst (λ y. Parts st (g.head ++ reports) (rest_step r.left.0 r.next differs y (item_of r.carried fs ds es))) xe parts));
      low = omega (arith, to);
      high = rw d.taken k.high;
      put = rw d.used (puts_then g.put (subst (λ v. Puts g.mid g.place v r.end l') said run.text));
      room = let a = length-append g.head reports in omega (arith, a, gone-room g);
      kept = rw d.carried (ran-kept fs ds es run kept);
      fits = rw d.carried (ran-fits run fits);
      small = λ m z. record {
        number = rw (d.number, begins.number) (omega (arith, z.number));
        moment = rw d.carried (omega (arith, z.moment, run.moment, run.count, g.most));
        counts = rw (d.counts, begins.counts) (few-most z.counts (omega arith));
        left = rw d.left (omega (arith, run.count, g.most));
        next = rw (d.left, d.next) (omega (arith, run.next, run.count, g.last));
        begun = rw (d.begun, begins.begun) k.most;
      };
      outcome = record { whole = λ f. absurd (true≢false (sym f ∙ d.done)); under = λ _. refl };
      alike = d.on ∙ sym d.done;
      quiet = λ f. absurd (true≢false (sym f ∙ d.on));
      over = λ f. absurd (true≢false (sym f ∙ d.on));
      on = λ f z. absurd (true≢false (sym f ∙ d.on));
    }

done-begun : {s b : State} {bytes to end : ℕ} {c : Carried} {adds : Counts} {t : Turn} → Begins s bytes b → LineDone b to c adds end t → LineDone s to c adds end t
done-begun {adds = adds} k d = record {
  number = d.number ∙ ap (λ n. n + 1) k.number;
  carried = d.carried;
  counts = d.counts ∙ ap (λ n. plus (tally_of n) (tally_of adds)) k.counts;
  few = λ n f. d.few n (rw k.counts f);
  begun = d.begun;
  left = d.left;
  next = d.next;
  taken = d.taken;
  used = d.used;
  done = d.done;
  adds = d.adds;
  on = d.on;
}

-- A line of ticks that has ended is begun: it is done, or under way.
pub turns-ticks :
    (text : Text) (from : ℕ) (s b : State) (ls fs : List ℕ) (ds : List ℤ) (es l : List ℕ) (at : ℕ) (h : Held) (x : Expected) (differs : Bool) (r : RestRan) (t : Turn)
    (ls' l' : List ℕ)
    → s.left.0 ≡ 0 → Holds text from ls s.begun h ls' → h.whole ≡ true → x ≡ expected_of (line_of (take h.begun ls'))
    → TicksGone (step s.number (take h.begun ls') (item_of s.carried fs ds es)) s.carried fs ds es x l at differs r l'
    → Kept (item_of s.carried fs ds es) → Fits s.carried → Begins s h.begun b → AfterRest b h.next x r differs t
    → Turns text from s ls fs ds es l at t ls' fs ds es l'
turns-ticks text from s b ls fs ds es l at h x differs r t ls' l' quiet k w xe g kept fits begins after =
    by_eqb r.left.0 0
    (λ e _. turns-line text from s ls fs ds es l at h r.carried t.adds r.end t ls' fs ds es l' quiet k w
    (gone-over s _ fs ds es x l at differs r l' t.adds g kept fits e (after.tally e))
    (done-begun begins (after.done e)))
    (λ n _. gone-left text from s b ls fs ds es l at h x differs r t ls' l' quiet k w xe g kept fits begins (after.left (some n)) (some n))
  where
    some : {n : ℕ} → ¬ (n ≡ 0) → 0 < n
    some {n} z = omega arith

-- ---- `tick` and `at`

pub tick-step : (number : ℕ) (line : Text) (i : Item) (n : ℕ) (x : Expected) → line_of line ≡ Line.call (Call.tick n) x
    → step number line i ≡ told_step 1 x (ticks_told "tick" n n 1 i)
unfolding step line_step result_step call_result
tick-step number line i n x e = rw e

pub at-step : (number : ℕ) (line : Text) (i : Item) (t : ℕ) (x : Expected) → line_of line ≡ Line.call (Call.at t) x → i.moment ≤ t
    → step number line i ≡ told_step 1 x (ticks_told "at" t (t - i.moment) (i.moment + 1) i)
unfolding step line_step result_step call_result at_result
at-step number line i t x e h = rw (e, le-ltb _ _ h)

-- what code ensures of such a line that is begun
pub gone :
    (keyword : String) (word : Text) (st : Step) (c : Carried) (fs : List ℕ) (ds : List ℤ) (es : List ℕ) (number n first : ℕ) (x : Expected) (l : List ℕ) (at : ℕ) (r : TicksBegun) (l' : List ℕ)
    → ascii keyword ++ ascii " " ≡ word → length (ascii keyword) ≤ 4 → st ≡ told_step 1 x (ticks_told keyword number n first (item_of c fs ds es))
    → r.differs ≡ disagrees x (ascii keyword ++ ascii " " ++ decimal number ++ (ticked n first c.model).reports)
    → TicksRun c word number n first x l at r l' → ExpectedBound x → at + 1400 ≤ length l → n < 4294967296 → first + n ≤ 4294967296
    → TicksGone st c fs ds es x l at r.differs r.rest l'
unfolding item_of
gone keyword word st c fs ds es number n first x l at r l' kw short is differ run bound room most last = record {
  n = n;
  first = first;
  head = ascii keyword ++ ascii " " ++ decimal number;
  mid = run.mid;
  place = run.place;
  parts = rw (is, differ) (tick-parts keyword number n first x (item_of c fs ds es));
  put = rw kw run.head;
  run = run.rest;
  bound = bound;
  short = omega (arith, head-room keyword number, short);
  room = room;
  most = most;
  last = last;
}
