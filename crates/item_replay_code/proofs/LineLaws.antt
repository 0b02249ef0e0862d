-- The turn of a line that has ended, by what code ensures of it. Assumes nothing.
use Prim.Native.Nat.{ℕ, ◌+◌, ◌-◌, ◌≤◌, ◌<◌}
use Prim.Native.String.{String}
use native.Mathlib.Omega.{arith}
use mathlib.Core.Bool.{false}
use mathlib.Core.List.{List, [], ◌∷◌, ◌++◌}
use mathlib.Core.Path.{◌≡◌, refl, sym, ap, subst, ◌∙◌}
use lib.IntN.{ℤ}
use lib.ListN.{length, take, length-append}
use borrow.Author.Tests.{lt-ltb}
use Rattle.std.specs.Prelude.{Option}
use Rattle.numeral.specs.Ascii.{ascii}
use Rattle.numeral.specs.Print.{decimal}
use Rattle.text.specs.declared.Span.{Span}
use Rattle.text.specs.Text.{Text, ended, ended_each}
use Rattle.text.specs.OwnPut.{Puts}
use Rattle.text.proofs.Lengths.{decimal-most}
use Rattle.item_page.specs.Page.{page}
use Rattle.item_line.specs.Line.{Fault, Call, Expected, Line}
use Rattle.item_line.specs.Reading.{line_of}
use Rattle.item_line.specs.OwnBounds.{CallBound, ExpectedBound, LineBound}
use Rattle.item_line.specs.declared.LineRead.{LineRead}
use Rattle.item_line.specs.OwnRead.{as_expected, as_line}
use Rattle.item_line.proofs.Bounds.{line-bound}
use Rattle.item_answer.specs.declared.Carried.{Carried}
use Rattle.item_answer.specs.declared.Counts.{Counts}
use Rattle.item_answer.specs.declared.Stepped.{Stepped}
use Rattle.item_answer.specs.Words.{fault_text, fault_line}
use Rattle.item_answer.specs.Answer.{Item, ticked, ticks_told, at_result, call_result}
use Rattle.item_answer.specs.Step.{Tally, no_tally, step, line_step, bad_step, result_step, told_step, disagrees}
use Rattle.item_answer.specs.OwnView.{item_of, tally_of}
use Rattle.item_answer.specs.OwnKept.{Kept}
use Rattle.item_answer.specs.OwnRoom.{is_ticks}
use Rattle.item_answer.proofs.Adds.{step-few, Few as FewAdded}
use Rattle.item_answer.proofs.Kept.{step_kept}
use Rattle.item_answer.proofs.Room.{step_room}
use Rattle.item_keep_code.specs.OwnJudged.{bad_tally}
use Rattle.item_answer_code.specs.OwnSteps.{Steps, Ready, is_show}
use Rattle.item_replay.specs.Going.{expected_of}
use Rattle.item_replay_code.specs.declared.State.{State}
use Rattle.item_replay_code.specs.declared.Turn.{Turn}
use Rattle.item_replay_code.specs.declared.Held.{Held}
use Rattle.item_replay_code.specs.declared.Sort.{Sort}
use Rattle.item_replay_code.specs.OwnRest.{TicksRun}
use Rattle.item_replay_code.specs.OwnState.{Fits, Few}
use Rattle.item_replay_code.specs.OwnTurn.{LineDone, LineAnswered, Bounded, Begins, TicksTurn, Under}
use Rattle.item_replay_code.specs.OwnLine.{OfSort, Sorts, LineReady, LineAsks, LineTurns}
use Rattle.item_replay_code.proofs.PieceLaws.{turns-line, answered, tick-step, at-step, gone, turns-ticks}

-- ---- what a line expects, and its number

expected-bound : (line : Line) → LineBound line → ExpectedBound (expected_of line)
unfolding expected_of
expected-bound Line.silent b = ExpectedBound.unmarked
expected-bound (Line.bad f) b = ExpectedBound.unmarked
expected-bound (Line.item name) b = ExpectedBound.unmarked
expected-bound Line.show b = ExpectedBound.unmarked
expected-bound (Line.expect a ws) b = ExpectedBound.unmarked
expected-bound (Line.read a ws) b = ExpectedBound.unmarked
expected-bound (Line.call c x) (LineBound.call h k) = k
expected-bound (Line.ask a x) (LineBound.ask k) = k
expected-bound (Line.keep k x) (LineBound.keep h b) = b

-- what a call says of itself
call-expected : (line : Text) (call : Call) (x : Expected) → line_of line ≡ Line.call call x → x ≡ expected_of (line_of line)
unfolding expected_of
call-expected line call x e = rw e

call-bound : (line : Text) (call : Call) (x : Expected) → line_of line ≡ Line.call call x → ExpectedBound x
call-bound line call x e =
    subst ExpectedBound (sym (call-expected line call x e)) (expected-bound (line_of line) (line-bound line))

counted : {line : Line} {call : Call} {x : Expected} → line ≡ Line.call call x → LineBound line → LineBound (Line.call call x)
counted e b = subst LineBound e b

tick-most : {n : ℕ} {x : Expected} → LineBound (Line.call (Call.tick n) x) → n < 4294967296
tick-most (LineBound.call (CallBound.tick h) k) = h

at_most : {n : ℕ} {x : Expected} → LineBound (Line.call (Call.at n) x) → n < 4294967296
at_most (LineBound.call (CallBound.at h) k) = h

pub tick-bound : (line : Text) {n : ℕ} {x : Expected} → line_of line ≡ Line.call (Call.tick n) x → n < 4294967296
tick-bound line e = tick-most (counted e (line-bound line))

pub at_bound : (line : Text) {n : ℕ} {x : Expected} → line_of line ≡ Line.call (Call.at n) x → n < 4294967296
at_bound line e = at_most (counted e (line-bound line))

-- ---- a line that is answered at once

few-of : {c : Counts} {t : Tally} → tally_of c ≡ t → FewAdded t → Few c 80
unfolding tally_of
few-of {c} e f =
    let g : FewAdded (tally_of c) = subst FewAdded (sym e) f in
    record {
      calls = g.calls;
      refused = g.refused;
      unannounced = g.unannounced;
      bad = g.bad;
      expectations = g.expectations;
      differ = g.differ;
    }

-- Of a line that is not counted, and of a bad line.
pub none-few : {c : Counts} → tally_of c ≡ no_tally → Few c 80
none-few e =
    few-of e
    record {
      calls = omega arith;
      refused = omega arith;
      unannounced = omega arith;
      bad = omega arith;
      expectations = omega arith;
      differ = omega arith;
    }

pub bad-few : {c : Counts} → tally_of c ≡ bad_tally → Few c 80
bad-few e =
    few-of e
    record {
      calls = omega arith;
      refused = omega arith;
      unannounced = omega arith;
      bad = omega arith;
      expectations = omega arith;
      differ = omega arith;
    }

-- What it adds is little.
pub answered-few :
    {s : State} (line : Text) (i : Item) {l : List ℕ} {at : ℕ} {c : Carried} {adds : Counts} {end : ℕ} {fs : List ℕ} {ds : List ℤ} {es l' : List ℕ}
    → LineAnswered (step s.number line i) s l at c adds end fs ds es l' → Few adds 80
answered-few {s} line i a = few-of a.adds (step-few s.number line i)

pub line-turns :
    {s : State} {h : Held} {line : Text} {fs : List ℕ} {ds : List ℤ} {es l : List ℕ} {at : ℕ} {c : Carried} {adds : Counts} {end : ℕ} {t : Turn}
    {fs' : List ℕ} {ds' : List ℤ} {es' l' : List ℕ}
    → LineReady s h → LineAnswered (step s.number line (item_of s.carried fs ds es)) s l at c adds end fs' ds' es' l'
    → LineDone s h.next c adds end t → LineTurns s h line fs ds es l at t fs' ds' es' l'
line-turns {s} {h} {line} {fs} {ds} {es} {l} {at} {c} {adds} {end} {t} {fs'} {ds'} {es'} {l'} r a d = record {
  any = λ text from ls ls' k e.
      turns-line text from s ls fs ds es l at h c adds end t ls' fs' ds' es' l' r.quiet k r.whole
      (subst (λ w. LineAnswered (step s.number w (item_of s.carried fs ds es)) s l at c adds end fs' ds' es' l') (sym e) a)
      d;
}

-- what `answer_line` ensures
pub steps-answered :
    {s : State} (line : Text) (said : Line) (fs : List ℕ) (ds : List ℤ) (es : List ℕ) {l : List ℕ} {at : ℕ} {r : Stepped} {fs' : List ℕ} {ds' : List ℤ} {es' l' : List ℕ}
    → said ≡ line_of line → is_ticks (line_of line) ≡ false → Kept (item_of s.carried fs ds es) → at + 100000 ≤ length l
    → Steps (line_step s.number said (item_of s.carried fs ds es)) l at r fs' ds' es' l'
    → LineAnswered (step s.number line (item_of s.carried fs ds es)) s l at r.carried r.adds r.end fs' ds' es' l'
unfolding step
steps-answered {s} line said fs ds es {l} {at} {r} {fs'} {ds'} {es'} {l'} e quick kept room k =
    let i = item_of s.carried fs ds es in
    let p : Steps (step s.number line i) l at r fs' ds' es' l' =
    subst (λ w. Steps (line_step s.number w i) l at r fs' ds' es' l') e k in
    answered s line fs ds es l at r.carried r.adds r.end fs' ds' es' l' p.text p.item p.adds p.few.recorded p.few.probes
    (step_kept s.number line i kept)
    (step_room s.number line i kept quick)
    (omega (arith, room))

-- `show`
show-quick : (line : Text) → line_of line ≡ Line.show → is_ticks (line_of line) ≡ false
unfolding is_ticks
show-quick line e = rw e

show-step : (number : ℕ) (line : Text) (i : Item) → line_of line ≡ Line.show
    → step number line i ≡ record { text = ended_each (page i.model); item = i; adds = no_tally }
unfolding step line_step
show-step number line i e = rw e

-- A line that puts a text and leaves the item as it is.
same-answered :
    {s : State} (line : Text) {fs : List ℕ} {ds : List ℤ} {es l : List ℕ} {at : ℕ} {said : Text} {tally : Tally} {adds : Counts} {end : ℕ} {l' : List ℕ}
    → step s.number line (item_of s.carried fs ds es) ≡ record { text = said; item = item_of s.carried fs ds es; adds = tally }
    → length said ≤ 98304 → Kept (item_of s.carried fs ds es) → Fits s.carried → at + 100000 ≤ length l
    → Puts l at said end l' → tally_of adds ≡ tally
    → LineAnswered (step s.number line (item_of s.carried fs ds es)) s l at s.carried adds end fs ds es l'
same-answered {s} line {fs} {ds} {es} {l} {at} {said} {tally} {adds} {end} {l'} e most kept fits room p t = rw e record {
  text = p;
  room = omega (arith, most, room);
  item = refl;
  adds = t;
  kept = kept;
  fits = fits;
  moment = omega arith;
}

pub show-answered :
    {s : State} (line : Text) {fs : List ℕ} {ds : List ℤ} {es l : List ℕ} {at : ℕ} {adds : Counts} {end : ℕ} {l' : List ℕ}
    → line_of line ≡ Line.show → Kept (item_of s.carried fs ds es) → Fits s.carried → at + 100000 ≤ length l
    → Puts l at (ended_each (page s.carried.model)) end l' → tally_of adds ≡ no_tally
    → LineAnswered (step s.number line (item_of s.carried fs ds es)) s l at s.carried adds end fs ds es l'
unfolding item_of
show-answered {s} line {fs} {ds} {es} e kept fits room p t =
    let i = item_of s.carried fs ds es in
    let is = show-step s.number line i e in
    same-answered line is (subst (λ w. length w.text ≤ 98304) is (step_room s.number line i kept (show-quick line e))) kept fits room p t

-- `at` with a moment that is past
past-step : (number : ℕ) (line : Text) (i : Item) (t : ℕ) (x : Expected) → line_of line ≡ Line.call (Call.at t) x → t < i.moment
    → step number line i ≡ record {
      text = ended (fault_line number Fault.past);
      item = i;
      adds = bad_tally;
    }
unfolding step line_step result_step call_result at_result bad_step
past-step number line i t x e h = rw (e, lt-ltb _ _ h)

past-most : (number : ℕ) → length (ended (fault_line number Fault.past)) ≤ 98304
unfolding ended fault_line fault_text ascii
past-most number = simp length-append (omega (arith, decimal-most number))

pub past-answered :
    {s : State} (line : Text) {t : ℕ} {x : Expected} {fs : List ℕ} {ds : List ℤ} {es l : List ℕ} {at : ℕ} {adds : Counts} {end : ℕ} {l' : List ℕ}
    → line_of line ≡ Line.call (Call.at t) x → t < s.carried.moment → Kept (item_of s.carried fs ds es) → Fits s.carried
    → at + 100000 ≤ length l → Puts l at (ended (fault_line s.number Fault.past)) end l'
    → tally_of adds ≡ bad_tally
    → LineAnswered (step s.number line (item_of s.carried fs ds es)) s l at s.carried adds end fs ds es l'
unfolding item_of
past-answered {s} line {t} {x} {fs} {ds} {es} e h kept fits room p tally =
    same-answered line (past-step s.number line (item_of s.carried fs ds es) t x e h) (past-most s.number) kept fits room p tally

-- ---- `tick` and `at`

-- the state with the bytes of a line is as small
pub begins-bounded : {s b : State} {bytes : ℕ} → Begins s bytes b → bytes ≤ 1002 → Bounded s → Bounded b
begins-bounded k most z =
    let y = z.small in
    record {
      lines = z.lines;
      most = z.most;
      small = record {
        number = rw k.number y.number;
        moment = rw k.carried y.moment;
        counts = rw k.counts y.counts;
        left = rw k.left y.left;
        next = rw (k.next, k.left) y.next;
        begun = rw k.begun most;
      };
    }

ticks-turns :
    (keyword : String) (word : Text) {s b : State} {h : Held} {line : Text} {call : Call} {number n first : ℕ} {x : Expected} {l : List ℕ} {at : ℕ} {t : Turn} {l' : List ℕ}
    {fs : List ℕ} {ds : List ℤ} {es : List ℕ}
    → ascii keyword ++ ascii " " ≡ word → length (ascii keyword) ≤ 4 → line_of line ≡ Line.call call x
    → step s.number line (item_of s.carried fs ds es) ≡ told_step 1 x (ticks_told keyword number n first (item_of s.carried fs ds es))
    → n < 4294967296 → first + n ≤ 4294967296 → LineReady s h → Begins s h.begun b → at + 100000 ≤ length l
    → (run : TicksTurn b h.next word number n first x l at t l')
    → run.begun.differs ≡ disagrees x (ascii keyword ++ ascii " " ++ decimal number ++ (ticked n first b.carried.model).reports)
    → Kept (item_of s.carried fs ds es)
    → LineTurns s h line fs ds es l at t fs ds es l'
ticks-turns keyword word {s} {b} {h} {line} {call} {number} {n} {first} {x} {l} {at} {t} {l'} {fs} {ds} {es} kw short says is most last ready begins room run differ kept =
    let i = item_of s.carried fs ds es in
    let start = run.begun in
    let c = begins.carried in
    let ran : TicksRun s.carried word number n first x l at start l' = subst (λ d. TicksRun d word number n first x l at start l') c run.run in
    let other : start.differs ≡ disagrees x (ascii keyword ++ ascii " " ++ decimal number ++ (ticked n first s.carried.model).reports) =
    subst (λ d. start.differs ≡ disagrees x (ascii keyword ++ ascii " " ++ decimal number ++ (ticked n first d.model).reports)) c differ in
    let went =
    gone keyword word (step s.number line i) s.carried fs ds es number n first x l at start l' kw short is other ran (call-bound line call x says)
    (omega (arith, room)) most last in
    record {
      any = λ text from ls ls' k e.
          turns-ticks text from s b ls fs ds es l at h x start.differs start.rest t ls' l' ready.quiet k ready.whole
          (rw e (call-expected line call x says))
          (rw e went)
          kept ready.fits begins run.after;
    }

tick-word : ascii "tick" ++ ascii " " ≡ 116 ∷ 105 ∷ 99 ∷ 107 ∷ 32 ∷ []
unfolding ascii
tick-word = refl

at-word : ascii "at" ++ ascii " " ≡ 97 ∷ 116 ∷ 32 ∷ []
unfolding ascii
at-word = refl

tick-short : length (ascii "tick") ≤ 4
unfolding ascii
tick-short = omega arith

at-short : length (ascii "at") ≤ 4
unfolding ascii
at-short = omega arith

pub tick-turns :
    {s b : State} {h : Held} {line : Text} {n : ℕ} {x : Expected} {l : List ℕ} {at : ℕ} {t : Turn} {l' : List ℕ} {fs : List ℕ} {ds : List ℤ} {es : List ℕ}
    → line_of line ≡ Line.call (Call.tick n) x → LineReady s h → Begins s h.begun b → at + 100000 ≤ length l
    → TicksTurn b h.next (116 ∷ 105 ∷ 99 ∷ 107 ∷ 32 ∷ []) n n 1 x l at t l' → Kept (item_of s.carried fs ds es)
    → LineTurns s h line fs ds es l at t fs ds es l'
tick-turns {s} {b} {h} {line} {n} {x} {l} {at} {t} {l'} {fs} {ds} {es} says ready begins room run kept =
    let most = tick-bound line says in
    ticks-turns "tick" _ tick-word tick-short says (tick-step s.number line (item_of s.carried fs ds es) n x says) most (omega (arith, most))
    ready begins room run run.run.differs.tick kept

at_first : (s : State) (line : Text) (t : ℕ) (x : Expected) (fs : List ℕ) (ds : List ℤ) (es : List ℕ) → line_of line ≡ Line.call (Call.at t) x → s.carried.moment ≤ t
    → step s.number line (item_of s.carried fs ds es)
    ≡ told_step 1 x (ticks_told "at" t (t - s.carried.moment) (s.carried.moment + 1) (item_of s.carried fs ds es))
unfolding item_of
at_first s line t x fs ds es says h = at-step s.number line (item_of s.carried fs ds es) t x says h

pub at-turns :
    {s b : State} {h : Held} {line : Text} {to n first : ℕ} {x : Expected} {l : List ℕ} {at : ℕ} {t : Turn} {l' : List ℕ} {fs : List ℕ} {ds : List ℤ} {es : List ℕ}
    → line_of line ≡ Line.call (Call.at to) x → s.carried.moment ≤ to → n ≡ to - s.carried.moment → first ≡ s.carried.moment + 1
    → LineReady s h → Begins s h.begun b → at + 100000 ≤ length l
    → TicksTurn b h.next (97 ∷ 116 ∷ 32 ∷ []) to n first x l at t l' → Kept (item_of s.carried fs ds es)
    → LineTurns s h line fs ds es l at t fs ds es l'
at-turns {s} {b} {h} {line} {to} {n} {first} {x} {l} {at} {t} {l'} {fs} {ds} {es} says low count one ready begins room run kept =
    let most = at_bound line says in
    ticks-turns "at" _ at-word at-short says (rw (count, one) (at_first s line to x fs ds es says low)) (omega (arith, most, count))
    (omega (arith, most, count, one, low))
    ready begins room run run.run.differs.at kept

-- ---- a line by its sort

pub sorted : (said : LineRead) (r : Sort) (text : Text) (numbers : List ℕ) → Sorts said r → as_line text numbers said ≡ line_of text → OfSort (line_of text) text r
sorted said r text numbers k e = subst (λ w. OfSort w text r) e (k text numbers)

pub asks-ready : {s : State} {h : Held} {fs : List ℕ} {ds : List ℤ} {es : List ℕ} (line : Text) → LineAsks s h fs ds es
    → is_ticks (line_of line) ≡ false → is_show (line_of line) ≡ false → Ready (line_of line) s.carried fs ds es
asks-ready line a ticks page =
    let f = a.ready.fits in
    let b = a.ready.bounded in
    record {
      sound = f.sound;
      bound = line-bound line;
      ticks = ticks;
      page = page;
      flash = a.flash;
      differences = a.differences;
      entries = a.entries;
      few = record { recorded = f.recorded; probes = f.probes };
      moment = omega (arith, b.most, b.small.moment);
    }

pub under : {s : State} {ls bytes : Text} (numbers : List ℕ) (said : LineRead) (x : Option Span) → 0 < s.left.0 → Fits s.carried → Bounded s
    → bytes ≡ take s.begun ls → as_line bytes numbers said ≡ line_of bytes
    → ((text : Text) (numbers : List ℕ) → as_expected text x ≡ expected_of (as_line text numbers said))
    → Under s ls (as_expected (take s.begun ls) x)
under {s} {ls} {bytes} numbers said x some fits bounded is read say =
    let e : as_expected bytes x ≡ expected_of (line_of bytes) = say bytes numbers ∙ ap expected_of read in
    let f : as_expected (take s.begun ls) x ≡ expected_of (line_of (take s.begun ls)) =
    subst (λ w. as_expected w x ≡ expected_of (line_of w)) is e in
    record {
      left = some;
      fits = fits;
      bounded = bounded;
      expected = f;
      bound = subst ExpectedBound (sym f) (expected-bound _ (line-bound (take s.begun ls)));
    }
