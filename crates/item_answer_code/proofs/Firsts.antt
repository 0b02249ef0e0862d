-- The first lines of answers, as their items have them. Assumes nothing.
use Prim.Native.Nat.{ℕ, suc, ◌+◌, ◌≤◌, ◌<◌, min}
use mathlib.Core.Bool.{Bool, true, false}
use mathlib.Core.List.{List, [], ◌∷◌}
use mathlib.Core.Path.{◌≡◌, refl, sym, ap, ◌∙◌}
use native.Mathlib.Omega.{arith}
use types.Run.{OneOf, miss}
use denote.Enum.Declared.{tag_of}
use lib.Dec.{ltb}
use lib.IntN.{ℤ, pos}
use lib.ListN.{length, take, replicate, length-take, length-replicate}
use Rattle.std.specs.Prelude.{Option}
use Rattle.unit.specs.declared.Ticks.{Ticks}
use Rattle.listing.specs.declared.Width.{Width}
use Rattle.device.specs.declared.Answer.{Answer}
use Rattle.device.specs.declared.Model.{Model}
use Rattle.text.specs.declared.Span.{Span}
use Rattle.text.specs.OwnPut.{Puts}
use Rattle.item_line.specs.Line.{Call, Ask, Expected, Line}
use Rattle.item_line.specs.OwnBounds.{CallBound, LineBound}
use Rattle.item_line.specs.declared.CallRead.{CallRead}
use Rattle.item_line.specs.contracts.CallRead.{the_type}
use Rattle.item_line.specs.OwnRead.{as_call, as_line}
use Rattle.item_line.specs.declared.LineRead.{LineRead}
use Rattle.item_answer.specs.declared.Carried.{Carried}
use Rattle.item_answer.specs.declared.Stepped.{Stepped}
use Rattle.item_answer.specs.Step.{Step}
use Rattle.item_answer.specs.Answer.{Item, fresh_item, Told, told, bus_told, set_told, transaction_told, stretch_told, is_refusal, delivery_told, frames_told, listing_told, ticks_told, at_result, call_result, ask_told}
use Rattle.item_answer.specs.OwnView.{item_of}
use Rattle.item_answer.specs.OwnRoom.{runs_ticks, is_ticks}
use Rattle.item_chip_code.specs.declared.Answered.{Answered}
use Rattle.item_chip_code.specs.OwnAnswered.{Answers, stretch_line, ask_further}
use Rattle.item_chip_code.specs.OwnCompared.{Steps as Compared}
use Rattle.item_keep_code.specs.declared.Answered.{Answered as Put}
use Rattle.item_keep_code.specs.OwnAnswered.{AnswersFor, FurtherFor}
use Rattle.item_keep_code.specs.OwnFresh.{Fresh}
use Rattle.item_keep_code.proofs.Alone.{degrees-alone, quietest-alone}
use Rattle.item_answer_code.specs.OwnSteps.{Few, Ready, Steps, is_show}
use Rattle.item_answer_code.specs.OwnFirst.{First, CallReady, told_in, call_told}

-- Where a place is taken of a longer list as another is, it is no later than that.
within : {A : Type 0} (x : A) (n a b : ℕ) → take a (replicate (suc n) x) ≡ take b (replicate (suc n) x) → b ≤ n → a ≤ n
within x n a b e h =
    let sizes : min a (suc n) ≡ min b (suc n) = sym (length-take a (replicate (suc n) x) ∙ rw length-replicate) ∙ ap length e ∙ (length-take b (replicate (suc n) x) ∙ rw length-replicate) in
    omega arith

-- A line that speaks to the chip and leaves the record and the probe table as they are.
pub chip-first : {telling : Item → Told} {c : Carried} {fs fs' l l' : List ℕ} {at : ℕ} {r : Answered} {ds : List ℤ} {es : List ℕ} {t : Told}
    → Answers telling c fs l at r fs' l' → Few c → ((i : Item) → (telling i).item.recorded ≡ i.recorded) → ((i : Item) → (telling i).item.probes ≡ i.probes)
    → t ≡ telling (item_of c fs ds es) → First t l at r fs' ds es l'
unfolding item_of
chip-first {telling} {c} {fs} {fs'} {l} {l'} {at} {r} {ds} {es} {t} a few recorded probes same = record {
  line = rw same (a.line ds es);
  item = rw same (a.item ds es);
  refused = rw same (a.refused ds es);
  few = record {
    recorded = within (pos 0) 4096 r.carried.recorded c.recorded (ap (λ (i : Item). i.recorded) (a.item (replicate 4097 (pos 0)) es) ∙ recorded (item_of c fs (replicate 4097 (pos 0)) es)) few.recorded;
    probes = within 0 1024 r.carried.probes c.probes (ap (λ (i : Item). i.probes) (a.item ds (replicate 1025 0)) ∙ probes (item_of c fs ds (replicate 1025 0))) few.probes;
  };
}

-- A line that leaves its item as it is.
pub keep-first : {has : Item → Type 0} {telling : Item → Told} {c : Carried} {l l' : List ℕ} {at : ℕ} {r : Put} {fs : List ℕ} {ds : List ℤ} {es : List ℕ} {t : Told}
    → Few c → AnswersFor has l at telling r l' → has (item_of c fs ds es) → t ≡ telling (item_of c fs ds es)
    → First t l at (record { carried = c; end = r.end; refused = r.refused }) fs ds es l'
keep-first {has} {telling} {c} {l} {l'} {at} {r} {fs} {ds} {es} few a h same =
    let p = a (item_of c fs ds es) h in record {
      line = rw same p.line;
      item = sym (ap (λ (u : Told). u.item) same ∙ p.item);
      refused = rw same p.refused;
      few = few;
    }

-- A fresh item.
pub fresh-few : {c : Carried} (fs : List ℕ) → Fresh c fs → Few c
unfolding item_of fresh_item
fresh-few {c} fs f = record {
  recorded = within (pos 0) 4096 c.recorded 0 (ap (λ (i : Item). i.recorded) (f (replicate 4097 (pos 0)) [])) (omega arith);
  probes = within 0 1024 c.probes 0 (ap (λ (i : Item). i.probes) (f [] (replicate 1025 0))) (omega arith);
}

-- ---- calls

-- Every call but `tick` and `at` is answered.
pub call-told : (call : Call) (i : Item) → runs_ticks call ≡ false → call_result call i ≡ told (call_told call i)
unfolding call_told call_result runs_ticks told_in
call-told (Call.bus output bytes) i h = refl
call-told (Call.set a ws) i h = refl
call-told (Call.tick n) i h = absurd (let z : ◌≡◌ {A = ℕ} 0 1 = cc in omega arith)
call-told (Call.at t) i h = absurd (let z : ◌≡◌ {A = ℕ} 0 1 = cc in omega arith)
call-told (Call.stretch n) i h = refl
call-told (Call.flight up down) i h = refl
call-told (Call.temperature ws) i h = refl
call-told Call.frames i h = refl
call-told (Call.degrees a b) i h = refl
call-told (Call.listing width first) i h = refl
call-told (Call.quietest width) i h = refl

-- The items that the chip's calls leave.
module _ (n : ℕ) where
  stretched : (a : Answer) (m : Model) (i : Item) (b : Bool) → is_refusal a ≡ b → (stretch_told n a m i).item.recorded ≡ i.recorded
  unfolding stretch_told
  stretched a m i true e = rw e
  stretched a m i false e = rw e

  stretched-probes : (a : Answer) (m : Model) (i : Item) (b : Bool) → is_refusal a ≡ b → (stretch_told n a m i).item.probes ≡ i.probes
  unfolding stretch_told
  stretched-probes a m i true e = rw e
  stretched-probes a m i false e = rw e

  stretched-further : (a : Answer) (m : Model) (i : Item) (b : Bool) → is_refusal a ≡ b → (stretch_told n a m i).further ≡ []
  unfolding stretch_told
  stretched-further a m i true e = rw e
  stretched-further a m i false e = rw e

  pub stretch-recorded : (i : Item) → (stretch_line n i).item.recorded ≡ i.recorded
  unfolding stretch_line
  stretch-recorded i = stretched _ _ i _ refl

  pub stretch-probes : (i : Item) → (stretch_line n i).item.probes ≡ i.probes
  unfolding stretch_line
  stretch-probes i = stretched-probes _ _ i _ refl

-- ---- the lines after the first

at-further : (t : ℕ) (i : Item) (b : Bool) → ltb t i.moment ≡ b → (told_in i (at_result t i)).further ≡ []
unfolding at_result told_in ticks_told
at-further t i true e = rw e
at-further t i false e = rw e

abbrev others : List ℕ
others = 0 ∷ 1 ∷ 2 ∷ 3 ∷ 4 ∷ 5 ∷ 6 ∷ 8 ∷ 10 ∷ []

-- Calls but `frames` and `listing` have none.
pub no-further : (said : CallRead) (ns : List ℕ) (i : Item) → OneOf others (tag_of the_type said) → (call_told (as_call ns said) i).further ≡ []
unfolding call_told call_result told_in as_call bus_told set_told transaction_told delivery_told ticks_told
no-further (CallRead.Bus output n) ns i h = refl
no-further (CallRead.Set a n) ns i h = refl
no-further (CallRead.Tick n) ns i h = refl
no-further (CallRead.At t) ns i h = at-further t.0 i _ refl
no-further (CallRead.Stretch n) ns i h = stretched-further n.0 _ _ i _ refl
no-further (CallRead.Flight up down) ns i h = refl
no-further (CallRead.Temperature n) ns i h = refl
no-further CallRead.Frames ns i h = absurd (miss others 7 tt h)
no-further CallRead.Degrees ns i h = degrees-alone _ i
no-further (CallRead.Listing width first) ns i h = absurd (miss others 9 tt h)
no-further (CallRead.Quietest width) ns i h = quietest-alone width _ i

-- `frames` and `listing` have their own.
module _ (c : Carried) (ds : List ℤ) {l l' : List ℕ} {at r : ℕ} where
  pub frames-further : FurtherFor (λ i. i.model ≡ c.model) l at frames_told r l' → (ns fs es : List ℕ)
      → Puts l at (call_told (as_call ns CallRead.Frames) (item_of c fs ds es)).further r l'
  unfolding call_told call_result told_in as_call item_of
  frames-further f ns fs es = f (item_of c fs ds es) refl

  pub listing-further : (width : Width) (first : ℕ) {kept : List ℤ} → FurtherFor (λ i. i.recorded ≡ kept) l at (listing_told width first) r l'
      → kept ≡ take c.recorded ds → (ns fs es : List ℕ)
      → Puts l at (call_told (as_call ns (CallRead.Listing width first)) (item_of c fs ds es)).further r l'
  unfolding call_told call_result told_in as_call item_of
  listing-further width first f same ns fs es = f (item_of c fs ds es) (sym same)

-- A stretch is short enough for the moment.
stretch-small : {n : ℕ} → CallBound (Call.stretch n) → n < 4294967296
stretch-small (CallBound.stretch h) = h

pub stretch-ready : (ns : List ℕ) (n : Ticks) (c : Carried) → CallReady (as_call ns (CallRead.Stretch n)) c → c.moment + n.0 < 18446744073709551616
unfolding as_call
stretch-ready ns n c r = omega (arith, r.moment, stretch-small r.bound)

-- No bool is both.
pub no_both : {G : Type 0} (b : Bool) → b ≡ true → b ≡ false → G
no_both true p q = let z : ◌≡◌ {A = ℕ} 0 1 = cc in absurd (omega arith)
no_both false p q = let z : ◌≡◌ {A = ℕ} 0 1 = cc in absurd (omega arith)

-- `tick` and `at` run ticks.
pub tick-runs : {G : Type 0} (said : CallRead) (ns : List ℕ) → OneOf (2 ∷ []) (tag_of the_type said) → runs_ticks (as_call ns said) ≡ false → G
unfolding as_call runs_ticks
tick-runs (CallRead.Bus output n) ns h e = absurd (miss (2 ∷ []) 0 tt h)
tick-runs (CallRead.Set a n) ns h e = absurd (miss (2 ∷ []) 1 tt h)
tick-runs (CallRead.Tick n) ns h e = no_both true refl e
tick-runs (CallRead.At t) ns h e = absurd (miss (2 ∷ []) 3 tt h)
tick-runs (CallRead.Stretch n) ns h e = absurd (miss (2 ∷ []) 4 tt h)
tick-runs (CallRead.Flight up down) ns h e = absurd (miss (2 ∷ []) 5 tt h)
tick-runs (CallRead.Temperature n) ns h e = absurd (miss (2 ∷ []) 6 tt h)
tick-runs CallRead.Frames ns h e = absurd (miss (2 ∷ []) 7 tt h)
tick-runs CallRead.Degrees ns h e = absurd (miss (2 ∷ []) 8 tt h)
tick-runs (CallRead.Listing width first) ns h e = absurd (miss (2 ∷ []) 9 tt h)
tick-runs (CallRead.Quietest width) ns h e = absurd (miss (2 ∷ []) 10 tt h)

pub at-runs : {G : Type 0} (said : CallRead) (ns : List ℕ) → OneOf (3 ∷ []) (tag_of the_type said) → runs_ticks (as_call ns said) ≡ false → G
unfolding as_call runs_ticks
at-runs (CallRead.Bus output n) ns h e = absurd (miss (3 ∷ []) 0 tt h)
at-runs (CallRead.Set a n) ns h e = absurd (miss (3 ∷ []) 1 tt h)
at-runs (CallRead.Tick n) ns h e = absurd (miss (3 ∷ []) 2 tt h)
at-runs (CallRead.At t) ns h e = no_both true refl e
at-runs (CallRead.Stretch n) ns h e = absurd (miss (3 ∷ []) 4 tt h)
at-runs (CallRead.Flight up down) ns h e = absurd (miss (3 ∷ []) 5 tt h)
at-runs (CallRead.Temperature n) ns h e = absurd (miss (3 ∷ []) 6 tt h)
at-runs CallRead.Frames ns h e = absurd (miss (3 ∷ []) 7 tt h)
at-runs CallRead.Degrees ns h e = absurd (miss (3 ∷ []) 8 tt h)
at-runs (CallRead.Listing width first) ns h e = absurd (miss (3 ∷ []) 9 tt h)
at-runs (CallRead.Quietest width) ns h e = absurd (miss (3 ∷ []) 10 tt h)

-- ---- questions

pub ask-item : (a : Ask) (i : Item) → (ask_told a i).item ≡ i
unfolding ask_told
ask-item Ask.int i = refl
ask-item Ask.awaited i = refl
ask-item Ask.regs i = refl

pub ask-further : (a : Ask) (i : Item) → (ask_told a i).further ≡ ask_further a i.model
unfolding ask_told ask_further
ask-further Ask.int i = refl
ask-further Ask.awaited i = refl
ask-further Ask.regs i = refl

-- ---- `expect` and `read`

-- What they leave, as a step; the record and the probe table stay.
pub compared-steps : {step : Item → Step} {c : Carried} {fs fs' l l' : List ℕ} {at : ℕ} {r : Stepped} {ds : List ℤ} {es : List ℕ} {s : Step}
    → Compared step c fs l at r fs' l' → Few c → ((i : Item) → (step i).item.recorded ≡ i.recorded) → ((i : Item) → (step i).item.probes ≡ i.probes)
    → s ≡ step (item_of c fs ds es) → Steps s l at r fs' ds es l'
unfolding item_of
compared-steps {step} {c} {fs} {fs'} {l} {l'} {at} {r} {ds} {es} {s} a few recorded probes same = record {
  text = rw same (a.text ds es);
  item = rw same (a.item ds es);
  adds = λ h. rw same (a.adds ds es);
  few = record {
    recorded = within (pos 0) 4096 r.carried.recorded c.recorded (ap (λ (i : Item). i.recorded) (a.item (replicate 4097 (pos 0)) es) ∙ recorded (item_of c fs (replicate 4097 (pos 0)) es)) few.recorded;
    probes = within 0 1024 r.carried.probes c.probes (ap (λ (i : Item). i.probes) (a.item ds (replicate 1025 0)) ∙ probes (item_of c fs ds (replicate 1025 0))) few.probes;
  };
}

-- ---- what a line asks for

of-call : {call : Call} {x : Expected} → LineBound (Line.call call x) → CallBound call
of-call (LineBound.call b e) = b

pub call-ready : (ns ts : List ℕ) (kind : CallRead) (x : Option Span) {c : Carried} {fs : List ℕ} {ds : List ℤ} {es : List ℕ}
    → Ready (as_line ts ns (LineRead.Call kind x)) c fs ds es → CallReady (as_call ns kind) c
unfolding as_line is_ticks
call-ready ns ts kind x r = record { sound = r.sound; bound = of-call r.bound; ticks = r.ticks; few = r.few; moment = r.moment }

-- `show` is answered elsewhere.
pub shown-elsewhere : {G : Type 0} (ts ns : List ℕ) {c : Carried} {fs : List ℕ} {ds : List ℤ} {es : List ℕ} → Ready (as_line ts ns LineRead.Show) c fs ds es → G
unfolding as_line is_show
shown-elsewhere ts ns r = no_both true refl r.page
