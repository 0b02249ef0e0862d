-- A line that moves the model leaves on the page what it tells. Assumes nothing.
use Prim.Native.Nat.{ℕ, ◌-◌, ◌<◌, min}
use mathlib.Core.Path.{◌≡◌, refl, sym, ap, ◌∙◌}
use mathlib.Core.Bool.{Bool, true, false, cond}
use mathlib.Core.List.{List, [], ◌∷◌, ◌++◌, append-nil}
use native.Mathlib.Omega.{arith}
use lib.Dec.{eqb}
use lib.ListN.{length, get_or, set, length-set}
use lib.Seq.{set_comm, get_or-set_other}
use Rattle.numeral.specs.Place.{put_each}
use Rattle.device.specs.declared.Model.{Model}
use Rattle.device.specs.declared.Answer.{Answer}
use Rattle.device.specs.declared.Answer.TheVariants.{Refused, Accepted, Ticked, Stretched, Good, Failed}
use Rattle.device.specs.Call.{Call}
use Rattle.device.specs.Reply.{reply}
use Rattle.line.specs.declared.Content.{Content}
use Rattle.numeral.specs.Ascii.{ascii}
use Rattle.wording.specs.Wording.{Texts, line_feed, numbered, delivery, single, stretch}
use Rattle.item_state.specs.Log.{Log, added, said, counted, called, refusals, call_counted}
use Rattle.item_calls.specs.Lines.{WithFlash, told, item_counts, start_moment, transacted, bus_line, set_line, moved, single_line, ticked, part_ended, ticks_part, ticks_ahead, unless_under_way, ticks_begun, tick_line, at_begun, at_line, moved_by, stretch_line, flight_line, temperature_line, beside, item_line, timed_line, call_line}
use Rattle.answer_text.specs.Texts.{Told, on_page, silent, behind, answered, told_of_transaction, told_of_bus, told_of_set, told_of_single, told_of_head, end_texts, told_of_part, told_of_ticks, told_of_tick, told_of_at, told_of_stretch, told_of_delivery, call_told}
use Rattle.answer_text.proofs.Page.{front, by_front, silent-page, put-more, called-page}
use Rattle.answer_text.proofs.Aside.{Aside, page-some, page-behind, behind-aside, first-left, silent-aside, call-set, call_long, answered-aside}

-- ---- `item`

item-counts : (counts answers : List ℕ)
    → ◌≡◌ {A = Log} record { counts = item_counts counts; answers = answers } (on_page (silent (item_counts counts)) record { counts = counts; answers = answers })
unfolding item_counts on_page put_each
item-counts [] answers = refl
item-counts (c ∷ cs) answers = refl

item-page : (s : WithFlash) → (item_line s).log ≡ on_page (silent (item_counts s.log.counts)) s.log
unfolding item_line
item-page s = item-counts s.log.counts s.log.answers

item-aside : (counts : List ℕ) (place : ℕ) → Aside counts place (silent (item_counts counts)) (silent (item_counts (set counts 0 place)))
unfolding item_counts
item-aside [] place = record { same = refl; long = refl }
item-aside (c ∷ cs) place = record { same = refl; long = rw (length-set, length-set, length-set) }

-- ---- `bus` and `set`

start-set : (answer : Answer) (counts : List ℕ) (place : ℕ) → start_moment answer (set counts 0 place) ≡ set (start_moment answer counts) 0 place
unfolding start_moment
start-set (Refused r) counts place = refl
start-set (Accepted true temperature) counts place = set_comm counts 0 9 place 0 (λ e. omega arith)
start-set (Accepted false true) counts place = set_comm counts 0 9 place 0 (λ e. omega arith)
start-set (Accepted false false) counts place = refl
start-set (Ticked flight temperature) counts place = refl
start-set (Stretched flight temperature) counts place = refl
start-set Good counts place = refl
start-set Failed counts place = refl

start-long : (answer : Answer) (counts : List ℕ) → length (start_moment answer counts) ≡ length counts
unfolding start_moment
start-long (Refused r) counts = refl
start-long (Accepted true temperature) counts = length-set counts 9 0
start-long (Accepted false true) counts = length-set counts 9 0
start-long (Accepted false false) counts = refl
start-long (Ticked flight temperature) counts = refl
start-long (Stretched flight temperature) counts = refl
start-long Good counts = refl
start-long Failed counts = refl

module _ (call : Call) (texts : Answer → List ℕ → Texts) (m : Model) where
  pub transaction-page : (l : Log) → (transacted call texts m l).log ≡ on_page (told_of_transaction call texts m l.counts) l
  unfolding transacted told_of_transaction on_page called counted call_counted
  transaction-page l = rw start-set

  pub transaction-aside : (counts : List ℕ) (place : ℕ)
      → Aside counts place (told_of_transaction call texts m counts) (told_of_transaction call texts m (set counts 0 place))
  unfolding told_of_transaction
  transaction-aside counts place =
      let answer = (reply m call).answer in
      record {
        same = rw (call-set (refusals answer) counts place, start-set answer (call_counted (refusals answer) counts) place);
        long = start-long answer (call_counted (refusals answer) counts) ∙ call_long (refusals answer) counts;
      }

bus-page : (bytes : List ℕ) (size : ℕ) (s : WithFlash) → (bus_line bytes size s).log ≡ on_page (told_of_bus bytes size s) s.log
unfolding bus_line told_of_bus
bus-page bytes size s = transaction-page _ _ _ s.log

set-page : (a : ℕ) (ws : List ℕ) (s : WithFlash) → (set_line a ws s).log ≡ on_page (told_of_set a ws s) s.log
unfolding set_line told_of_set
set-page a ws s = transaction-page _ _ _ s.log

-- ---- calls with one reply

moved-first : (n : ℕ) (counts : List ℕ) → get_or (moved n counts) 0 0 ≡ get_or counts 0 0
unfolding moved added
moved-first n counts = get_or-set_other counts 9 0 _ 0 (λ e. omega arith)

moved-set : (n : ℕ) (counts : List ℕ) (place : ℕ) → moved n (set counts 0 place) ≡ set (moved n counts) 0 place
unfolding moved added
moved-set n [] place = refl
moved-set n (c ∷ cs) place = refl

moved-long : (n : ℕ) (counts : List ℕ) → length (moved n counts) ≡ length counts
unfolding moved added
moved-long n counts = length-set counts 9 _

-- where the counts before the call have moved
replied-aside : (refused : ℕ) (texts : Texts) (counts before : List ℕ) (place : ℕ) → length before ≡ length counts
    → Aside counts place (answered refused texts before) (answered refused texts (set before 0 place))
replied-aside refused texts counts before place long =
    let a = answered-aside refused texts before place in record { same = a.same; long = a.long ∙ long }

single-page : (m : Model) (l : Log) → (single_line m l).log ≡ on_page (told_of_single m l.counts) l
unfolding single_line told told_of_single
single-page m l =
    called-page (refusals (reply m Call.tick).answer) (single (reply m Call.tick).answer) (moved 1 l.counts) l (moved-first 1 l.counts)

single-aside : (m : Model) (counts : List ℕ) (place : ℕ) → Aside counts place (told_of_single m counts) (told_of_single m (set counts 0 place))
unfolding told_of_single
single-aside m counts place = rw (moved-set 1 counts place) (replied-aside _ _ counts (moved 1 counts) place (moved-long 1 counts))

by_first : (answer : Answer) (n : ℕ) (counts : List ℕ) → get_or (moved_by answer n counts) 0 0 ≡ get_or counts 0 0
unfolding moved_by
by_first answer n counts = go (eqb (refusals answer) 0)
  where
    go : (b : Bool) → get_or (cond b (moved n counts) counts) 0 0 ≡ get_or counts 0 0
    go true = moved-first n counts
    go false = refl

by-set : (answer : Answer) (n : ℕ) (counts : List ℕ) (place : ℕ) → moved_by answer n (set counts 0 place) ≡ set (moved_by answer n counts) 0 place
unfolding moved_by
by-set answer n counts place = go (eqb (refusals answer) 0)
  where
    go : (b : Bool) → cond b (moved n (set counts 0 place)) (set counts 0 place) ≡ set (cond b (moved n counts) counts) 0 place
    go true = moved-set n counts place
    go false = refl

by-long : (answer : Answer) (n : ℕ) (counts : List ℕ) → length (moved_by answer n counts) ≡ length counts
unfolding moved_by
by-long answer n counts = go (eqb (refusals answer) 0)
  where
    go : (b : Bool) → length (cond b (moved n counts) counts) ≡ length counts
    go true = moved-long n counts
    go false = refl

stretch-page : (n : ℕ) (m : Model) (l : Log) → (stretch_line n m l).log ≡ on_page (told_of_stretch n m l.counts) l
unfolding stretch_line told told_of_stretch
stretch-page n m l =
    let answer = (reply m (Call.stretch n)).answer in
    called-page (refusals answer) (stretch answer n) (moved_by answer n l.counts) l (by_first answer n l.counts)

stretch-aside : (n : ℕ) (m : Model) (counts : List ℕ) (place : ℕ)
    → Aside counts place (told_of_stretch n m counts) (told_of_stretch n m (set counts 0 place))
unfolding told_of_stretch
stretch-aside n m counts place =
    let answer = (reply m (Call.stretch n)).answer in
    rw (by-set answer n counts place) (replied-aside _ _ counts (moved_by answer n counts) place (by-long answer n counts))

delivery-page : (kind : List ℕ) (call : Call) (m : Model) (l : Log)
    → (told (reply m call) (delivery kind (reply m call).answer) l).log ≡ on_page (told_of_delivery kind call m l.counts) l
unfolding told told_of_delivery
delivery-page kind call m l = called-page (refusals (reply m call).answer) (delivery kind (reply m call).answer) l.counts l refl

delivery-aside : (kind : List ℕ) (call : Call) (m : Model) (counts : List ℕ) (place : ℕ)
    → Aside counts place (told_of_delivery kind call m counts) (told_of_delivery kind call m (set counts 0 place))
unfolding told_of_delivery
delivery-aside kind call m counts place = answered-aside _ _ counts place

-- ---- lines of ticks

-- the end of a part, behind its texts
module _ (k : ℕ) (texts : Texts) (c : ℕ) (cs answers : List ℕ) where
  abbrev put : Log
  put = record { counts = (put_each answers c texts).next ∷ set cs 20 k; answers = (put_each answers c texts).bytes }

  ended : (b : Bool) → cond b (said (line_feed ∷ []) put) put
      ≡ on_page record { texts = texts ++ cond b (line_feed ∷ []) []; counts = c ∷ set cs 20 k } (front c cs answers)
  unfolding said on_page
  ended true = rw (put-more answers c texts (line_feed ∷ []))
  ended false = rw append-nil

  part-ended : part_ended k (said texts (front c cs answers))
      ≡ on_page record { texts = texts ++ end_texts k; counts = c ∷ set cs 20 k } (front c cs answers)
  unfolding part_ended end_texts said
  part-ended = ended (eqb k 0)

module _ (total : ℕ) (m : Model) where
  part-front : (c : ℕ) (cs answers : List ℕ)
      → (ticks_part total m (front c cs answers)).log ≡ on_page (told_of_part total m (c ∷ cs)) (front c cs answers)
  unfolding ticks_part told_of_part
  part-front c cs answers =
      let left = min (get_or cs 20 0) total in
      let n = min left 1048576 in
      part-ended (left - n) (ticked n n (total - left) m).texts c cs answers

  part-page : (l : Log) → 0 < length l.counts → (ticks_part total m l).log ≡ on_page (told_of_part total m l.counts) l
  part-page = by_front (λ l. (ticks_part total m l).log ≡ on_page (told_of_part total m l.counts) l) part-front

  part-aside : (counts : List ℕ) (place : ℕ) → Aside counts place (told_of_part total m counts) (told_of_part total m (set counts 0 place))
  unfolding told_of_part
  part-aside [] place = record { same = refl; long = refl }
  part-aside (c ∷ cs) place = record { same = refl; long = rw length-set }

-- the first words, where the line is not under way
head-begun : (head : Texts) (n : ℕ) (after : List ℕ) (l : Log) → get_or after 0 0 ≡ get_or l.counts 0 0
    → ticks_ahead head n record { counts = after; answers = l.answers } ≡ on_page record { texts = head; counts = set (call_counted 0 after) 21 n } l
unfolding ticks_ahead called counted call_counted on_page
head-begun head n after l e = rw (e, set_comm _ 0 21 _ n (λ e. omega arith))

module _ (head : Texts) (n : ℕ) where
  head-page : (after : List ℕ) (l : Log) → get_or after 0 0 ≡ get_or l.counts 0 0
      → unless_under_way (ticks_ahead head n record { counts = after; answers = l.answers }) l ≡ on_page (told_of_head head n after l.counts) l
  unfolding unless_under_way told_of_head
  head-page after l e = go (eqb (get_or l.counts 21 0) 0)
    where
      go : (b : Bool) → cond b (ticks_ahead head n record { counts = after; answers = l.answers }) l
          ≡ on_page (cond b record { texts = head; counts = set (call_counted 0 after) 21 n } (silent l.counts)) l
      go true = head-begun head n after l e
      go false = silent-page l

  head-aside : (after other counts : List ℕ) (place : ℕ) → other ≡ set after 0 place → length after ≡ length counts
      → Aside counts place (told_of_head head n after counts) (told_of_head head n other (set counts 0 place))
  unfolding told_of_head
  head-aside after other counts place e long =
      rw (e, get_or-set_other counts 0 21 place 0 (λ e. omega arith)) (go (eqb (get_or counts 21 0) 0))
    where
      go : (b : Bool)
          → Aside counts place (cond b record { texts = head; counts = set (call_counted 0 after) 21 n } (silent counts))
          (cond b record { texts = head; counts = set (call_counted 0 (set after 0 place)) 21 n } (silent (set counts 0 place)))
      go true = record {
        same = rw (call-set 0 after place, set_comm (call_counted 0 after) 0 21 place n (λ e. omega arith));
        long = length-set (call_counted 0 after) 21 n ∙ (call_long 0 after ∙ long);
      }
      go false = silent-aside counts place

-- a part behind what was told before
module _ (total : ℕ) (m : Model) where
  behind-page : (first : Told) (l : Log) → 0 < length first.counts
      → (ticks_part total m (on_page first l)).log ≡ on_page (behind first (told_of_part total m)) l
  behind-page first l some =
      part-page total m (on_page first l) (page-some first l some) ∙ page-behind first (told_of_part total m) l some (part-aside total m)

module _ (n : ℕ) (m : Model) where
  ticks-page : (l : Log) → 0 < length l.counts → (ticks_part n m (ticks_begun n l)).log ≡ on_page (told_of_ticks n m l.counts) l
  unfolding ticks_begun told_of_ticks
  ticks-page l some =
      let a = head-aside (numbered (ascii "tick ") n) n (moved n l.counts) (moved n (set l.counts 0 0)) l.counts 0 (moved-set n l.counts 0) (moved-long n l.counts) in
      rw (head-page (numbered (ascii "tick ") n) n (moved n l.counts) l (moved-first n l.counts))
      (behind-page n m (told_of_head (numbered (ascii "tick ") n) n (moved n l.counts) l.counts) l (omega (arith, a.long)))

  ticks-aside : (counts : List ℕ) (place : ℕ) → Aside counts place (told_of_ticks n m counts) (told_of_ticks n m (set counts 0 place))
  unfolding told_of_ticks
  ticks-aside counts place =
      behind-aside counts place _ _ (told_of_part n m) (part-aside n m)
      (head-aside (numbered (ascii "tick ") n) n (moved n counts) (moved n (set counts 0 place)) counts place (moved-set n counts place) (moved-long n counts))

  tick-page : (l : Log) → 0 < length l.counts → (tick_line n m l).log ≡ on_page (told_of_tick n m l.counts) l
  unfolding tick_line told_of_tick
  tick-page l some = go (eqb n 1)
    where
      go : (b : Bool) → (cond b (single_line m l) (ticks_part n m (ticks_begun n l))).log
          ≡ on_page (cond b (told_of_single m l.counts) (told_of_ticks n m l.counts)) l
      go true = single-page m l
      go false = ticks-page l some

  tick-aside : (counts : List ℕ) (place : ℕ) → Aside counts place (told_of_tick n m counts) (told_of_tick n m (set counts 0 place))
  unfolding told_of_tick
  tick-aside counts place = go (eqb n 1)
    where
      go : (b : Bool) → Aside counts place (cond b (told_of_single m counts) (told_of_ticks n m counts))
          (cond b (told_of_single m (set counts 0 place)) (told_of_ticks n m (set counts 0 place)))
      go true = single-aside m counts place
      go false = ticks-aside counts place

at_set : (t : ℕ) (counts : List ℕ) (place : ℕ) → set (set counts 0 place) 9 t ≡ set (set counts 9 t) 0 place
at_set t counts place = set_comm counts 0 9 place t (λ e. omega arith)

module _ (t : ℕ) (m : Model) where
  abbrev at_head : List ℕ → Told
  at_head counts = told_of_head (numbered (ascii "at ") t) (t - get_or counts 9 0) (set counts 9 t) counts

  at-head-aside : (counts : List ℕ) (place : ℕ) → Aside counts place (at_head counts) (at_head (set counts 0 place))
  at-head-aside counts place =
      rw (get_or-set_other counts 0 9 place 0 (λ e. omega arith))
      (head-aside (numbered (ascii "at ") t) (t - get_or counts 9 0) (set counts 9 t) (set (set counts 0 place) 9 t) counts place (at_set t counts place) (length-set counts 9 t))

  at-page : (l : Log) → 0 < length l.counts → (at_line t m l).log ≡ on_page (told_of_at t m l.counts) l
  unfolding at_line at_begun told_of_at
  at-page l some =
      rw (head-page (numbered (ascii "at ") t) (t - get_or l.counts 9 0) (set l.counts 9 t) l (get_or-set_other l.counts 9 0 t 0 (λ e. omega arith)))
      (behind-page t m (at_head l.counts) l (omega (arith, (at-head-aside l.counts 0).long)))

  at-aside : (counts : List ℕ) (place : ℕ) → Aside counts place (told_of_at t m counts) (told_of_at t m (set counts 0 place))
  unfolding told_of_at
  at-aside counts place = behind-aside counts place _ _ (told_of_part t m) (part-aside t m) (at-head-aside counts place)

-- ---- every line

-- What a line that moves the model leaves of counts and answers is what it tells, on the page.
pub call-page : (content : Content) (numbers : List ℕ) (s : WithFlash) → 0 < length s.log.counts
    → (call_line content numbers s).log ≡ on_page (call_told content numbers s) s.log
unfolding call_line timed_line beside call_told flight_line temperature_line
call-page Content.Nothing numbers s some = silent-page s.log
call-page Content.TooLong numbers s some = silent-page s.log
call-page Content.UnknownWord numbers s some = silent-page s.log
call-page Content.BadNumber numbers s some = silent-page s.log
call-page Content.WrongCount numbers s some = silent-page s.log
call-page Content.Item numbers s some = item-page s
call-page (Content.Bus n) numbers s some = bus-page _ _ s
call-page (Content.BusOut size n) numbers s some = bus-page _ _ s
call-page (Content.Tick n) numbers s some = tick-page n s.model s.log some
call-page (Content.Flight up down) numbers s some = delivery-page (ascii "flight") _ s.model s.log
call-page (Content.Temperature n) numbers s some = delivery-page (ascii "temperature") _ s.model s.log
call-page Content.Int numbers s some = silent-page s.log
call-page Content.Awaited numbers s some = silent-page s.log
call-page Content.Regs numbers s some = silent-page s.log
call-page (Content.Expect a n) numbers s some = silent-page s.log
call-page Content.Show numbers s some = silent-page s.log
call-page (Content.Set a n) numbers s some = set-page a _ s
call-page (Content.At t) numbers s some = at-page t s.model s.log some
call-page (Content.Stretch n) numbers s some = stretch-page n s.model s.log
call-page Content.Frames numbers s some = silent-page s.log
call-page (Content.Probe n) numbers s some = silent-page s.log
call-page Content.Degrees numbers s some = silent-page s.log
call-page (Content.Record n) numbers s some = silent-page s.log
call-page (Content.Listing old first) numbers s some = silent-page s.log
call-page (Content.Quietest n) numbers s some = silent-page s.log

-- What it tells goes by neither the answers nor where they end.
abbrev pub otherwise : WithFlash → ℕ → List ℕ → WithFlash
otherwise s place answers =
    record { model = s.model; flash = s.flash; log = record { counts = set s.log.counts 0 place; answers = answers } }

pub call-aside : (content : Content) (numbers : List ℕ) (s : WithFlash) (place : ℕ) (answers : List ℕ)
    → Aside s.log.counts place (call_told content numbers s) (call_told content numbers (otherwise s place answers))
unfolding call_told told_of_bus told_of_set
call-aside Content.Nothing numbers s place answers = silent-aside s.log.counts place
call-aside Content.TooLong numbers s place answers = silent-aside s.log.counts place
call-aside Content.UnknownWord numbers s place answers = silent-aside s.log.counts place
call-aside Content.BadNumber numbers s place answers = silent-aside s.log.counts place
call-aside Content.WrongCount numbers s place answers = silent-aside s.log.counts place
call-aside Content.Item numbers s place answers = item-aside s.log.counts place
call-aside (Content.Bus n) numbers s place answers = transaction-aside _ _ _ s.log.counts place
call-aside (Content.BusOut size n) numbers s place answers = transaction-aside _ _ _ s.log.counts place
call-aside (Content.Tick n) numbers s place answers = tick-aside n s.model s.log.counts place
call-aside (Content.Flight up down) numbers s place answers = delivery-aside _ _ s.model s.log.counts place
call-aside (Content.Temperature n) numbers s place answers = delivery-aside _ _ s.model s.log.counts place
call-aside Content.Int numbers s place answers = silent-aside s.log.counts place
call-aside Content.Awaited numbers s place answers = silent-aside s.log.counts place
call-aside Content.Regs numbers s place answers = silent-aside s.log.counts place
call-aside (Content.Expect a n) numbers s place answers = silent-aside s.log.counts place
call-aside Content.Show numbers s place answers = silent-aside s.log.counts place
call-aside (Content.Set a n) numbers s place answers = transaction-aside _ _ _ s.log.counts place
call-aside (Content.At t) numbers s place answers = at-aside t s.model s.log.counts place
call-aside (Content.Stretch n) numbers s place answers = stretch-aside n s.model s.log.counts place
call-aside Content.Frames numbers s place answers = silent-aside s.log.counts place
call-aside (Content.Probe n) numbers s place answers = silent-aside s.log.counts place
call-aside Content.Degrees numbers s place answers = silent-aside s.log.counts place
call-aside (Content.Record n) numbers s place answers = silent-aside s.log.counts place
call-aside (Content.Listing old first) numbers s place answers = silent-aside s.log.counts place
call-aside (Content.Quietest n) numbers s place answers = silent-aside s.log.counts place

abbrev counting : WithFlash → List ℕ → WithFlash
counting s counts = record { model = s.model; flash = s.flash; log = record { counts = counts; answers = s.log.answers } }

-- It leaves the first count as it was.
pub call-first : (content : Content) (numbers : List ℕ) (s : WithFlash) → 0 < length s.log.counts
    → get_or (call_told content numbers s).counts 0 0 ≡ get_or s.log.counts 0 0
call-first content numbers s =
    first-left (λ counts. call_told content numbers (counting s counts)) (λ counts place. call-aside content numbers (counting s counts) place s.log.answers)
    s.log.counts

-- ---- the model and the user flash

-- A part goes by the ticks that are left
part-model : (total : ℕ) (m : Model) (l l' : Log) → get_or l'.counts 21 0 ≡ get_or l.counts 21 0
    → (ticks_part total m l').model ≡ (ticks_part total m l).model
unfolding ticks_part
part-model total m l l' e = rw e

-- and these by no more than the line and the counts behind the first.
page-left : (first : Told) (l : Log) → get_or (on_page first l).counts 21 0 ≡ get_or first.counts 21 0
unfolding on_page
page-left first l = get_or-set_other first.counts 0 21 _ 0 (λ e. omega arith)

same_left : (counts : List ℕ) (place : ℕ) (first other : Told) (l l' : Log) → Aside counts place first other
    → get_or (on_page other l').counts 21 0 ≡ get_or (on_page first l).counts 21 0
same_left counts place first other l l' a =
    page-left other l'
    ∙ (ap (λ (t : Told). get_or t.counts 21 0) a.same
    ∙ (get_or-set_other first.counts 0 21 place 0 (λ e. omega arith) ∙ sym (page-left first l)))

single-model : (m : Model) (l l' : Log) → (single_line m l').model ≡ (single_line m l).model
unfolding single_line told
single-model m l l' = refl

module _ (l l' : Log) (place : ℕ) (e : l'.counts ≡ set l.counts 0 place) where
  ticks-model : (n : ℕ) (m : Model) → (ticks_part n m (ticks_begun n l')).model ≡ (ticks_part n m (ticks_begun n l)).model
  unfolding ticks_begun
  ticks-model n m =
      let head = numbered (ascii "tick ") n in
      let a = head-aside head n (moved n l.counts) (moved n l'.counts) l.counts place (rw e (moved-set n l.counts place)) (moved-long n l.counts) in
      rw (head-page head n (moved n l.counts) l (moved-first n l.counts), head-page head n (moved n l'.counts) l' (moved-first n l'.counts))
      (part-model n m _ _ (same_left l.counts place _ _ l l' (rw (← e) at a)))

  tick-model : (n : ℕ) (m : Model) → (tick_line n m l').model ≡ (tick_line n m l).model
  unfolding tick_line
  tick-model n m = go (eqb n 1)
    where
      go : (b : Bool) → (cond b (single_line m l') (ticks_part n m (ticks_begun n l'))).model ≡ (cond b (single_line m l) (ticks_part n m (ticks_begun n l))).model
      go true = single-model m l l'
      go false = ticks-model n m

  at-model : (t : ℕ) (m : Model) → (at_line t m l').model ≡ (at_line t m l).model
  unfolding at_line at_begun
  at-model t m =
      let head = numbered (ascii "at ") t in
      rw (head-page head (t - get_or l.counts 9 0) (set l.counts 9 t) l (get_or-set_other l.counts 9 0 t 0 (λ e. omega arith)), head-page head (t - get_or l'.counts 9 0) (set l'.counts 9 t) l' (get_or-set_other l'.counts 9 0 t 0 (λ e. omega arith)))
      (part-model t m _ _ (same_left l.counts place _ _ l l' (rw (← e) at (at-head-aside t m l.counts place))))

-- The model and the user flash after a line go by neither the answers nor where they end.
pub call-model : (content : Content) (numbers : List ℕ) (s : WithFlash) (place : ℕ) (answers : List ℕ)
    → ((call_line content numbers (otherwise s place answers)).model ≡ (call_line content numbers s).model)
    × ((call_line content numbers (otherwise s place answers)).flash ≡ (call_line content numbers s).flash)
unfolding call_line timed_line beside item_line bus_line set_line transacted stretch_line flight_line temperature_line told
call-model Content.Nothing numbers s place answers = (refl, refl)
call-model Content.TooLong numbers s place answers = (refl, refl)
call-model Content.UnknownWord numbers s place answers = (refl, refl)
call-model Content.BadNumber numbers s place answers = (refl, refl)
call-model Content.WrongCount numbers s place answers = (refl, refl)
call-model Content.Item numbers s place answers = (refl, refl)
call-model (Content.Bus n) numbers s place answers = (refl, refl)
call-model (Content.BusOut size n) numbers s place answers = (refl, refl)
call-model (Content.Tick n) numbers s place answers = (tick-model s.log (otherwise s place answers).log place refl n s.model, refl)
call-model (Content.Flight up down) numbers s place answers = (refl, refl)
call-model (Content.Temperature n) numbers s place answers = (refl, refl)
call-model Content.Int numbers s place answers = (refl, refl)
call-model Content.Awaited numbers s place answers = (refl, refl)
call-model Content.Regs numbers s place answers = (refl, refl)
call-model (Content.Expect a n) numbers s place answers = (refl, refl)
call-model Content.Show numbers s place answers = (refl, refl)
call-model (Content.Set a n) numbers s place answers = (refl, refl)
call-model (Content.At t) numbers s place answers = (at-model s.log (otherwise s place answers).log place refl t s.model, refl)
call-model (Content.Stretch n) numbers s place answers = (refl, refl)
call-model Content.Frames numbers s place answers = (refl, refl)
call-model (Content.Probe n) numbers s place answers = (refl, refl)
call-model Content.Degrees numbers s place answers = (refl, refl)
call-model (Content.Record n) numbers s place answers = (refl, refl)
call-model (Content.Listing old first) numbers s place answers = (refl, refl)
call-model (Content.Quietest n) numbers s place answers = (refl, refl)
