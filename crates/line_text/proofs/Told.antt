-- What stands before a line's answer leaves on the page what it tells. Assumes nothing.
use Prim.Native.Nat.{ℕ, ◌+◌, ◌<◌, min}
use mathlib.Core.Path.{◌≡◌, refl, ◌∙◌}
use mathlib.Core.Bool.{Bool, true, false, cond}
use mathlib.Core.List.{List, [], ◌∷◌, ◌++◌}
use native.Mathlib.Omega.{arith}
use lib.Dec.{eqb}
use lib.ListN.{length, get_or, set, take, length-set}
use lib.Seq.{set_comm, get_or-set_same, get_or-set_other}
use Rattle.numeral.specs.Place.{put_each, joined}
use Rattle.numeral.proofs.PlaceLaws.{put-each}
use Rattle.line.specs.declared.Content.{Content}
use Rattle.wording.specs.Wording.{Texts, line_feed, fault, place}
use Rattle.item_state.specs.Log.{Log, added, said}
use Rattle.item_checks.specs.Fault.{is_past_or_full, is_fault, left_of, fault_said, fault_log}
use Rattle.item_checks.specs.Open.{line_counted, headed, begun, is_item, item_named, named}
use Rattle.item_checks.specs.Close.{line_words, trouble}
use Rattle.answer_text.specs.Texts.{on_page, HasRoom, silent, asked}
use Rattle.answer_text.proofs.Page.{silent-page}
use Rattle.answer_text.proofs.Aside.{Aside, Apart, silent-aside}
use Rattle.line_text.specs.Text.{head_told, begun_told, fault_told, item_told, names_after}

-- texts put where a later count was set before
set-page : (texts : Texts) (place v : ℕ) (l : Log) → (0 ≡ place → ⊥)
    → said texts record { counts = set l.counts place v; answers = l.answers } ≡ on_page (asked texts (set l.counts place v)) l
unfolding said on_page
set-page texts place v l apart = rw (get_or-set_other l.counts place 0 v 0 apart)

set-aside : (texts : Texts) (counts : List ℕ) (later v place : ℕ) → (0 ≡ later → ⊥)
    → Aside counts place (asked texts (set counts later v)) (asked texts (set (set counts 0 place) later v))
set-aside texts counts later v place apart = record { same = rw (set_comm counts 0 later place v apart); long = length-set counts later v }

-- ---- the head

headed-page : (names : List ℕ) (l : Log) → headed names l ≡ on_page (head_told names l.counts) l
unfolding headed head_told
headed-page names l = go (eqb (get_or l.counts 14 0) 0)
  where
    go : (t : Bool) → cond t l (said (place (take (get_or (set l.counts 19 (trouble l.counts)) 16 0) names) (get_or (set l.counts 19 (trouble l.counts)) 2 0)) record { counts = set l.counts 19 (trouble l.counts); answers = l.answers })
        ≡ on_page (cond t (silent l.counts) (asked (place (take (get_or (set l.counts 19 (trouble l.counts)) 16 0) names) (get_or (set l.counts 19 (trouble l.counts)) 2 0)) (set l.counts 19 (trouble l.counts)))) l
    go true = silent-page l
    go false = set-page _ 19 _ l (λ e. omega arith)

head-long : (names counts : List ℕ) → length (head_told names counts).counts ≡ length counts
unfolding head_told
head-long names counts = go (eqb (get_or counts 14 0) 0)
  where
    go : (t : Bool) → length (cond t (silent counts) (asked (place (take (get_or (set counts 19 (trouble counts)) 16 0) names) (get_or (set counts 19 (trouble counts)) 2 0)) (set counts 19 (trouble counts)))).counts ≡ length counts
    go true = refl
    go false = length-set counts 19 (trouble counts)

counted-first : (counts : List ℕ) → get_or (line_counted counts) 0 0 ≡ get_or counts 0 0
unfolding line_counted added
counted-first [] = refl
counted-first (c ∷ cs) = refl

counted-long : (counts : List ℕ) → length (line_counted counts) ≡ length counts
unfolding line_counted added
counted-long counts = simp length-set

pub head-counted-long : (names counts : List ℕ) → length (head_told names (line_counted counts)).counts ≡ length counts
head-counted-long names counts = head-long names (line_counted counts) ∙ counted-long counts

pub begun-long : (names counts : List ℕ) → length (begun_told names counts).counts ≡ length counts
unfolding begun_told
begun-long names counts = length-set (head_told names (line_counted counts)).counts 20 _ ∙ head-counted-long names counts

-- Where there is room for the head, a line that is begun has it on the page.
pub begun-page : (names : List ℕ) (l : Log) → 0 < length l.counts → HasRoom (begun_told names l.counts) l
    → begun names l ≡ on_page (begun_told names l.counts) l
unfolding begun begun_told on_page
begun-page names l some room =
    let counts = line_counted l.counts in
    let head = head_told names counts in
    let end = get_or l.counts 0 0 + length (joined head.texts) in
    let long : 0 < length head.counts = omega (arith, head-long names counts, counted-long l.counts) in
    rw (headed-page names record { counts = counts; answers = l.answers }, counted-first l.counts, put-each head.texts l.answers (get_or l.counts 0 0) room, get_or-set_same head.counts 0 end 0 long, set_comm head.counts 0 20 end end (λ e. omega arith))

-- ---- bad lines

-- Whether a line is bad goes by three counts.
wrong-same : (content : Content) (counts counts' : List ℕ) → get_or counts' 9 0 ≡ get_or counts 9 0 → get_or counts' 10 0 ≡ get_or counts 10 0
    → get_or counts' 11 0 ≡ get_or counts 11 0 → is_past_or_full content counts' ≡ is_past_or_full content counts
unfolding is_past_or_full
wrong-same Content.Nothing counts counts' nine ten eleven = refl
wrong-same Content.TooLong counts counts' nine ten eleven = refl
wrong-same Content.UnknownWord counts counts' nine ten eleven = refl
wrong-same Content.BadNumber counts counts' nine ten eleven = refl
wrong-same Content.WrongCount counts counts' nine ten eleven = refl
wrong-same Content.Item counts counts' nine ten eleven = refl
wrong-same (Content.Bus n) counts counts' nine ten eleven = refl
wrong-same (Content.BusOut size n) counts counts' nine ten eleven = refl
wrong-same (Content.Tick n) counts counts' nine ten eleven = refl
wrong-same (Content.Flight up down) counts counts' nine ten eleven = refl
wrong-same (Content.Temperature n) counts counts' nine ten eleven = refl
wrong-same Content.Int counts counts' nine ten eleven = refl
wrong-same Content.Awaited counts counts' nine ten eleven = refl
wrong-same Content.Regs counts counts' nine ten eleven = refl
wrong-same (Content.Expect a n) counts counts' nine ten eleven = refl
wrong-same Content.Show counts counts' nine ten eleven = refl
wrong-same (Content.Set a n) counts counts' nine ten eleven = refl
wrong-same (Content.At t) counts counts' nine ten eleven = rw nine
wrong-same (Content.Stretch n) counts counts' nine ten eleven = refl
wrong-same Content.Frames counts counts' nine ten eleven = refl
wrong-same (Content.Probe n) counts counts' nine ten eleven = rw eleven
wrong-same Content.Degrees counts counts' nine ten eleven = refl
wrong-same (Content.Record n) counts counts' nine ten eleven = rw ten
wrong-same (Content.Listing old first) counts counts' nine ten eleven = refl
wrong-same (Content.Quietest n) counts counts' nine ten eleven = refl

pub fault-same : (content : Content) (counts counts' : List ℕ) → get_or counts' 9 0 ≡ get_or counts 9 0 → get_or counts' 10 0 ≡ get_or counts 10 0
    → get_or counts' 11 0 ≡ get_or counts 11 0 → is_fault content counts' ≡ is_fault content counts
unfolding is_fault
fault-same Content.Nothing counts counts' nine ten eleven = wrong-same Content.Nothing counts counts' nine ten eleven
fault-same Content.TooLong counts counts' nine ten eleven = refl
fault-same Content.UnknownWord counts counts' nine ten eleven = refl
fault-same Content.BadNumber counts counts' nine ten eleven = refl
fault-same Content.WrongCount counts counts' nine ten eleven = refl
fault-same Content.Item counts counts' nine ten eleven = wrong-same Content.Item counts counts' nine ten eleven
fault-same (Content.Bus n) counts counts' nine ten eleven = wrong-same (Content.Bus n) counts counts' nine ten eleven
fault-same (Content.BusOut size n) counts counts' nine ten eleven = wrong-same (Content.BusOut size n) counts counts' nine ten eleven
fault-same (Content.Tick n) counts counts' nine ten eleven = wrong-same (Content.Tick n) counts counts' nine ten eleven
fault-same (Content.Flight up down) counts counts' nine ten eleven = wrong-same (Content.Flight up down) counts counts' nine ten eleven
fault-same (Content.Temperature n) counts counts' nine ten eleven = wrong-same (Content.Temperature n) counts counts' nine ten eleven
fault-same Content.Int counts counts' nine ten eleven = wrong-same Content.Int counts counts' nine ten eleven
fault-same Content.Awaited counts counts' nine ten eleven = wrong-same Content.Awaited counts counts' nine ten eleven
fault-same Content.Regs counts counts' nine ten eleven = wrong-same Content.Regs counts counts' nine ten eleven
fault-same (Content.Expect a n) counts counts' nine ten eleven = wrong-same (Content.Expect a n) counts counts' nine ten eleven
fault-same Content.Show counts counts' nine ten eleven = wrong-same Content.Show counts counts' nine ten eleven
fault-same (Content.Set a n) counts counts' nine ten eleven = wrong-same (Content.Set a n) counts counts' nine ten eleven
fault-same (Content.At t) counts counts' nine ten eleven = wrong-same (Content.At t) counts counts' nine ten eleven
fault-same (Content.Stretch n) counts counts' nine ten eleven = wrong-same (Content.Stretch n) counts counts' nine ten eleven
fault-same Content.Frames counts counts' nine ten eleven = wrong-same Content.Frames counts counts' nine ten eleven
fault-same (Content.Probe n) counts counts' nine ten eleven = wrong-same (Content.Probe n) counts counts' nine ten eleven
fault-same Content.Degrees counts counts' nine ten eleven = wrong-same Content.Degrees counts counts' nine ten eleven
fault-same (Content.Record n) counts counts' nine ten eleven = wrong-same (Content.Record n) counts counts' nine ten eleven
fault-same (Content.Listing old first) counts counts' nine ten eleven = wrong-same (Content.Listing old first) counts counts' nine ten eleven
fault-same (Content.Quietest n) counts counts' nine ten eleven = wrong-same (Content.Quietest n) counts counts' nine ten eleven

fault-set : (content : Content) (counts : List ℕ) (place : ℕ) → is_fault content (set counts 0 place) ≡ is_fault content counts
fault-set content counts place =
    fault-same content counts (set counts 0 place) (get_or-set_other counts 0 9 place 0 (λ e. omega arith))
    (get_or-set_other counts 0 10 place 0 (λ e. omega arith)) (get_or-set_other counts 0 11 place 0 (λ e. omega arith))

-- What is left of a line to be answered does not go by where the answers end.
pub left-set : (content : Content) (counts : List ℕ) (place : ℕ) → left_of content (set counts 0 place) ≡ left_of content counts
unfolding left_of
left-set content counts place = rw (fault-set content counts place)

abbrev bad_counts : List ℕ → List ℕ
bad_counts counts = added counts 6 1

bad-page : (content : Content) (l : Log) → fault_said content l ≡ on_page (asked (fault (get_or (bad_counts l.counts) 2 0) content) (bad_counts l.counts)) l
unfolding fault_said added
bad-page content l = set-page (fault (get_or (set l.counts 6 (min (get_or l.counts 6 0 + 1) 18446744073709551615)) 2 0) content) 6 (min (get_or l.counts 6 0 + 1) 18446744073709551615) l (λ e. omega arith)

pub fault-page : (content : Content) (l : Log) → fault_log content l ≡ on_page (fault_told content l.counts) l
unfolding fault_log fault_told
fault-page content l = go (is_fault content l.counts)
  where
    go : (t : Bool) → cond t (fault_said content l) l
        ≡ on_page (cond t (asked (fault (get_or (bad_counts l.counts) 2 0) content) (bad_counts l.counts)) (silent l.counts)) l
    go true = bad-page content l
    go false = silent-page l

bad-aside : (content : Content) (counts : List ℕ) (place : ℕ)
    → Aside counts place (asked (fault (get_or (bad_counts counts) 2 0) content) (bad_counts counts))
    (asked (fault (get_or (bad_counts (set counts 0 place)) 2 0) content) (bad_counts (set counts 0 place)))
unfolding added
bad-aside content [] place = record { same = refl; long = refl }
bad-aside content (c ∷ cs) place = record { same = refl; long = rw length-set }

pub fault-aside : (content : Content) → Apart (fault_told content)
unfolding fault_told
fault-aside content counts place = rw (fault-set content counts place) (go (is_fault content counts))
  where
    go : (t : Bool) → Aside counts place (cond t (asked (fault (get_or (bad_counts counts) 2 0) content) (bad_counts counts)) (silent counts))
        (cond t (asked (fault (get_or (bad_counts (set counts 0 place)) 2 0) content) (bad_counts (set counts 0 place))) (silent (set counts 0 place)))
    go true = bad-aside content counts place
    go false = silent-aside counts place

-- ---- the names of items

module _ (content : Content) (text names : List ℕ) where
  abbrev words : Texts
  words = line_words text ++ (line_feed ∷ [])

  abbrev end : ℕ
  end = (put_each names 4096 (line_words text)).next

  pub item-page : (l : Log) → (named content text names l).log ≡ on_page (item_told content text names l.counts) l
  unfolding named item_named item_told
  item-page l = go (is_item content)
    where
      go : (t : Bool) → (cond t (item_named text names l) record { names = names; log = l }).log
          ≡ on_page (cond t (asked words (set l.counts 15 end)) (silent l.counts)) l
      go true = set-page words 15 end l (λ e. omega arith)
      go false = silent-page l

  pub item-aside : Apart (item_told content text names)
  unfolding item_told
  item-aside counts place = go (is_item content)
    where
      go : (t : Bool) → Aside counts place (cond t (asked words (set counts 15 end)) (silent counts))
          (cond t (asked words (set (set counts 0 place) 15 end)) (silent (set counts 0 place)))
      go true = set-aside words counts 15 end place (λ e. omega arith)
      go false = silent-aside counts place

  pub item-names : (l : Log) → (named content text names l).names ≡ names_after content text names
  unfolding named item_named names_after
  item-names l = go (is_item content)
    where
      go : (t : Bool) → (cond t (item_named text names l) record { names = names; log = l }).names ≡ cond t (put_each names 4096 (line_words text)).bytes names
      go true = refl
      go false = refl
