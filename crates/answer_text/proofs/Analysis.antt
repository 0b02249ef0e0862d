-- A line on what an item keeps beside its model leaves on the page what it tells. Assumes nothing.
use Prim.Native.Nat.{ℕ, ◌+◌, ◌≤◌, ◌<◌}
use mathlib.Core.Path.{◌≡◌, refl, sym, ◌∙◌}
use mathlib.Core.Bool.{Bool, true, false, cond}
use mathlib.Core.List.{List, [], ◌∷◌, ◌++◌, map}
use native.Mathlib.Omega.{arith}
use lib.Dec.{ltb}
use lib.IntN.{ℤ, pos, nat_abs}
use lib.ListN.{length, get_or, set, take, length-set, length-take}
use lib.Seq.{set_comm, set-get_or, get_or-set_same, get_or-set_other, get_or-take}
use Rattle.unit.proofs.Cases.{by-ltb, by_eqb}
use Rattle.numeral.specs.Place.{no_room}
use Rattle.device.specs.declared.Model.{Model}
use Rattle.difference.specs.Difference.{signed_of}
use Rattle.listing.specs.Listing.{capture_digits, lines, last_above}
use Rattle.listing.proofs.Meaning.{Fit}
use Rattle.line.specs.declared.Content.{Content}
use Rattle.numeral.specs.Ascii.{ascii}
use Rattle.wording.specs.Wording.{Texts, refused, listing_head}
use Rattle.item_state.specs.Log.{Log, said}
use Rattle.item_analysis.specs.Kept.{Kept, kept_one, kept_each}
use Rattle.item_analysis.specs.Lines.{ItemKept, probe_line, degrees_of, degrees_told, degrees_line, record_line, width_of, quietest_told, quietest_line, analysis_line}
use Rattle.answer_text.specs.Texts.{Told, on_page, HasRoom, silent, answered, asked, told_of_probe, told_in_degrees, told_of_degrees, told_of_record, told_of_listing, told_of_place, told_of_quietest, recorded, is_listing, analysis_told}
use Rattle.answer_text.proofs.Page.{silent-page, called-page}
use Rattle.answer_text.proofs.Aside.{Aside, first-left, silent-aside, answered-aside}
use Rattle.answer_text.proofs.Listing.{listing-page}
use Rattle.refusal.specs.declared.Refusal.{Refusal}
use Rattle.std.specs.Prelude.{Result, Ok, Err}

-- texts put where a later count was set before
set-page : (texts : Texts) (place v : ℕ) (l : Log) → (0 ≡ place → ⊥)
    → said texts record { counts = set l.counts place v; answers = l.answers } ≡ on_page (asked texts (set l.counts place v)) l
unfolding said on_page
set-page texts place v l apart = rw (get_or-set_other l.counts place 0 v 0 apart)

set-aside : (texts : Texts) (counts : List ℕ) (later v place : ℕ) → (0 ≡ later → ⊥)
    → Aside counts place (asked texts (set counts later v)) (asked texts (set (set counts 0 place) later v))
set-aside texts counts later v place apart = record { same = rw (set_comm counts 0 later place v apart); long = length-set counts later v }

-- ---- `probe` and `record`

module _ (entries probes : List ℕ) where
  probe-page : (l : Log) → (probe_line entries record { probes = probes; log = l }).log ≡ on_page (told_of_probe entries probes l.counts) l
  unfolding probe_line told_of_probe
  probe-page l = set-page _ 11 _ l (λ e. omega arith)

  probe-aside : (counts : List ℕ) (place : ℕ) → Aside counts place (told_of_probe entries probes counts) (told_of_probe entries probes (set counts 0 place))
  unfolding told_of_probe
  probe-aside counts place =
      rw (get_or-set_other counts 0 11 place 0 (λ e. omega arith)) (set-aside _ counts 11 _ place (λ e. omega arith))

module _ (ws : List ℕ) (differences : List ℤ) where
  record-page : (l : Log) → (record_line ws record { differences = differences; log = l }).log ≡ on_page (told_of_record ws differences l.counts) l
  unfolding record_line told_of_record
  record-page l = set-page _ 10 _ l (λ e. omega arith)

  record-aside : (counts : List ℕ) (place : ℕ) → Aside counts place (told_of_record ws differences counts) (told_of_record ws differences (set counts 0 place))
  unfolding told_of_record
  record-aside counts place =
      rw (get_or-set_other counts 0 10 place 0 (λ e. omega arith)) (set-aside _ counts 10 _ place (λ e. omega arith))

-- ---- `degrees`

in-degrees-page : (d : Result ℕ Refusal) (l : Log) → degrees_told d l ≡ on_page (told_in_degrees d l.counts) l
unfolding degrees_told told_in_degrees
in-degrees-page (Ok n) l = called-page 0 _ l.counts l refl
in-degrees-page (Err r) l = called-page 1 _ l.counts l refl

in-degrees-aside : (d : Result ℕ Refusal) (counts : List ℕ) (place : ℕ) → Aside counts place (told_in_degrees d counts) (told_in_degrees d (set counts 0 place))
unfolding told_in_degrees
in-degrees-aside (Ok n) counts place = answered-aside 0 _ counts place
in-degrees-aside (Err r) counts place = answered-aside 1 _ counts place

module _ (numbers probes : List ℕ) where
  abbrev found : List ℕ → Result ℕ Refusal
  found counts = degrees_of (take (get_or counts 11 0) probes) (get_or numbers 0 0) (get_or numbers 1 0)

  degrees-page : (l : Log) → degrees_line numbers probes l ≡ on_page (told_of_degrees numbers probes l.counts) l
  unfolding degrees_line told_of_degrees
  degrees-page l = go (ltb (length numbers) 2)
    where
      go : (b : Bool) → cond b l (degrees_told (found l.counts) l) ≡ on_page (cond b (silent l.counts) (told_in_degrees (found l.counts) l.counts)) l
      go true = silent-page l
      go false = in-degrees-page (found l.counts) l

  degrees-aside : (counts : List ℕ) (place : ℕ) → Aside counts place (told_of_degrees numbers probes counts) (told_of_degrees numbers probes (set counts 0 place))
  unfolding told_of_degrees
  degrees-aside counts place = rw (get_or-set_other counts 0 11 place 0 (λ e. omega arith)) (go (ltb (length numbers) 2))
    where
      go : (b : Bool) → Aside counts place (cond b (silent counts) (told_in_degrees (found counts) counts))
          (cond b (silent (set counts 0 place)) (told_in_degrees (found counts) (set counts 0 place)))
      go true = silent-aside counts place
      go false = in-degrees-aside (found counts) counts place

-- ---- `quietest`

place-page : (p : Result ℕ Refusal) (values : List ℤ) (width : ℕ) (l : Log) → quietest_told p values width l ≡ on_page (told_of_place p values width l.counts) l
unfolding quietest_told told_of_place
place-page (Ok start) values width l = called-page 0 _ l.counts l refl
place-page (Err r) values width l = called-page 1 _ l.counts l refl

place-aside : (p : Result ℕ Refusal) (values : List ℤ) (width : ℕ) (counts : List ℕ) (place : ℕ)
    → Aside counts place (told_of_place p values width counts) (told_of_place p values width (set counts 0 place))
unfolding told_of_place
place-aside (Ok start) values width counts place = answered-aside 0 _ counts place
place-aside (Err r) values width counts place = answered-aside 1 _ counts place

module _ (width : ℕ) (differences : List ℤ) where
  quietest-page : (l : Log) → quietest_line width differences l ≡ on_page (told_of_quietest width (recorded differences l.counts) l.counts) l
  unfolding quietest_line told_of_quietest
  quietest-page l = place-page _ _ width l

  quietest-aside : (counts : List ℕ) (place : ℕ)
      → Aside counts place (told_of_quietest width (recorded differences counts) counts)
      (told_of_quietest width (recorded differences (set counts 0 place)) (set counts 0 place))
  unfolding told_of_quietest
  quietest-aside counts place = rw (get_or-set_other counts 0 10 place 0 (λ e. omega arith)) (place-aside _ _ width counts place)

-- ---- `listing`, but for what it leaves on the page

module _ (d first : ℕ) where
  listing-told-aside : (values : List ℤ) (used : ℕ) (counts : List ℕ) (place : ℕ)
      → Aside counts place (told_of_listing d first values used counts) (told_of_listing d first values used (set counts 0 place))
  unfolding told_of_listing
  listing-told-aside values used counts place = go (last_above d first (length values))
    where
      go : (b : Bool)
          → Aside counts place
          (cond b (answered 1 (refused (ascii "listing") 20) counts) (answered 0 (listing_head used ++ (lines d first values ∷ [])) counts))
          (cond b (answered 1 (refused (ascii "listing") 20) (set counts 0 place))
          (answered 0 (listing_head used ++ (lines d first values ∷ [])) (set counts 0 place)))
      go true = answered-aside 1 _ counts place
      go false = answered-aside 0 _ counts place

  listing-aside : (differences : List ℤ) (counts : List ℕ) (place : ℕ)
      → Aside counts place (told_of_listing d first (recorded differences counts) (get_or counts 10 0) counts)
      (told_of_listing d first (recorded differences (set counts 0 place)) (get_or (set counts 0 place) 10 0) (set counts 0 place))
  listing-aside differences counts place =
      rw (get_or-set_other counts 0 10 place 0 (λ e. omega arith)) (listing-told-aside (recorded differences counts) (get_or counts 10 0) counts place)

-- ---- the record's differences are of 32 bits

signed-fits : (w : ℕ) → nat_abs (signed_of w) ≤ 2147483648
unfolding signed_of
signed-fits w = by-ltb w 2147483648 (λ h e. rw e (omega arith)) (λ h e. rw e (omega arith))

set-fits : (values : List ℤ) (i : ℕ) (x : ℤ) → Fit values → nat_abs x ≤ 2147483648 → Fit (set values i x)
set-fits values i x fit small k h =
    let inside : k < length values = omega (arith, length-set values i x) in
    by_eqb k i (λ e _. let there : i < length values = omega arith in rw (e, get_or-set_same values i x (pos 0) there) small)
    (λ e _. rw (get_or-set_other values i k x (pos 0) e) (fit k inside))

one-fits : (x : ℤ) (k : Kept ℤ) → Fit k.values → nat_abs x ≤ 2147483648 → Fit (kept_one x k).values
unfolding kept_one
one-fits x k fit small = go (ltb k.used (length k.values))
  where
    go : (b : Bool) → Fit (cond b record { values = set k.values k.used x; used = k.used + 1 } k).values
    go true = set-fits k.values k.used x fit small
    go false = fit

kept-fits : (ws : List ℕ) (k : Kept ℤ) → Fit k.values → Fit (kept_each (map signed_of ws) k).values
unfolding kept_each
kept-fits [] k fit = fit
kept-fits (w ∷ ws) k fit = kept-fits ws (kept_one (signed_of w) k) (one-fits (signed_of w) k fit (signed-fits w))

record-fits : (ws : List ℕ) (differences : List ℤ) (l : Log) → Fit differences → Fit (record_line ws record { differences = differences; log = l }).differences
unfolding record_line
record-fits ws differences l fit = kept-fits ws record { values = differences; used = get_or l.counts 10 0 } fit

-- They stay so, whatever the line
pub analysis-fits : (content : Content) (numbers : List ℕ) (m : Model) (s : ItemKept) → Fit s.differences
    → Fit (analysis_line content numbers m s).differences
unfolding analysis_line
analysis-fits Content.Nothing numbers m s fit = fit
analysis-fits Content.TooLong numbers m s fit = fit
analysis-fits Content.UnknownWord numbers m s fit = fit
analysis-fits Content.BadNumber numbers m s fit = fit
analysis-fits Content.WrongCount numbers m s fit = fit
analysis-fits Content.Item numbers m s fit = fit
analysis-fits (Content.Bus n) numbers m s fit = fit
analysis-fits (Content.BusOut size n) numbers m s fit = fit
analysis-fits (Content.Tick n) numbers m s fit = fit
analysis-fits (Content.Flight up down) numbers m s fit = fit
analysis-fits (Content.Temperature n) numbers m s fit = fit
analysis-fits Content.Int numbers m s fit = fit
analysis-fits Content.Awaited numbers m s fit = fit
analysis-fits Content.Regs numbers m s fit = fit
analysis-fits (Content.Expect a n) numbers m s fit = fit
analysis-fits Content.Show numbers m s fit = fit
analysis-fits (Content.Set a n) numbers m s fit = fit
analysis-fits (Content.At t) numbers m s fit = fit
analysis-fits (Content.Stretch n) numbers m s fit = fit
analysis-fits Content.Frames numbers m s fit = fit
analysis-fits (Content.Probe n) numbers m s fit = fit
analysis-fits Content.Degrees numbers m s fit = fit
analysis-fits (Content.Record n) numbers m s fit = record-fits _ s.differences s.log fit
analysis-fits (Content.Listing old first) numbers m s fit = fit
analysis-fits (Content.Quietest n) numbers m s fit = fit

-- and so are those that a listing prints.
pub recorded-fit : (differences : List ℤ) (counts : List ℕ) → Fit differences → Fit (recorded differences counts)
recorded-fit differences counts fit k h =
    let n = get_or counts 10 0 in
    let few : k < n = omega (arith, length-take n differences) in
    let some : k < length differences = omega (arith, length-take n differences) in
    rw (get_or-take n differences k (pos 0) few) (fit k some)

-- ---- every line

-- What a listing asks of the buffer and the record: room for what it tells in a buffer of less than 2^64 bytes, and differences of 32
-- bits. No other line asks anything.
pub record Listable (content : Content) (told : Told) (s : ItemKept) : Type 0 where
  pub room : is_listing content ≡ true → HasRoom told s.log
  pub small : is_listing content ≡ true → length s.log.answers ≤ no_room
  pub fit : is_listing content ≡ true → Fit s.differences

-- What such a line leaves of counts and answers is what it tells, on the page.
pub analysis-page : (content : Content) (numbers : List ℕ) (m : Model) (s : ItemKept) → Listable content (analysis_told content numbers m s) s
    → (analysis_line content numbers m s).log ≡ on_page (analysis_told content numbers m s) s.log
unfolding analysis_line analysis_told is_listing
analysis-page Content.Nothing numbers m s can = silent-page s.log
analysis-page Content.TooLong numbers m s can = silent-page s.log
analysis-page Content.UnknownWord numbers m s can = silent-page s.log
analysis-page Content.BadNumber numbers m s can = silent-page s.log
analysis-page Content.WrongCount numbers m s can = silent-page s.log
analysis-page Content.Item numbers m s can = silent-page s.log
analysis-page (Content.Bus n) numbers m s can = silent-page s.log
analysis-page (Content.BusOut size n) numbers m s can = silent-page s.log
analysis-page (Content.Tick n) numbers m s can = silent-page s.log
analysis-page (Content.Flight up down) numbers m s can = silent-page s.log
analysis-page (Content.Temperature n) numbers m s can = silent-page s.log
analysis-page Content.Int numbers m s can = silent-page s.log
analysis-page Content.Awaited numbers m s can = silent-page s.log
analysis-page Content.Regs numbers m s can = silent-page s.log
analysis-page (Content.Expect a n) numbers m s can = silent-page s.log
analysis-page Content.Show numbers m s can = silent-page s.log
analysis-page (Content.Set a n) numbers m s can = silent-page s.log
analysis-page (Content.At t) numbers m s can = silent-page s.log
analysis-page (Content.Stretch n) numbers m s can = silent-page s.log
analysis-page Content.Frames numbers m s can = silent-page s.log
analysis-page (Content.Probe n) numbers m s can = probe-page _ s.probes s.log
analysis-page Content.Degrees numbers m s can = degrees-page numbers s.probes s.log
analysis-page (Content.Record n) numbers m s can = record-page _ s.differences s.log
analysis-page (Content.Listing old first) numbers m s can = listing-page old first s.differences s.log (can.room refl) (can.small refl) (recorded-fit s.differences s.log.counts (can.fit refl))
analysis-page (Content.Quietest n) numbers m s can = quietest-page n s.differences s.log

-- What it tells goes by neither the answers nor where they end.
abbrev pub otherwise : ItemKept → ℕ → List ℕ → ItemKept
otherwise s place answers =
    record { differences = s.differences; probes = s.probes; log = record { counts = set s.log.counts 0 place; answers = answers } }

pub analysis-aside : (content : Content) (numbers : List ℕ) (m : Model) (s : ItemKept) (place : ℕ) (answers : List ℕ)
    → Aside s.log.counts place (analysis_told content numbers m s) (analysis_told content numbers m (otherwise s place answers))
unfolding analysis_told
analysis-aside Content.Nothing numbers m s place answers = silent-aside s.log.counts place
analysis-aside Content.TooLong numbers m s place answers = silent-aside s.log.counts place
analysis-aside Content.UnknownWord numbers m s place answers = silent-aside s.log.counts place
analysis-aside Content.BadNumber numbers m s place answers = silent-aside s.log.counts place
analysis-aside Content.WrongCount numbers m s place answers = silent-aside s.log.counts place
analysis-aside Content.Item numbers m s place answers = silent-aside s.log.counts place
analysis-aside (Content.Bus n) numbers m s place answers = silent-aside s.log.counts place
analysis-aside (Content.BusOut size n) numbers m s place answers = silent-aside s.log.counts place
analysis-aside (Content.Tick n) numbers m s place answers = silent-aside s.log.counts place
analysis-aside (Content.Flight up down) numbers m s place answers = silent-aside s.log.counts place
analysis-aside (Content.Temperature n) numbers m s place answers = silent-aside s.log.counts place
analysis-aside Content.Int numbers m s place answers = silent-aside s.log.counts place
analysis-aside Content.Awaited numbers m s place answers = silent-aside s.log.counts place
analysis-aside Content.Regs numbers m s place answers = silent-aside s.log.counts place
analysis-aside (Content.Expect a n) numbers m s place answers = silent-aside s.log.counts place
analysis-aside Content.Show numbers m s place answers = silent-aside s.log.counts place
analysis-aside (Content.Set a n) numbers m s place answers = silent-aside s.log.counts place
analysis-aside (Content.At t) numbers m s place answers = silent-aside s.log.counts place
analysis-aside (Content.Stretch n) numbers m s place answers = silent-aside s.log.counts place
analysis-aside Content.Frames numbers m s place answers = silent-aside s.log.counts place
analysis-aside (Content.Probe n) numbers m s place answers = probe-aside _ s.probes s.log.counts place
analysis-aside Content.Degrees numbers m s place answers = degrees-aside numbers s.probes s.log.counts place
analysis-aside (Content.Record n) numbers m s place answers = record-aside _ s.differences s.log.counts place
analysis-aside (Content.Listing old first) numbers m s place answers = listing-aside (capture_digits (width_of old)) first s.differences s.log.counts place
analysis-aside (Content.Quietest n) numbers m s place answers = quietest-aside n s.differences s.log.counts place

abbrev counting : ItemKept → List ℕ → ItemKept
counting s counts = record { differences = s.differences; probes = s.probes; log = record { counts = counts; answers = s.log.answers } }

-- It leaves the first count as it was.
pub analysis-first : (content : Content) (numbers : List ℕ) (m : Model) (s : ItemKept) → 0 < length s.log.counts
    → get_or (analysis_told content numbers m s).counts 0 0 ≡ get_or s.log.counts 0 0
analysis-first content numbers m s =
    first-left (λ counts. analysis_told content numbers m (counting s counts)) (λ counts place. analysis-aside content numbers m (counting s counts) place s.log.answers)
    s.log.counts

-- ---- what is kept

-- The record and the probe table after a line go by neither the answers nor where they end.
pub analysis-kept : (content : Content) (numbers : List ℕ) (m : Model) (s : ItemKept) (place : ℕ) (answers : List ℕ)
    → ((analysis_line content numbers m (otherwise s place answers)).differences ≡ (analysis_line content numbers m s).differences)
    × ((analysis_line content numbers m (otherwise s place answers)).probes ≡ (analysis_line content numbers m s).probes)
unfolding analysis_line probe_line record_line
analysis-kept Content.Nothing numbers m s place answers = (refl, refl)
analysis-kept Content.TooLong numbers m s place answers = (refl, refl)
analysis-kept Content.UnknownWord numbers m s place answers = (refl, refl)
analysis-kept Content.BadNumber numbers m s place answers = (refl, refl)
analysis-kept Content.WrongCount numbers m s place answers = (refl, refl)
analysis-kept Content.Item numbers m s place answers = (refl, refl)
analysis-kept (Content.Bus n) numbers m s place answers = (refl, refl)
analysis-kept (Content.BusOut size n) numbers m s place answers = (refl, refl)
analysis-kept (Content.Tick n) numbers m s place answers = (refl, refl)
analysis-kept (Content.Flight up down) numbers m s place answers = (refl, refl)
analysis-kept (Content.Temperature n) numbers m s place answers = (refl, refl)
analysis-kept Content.Int numbers m s place answers = (refl, refl)
analysis-kept Content.Awaited numbers m s place answers = (refl, refl)
analysis-kept Content.Regs numbers m s place answers = (refl, refl)
analysis-kept (Content.Expect a n) numbers m s place answers = (refl, refl)
analysis-kept Content.Show numbers m s place answers = (refl, refl)
analysis-kept (Content.Set a n) numbers m s place answers = (refl, refl)
analysis-kept (Content.At t) numbers m s place answers = (refl, refl)
analysis-kept (Content.Stretch n) numbers m s place answers = (refl, refl)
analysis-kept Content.Frames numbers m s place answers = (refl, refl)
analysis-kept (Content.Probe n) numbers m s place answers = (refl, rw (get_or-set_other s.log.counts 0 11 place 0 (λ e. omega arith)))
analysis-kept Content.Degrees numbers m s place answers = (refl, refl)
analysis-kept (Content.Record n) numbers m s place answers = (rw (get_or-set_other s.log.counts 0 10 place 0 (λ e. omega arith)), refl)
analysis-kept (Content.Listing old first) numbers m s place answers = (refl, refl)
analysis-kept (Content.Quietest n) numbers m s place answers = (refl, refl)

-- What is told is the same whatever the answers are.
pub any-answers : (content : Content) (numbers : List ℕ) (m : Model) (s : ItemKept) (answers : List ℕ)
    → analysis_told content numbers m record { differences = s.differences; probes = s.probes; log = record { counts = s.log.counts; answers = answers } }
    ≡ analysis_told content numbers m s
any-answers content numbers m s answers =
    let place = get_or s.log.counts 0 0 in
    let there = rw (set-get_or s.log.counts 0 0) at (analysis-aside content numbers m s place answers).same in
    let here = rw (set-get_or s.log.counts 0 0) at (analysis-aside content numbers m s place s.log.answers).same in
    there ∙ sym here
