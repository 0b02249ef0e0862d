-- What the tally of a run tells of its files. Assumes nothing.
use Prim.Native.Nat.{ℕ, suc, ◌+◌, ◌≤◌, ◌<◌, min}
use mathlib.Core.Path.{◌≡◌, refl, ap, ◌∙◌}
use mathlib.Core.Bool.{Bool, true, false, cond}
use mathlib.Core.List.{List, [], ◌∷◌, ◌++◌}
use native.Mathlib.Omega.{arith}
use lib.Dec.{eqb}
use lib.ListN.{length}
use borrow.Author.Tests.{ltb-false, eqb-false}
use Rattle.numeral.specs.Place.{no_room, Placed, put_each}
use Rattle.collection.specs.declared.Outcome.{Outcome}
use Rattle.collection.specs.declared.Kinds.{Kinds}
use Rattle.collection.specs.declared.Group.{Group}
use Rattle.collection.specs.Kind.{kinds, agreeing}
use Rattle.collection.specs.Group.{one_more, Members, counted, joined}
use Rattle.collection.specs.Tally.{none, Collection, collection, agreed, after, File, collected}

-- A file that agrees, in plain numbers: it was read to its end, has an expectation, and nothing in it needs a look.
pub record Agrees (o : Outcome) : Type 0 where
  pub whole : o.whole ≡ true
  pub differ : o.differ ≡ 0
  pub unannounced : o.unannounced ≡ 0
  pub bad : o.bad ≡ 0
  pub expected : 0 < o.expected

passed : (t : Bool) {r : Bool} → cond t false r ≡ true → (t ≡ false) × (r ≡ true)
passed false h = (refl, h)
passed true h = let z : ◌≡◌ {A = ℕ} 0 1 = cc in absurd (omega arith)

numbers : (o : Outcome) (w : Bool) → o.whole ≡ w → agreeing (kinds o) ≡ true → Agrees o
unfolding kinds agreeing
numbers o true e = rw e (λ h.
    let a = passed _ h in
    let b = passed _ a.1 in
    let c = passed _ b.1 in
    let d = passed (eqb o.expected 0) {r = true} c.1 in
    let none = eqb-false o.expected 0 d.0 in
    record {
      whole = refl;
      differ = omega (arith, ltb-false 0 o.differ a.0);
      unannounced = omega (arith, ltb-false 0 o.unannounced b.0);
      bad = omega (arith, ltb-false 0 o.bad c.0);
      expected = omega (arith, none);
    })
numbers o false e = rw e (λ h. let z : ◌≡◌ {A = ℕ} 0 1 = cc in absurd (omega arith))

-- "A file without any expectation is told as such, and not as one that agrees"
pub agrees : (o : Outcome) → agreeing (kinds o) ≡ true → Agrees o
agrees o h = numbers o o.whole refl h

-- The order of the files: those of a second part come after those of the first.
pub in_order : (fs gs : List File) (c : Collection) → collected (fs ++ gs) c ≡ collected gs (collected fs c)
unfolding collected
in_order [] gs c = refl
in_order (f ∷ fs) gs c = in_order fs gs (after f.outcome f.name c)

-- One more file at the end of a run.
pub one_more_lem : (fs : List File) (f : File) (c : Collection) → collected (fs ++ (f ∷ [])) c ≡ after f.outcome f.name (collected fs c)
unfolding collected
one_more_lem fs f c = in_order fs (f ∷ []) c

-- How many files of a run are of a kind.
unfoldable pub number_of : (Kinds → Bool) → List File → ℕ
number_of kind [] = 0
number_of kind (f ∷ fs) = cond (kind (kinds f.outcome)) (number_of kind fs + 1) (number_of kind fs)

-- one more file: its count, the count of the files behind it, and what they come to together
next-count : (n n' others l total : ℕ) (b : Bool) → n + (l + 1) ≤ 18446744073709551615 → n' ≡ cond b (one_more n) n
    → (n' + l ≤ 18446744073709551615 → total ≡ n' + others) → total ≡ n + cond b (others + 1) others
next-count n n' others l total true h e rest =
    let same : n' ≡ n + 1 = omega arith in
    let all = rest (omega arith) in
    omega arith
next-count n n' others l total false h e rest = let all = rest (omega arith) in omega arith

-- A count that goes up by one with each file of a kind is, in the end, how many files are of that kind.
module _ (count : Collection → ℕ) (kind : Kinds → Bool)
    (step : (o : Outcome) (name : List ℕ) (c : Collection) → count (after o name c) ≡ cond (kind (kinds o)) (one_more (count c)) (count c)) where
  count_of : (fs : List File) (c : Collection) → count c + length fs ≤ 18446744073709551615 → count (collected fs c) ≡ count c + number_of kind fs
  unfolding collected number_of
  count_of [] c h = omega arith
  count_of (f ∷ fs) c h =
      let next = after f.outcome f.name c in
      next-count (count c) (count next) (number_of kind fs) (length fs) (count (collected fs next)) (kind (kinds f.outcome)) (omega arith)
      (step f.outcome f.name c) (count_of fs next)

joined-count : (belongs : Bool) (name : List ℕ) (m : Members) → (joined belongs name m).group.count ≡ cond belongs (one_more m.group.count) m.group.count
unfolding joined
joined-count false name m = refl
joined-count true name m = refl

module _ (o : Outcome) (name : List ℕ) (c : Collection) where
  next-files : (after o name c).files ≡ one_more c.files
  unfolding after
  next-files = refl

  next_agree : (after o name c).agree ≡ cond (agreeing (kinds o)) (one_more c.agree) c.agree
  unfolding after agreed
  next_agree = refl

  next-differ : (after o name c).differ.group.count ≡ cond (kinds o).differ (one_more c.differ.group.count) c.differ.group.count
  unfolding after
  next-differ = joined-count (kinds o).differ name c.differ

  next-unannounced : (after o name c).unannounced.group.count ≡ cond (kinds o).unannounced (one_more c.unannounced.group.count) c.unannounced.group.count
  unfolding after
  next-unannounced = joined-count (kinds o).unannounced name c.unannounced

  next-bad : (after o name c).bad.group.count ≡ cond (kinds o).bad (one_more c.bad.group.count) c.bad.group.count
  unfolding after
  next-bad = joined-count (kinds o).bad name c.bad

  next-unread : (after o name c).unread.group.count ≡ cond (kinds o).unread (one_more c.unread.group.count) c.unread.group.count
  unfolding after
  next-unread = joined-count (kinds o).unread name c.unread

  next-plain : (after o name c).plain.group.count ≡ cond (kinds o).plain (one_more c.plain.group.count) c.plain.group.count
  unfolding after
  next-plain = joined-count (kinds o).plain name c.plain

all_of : (fs : List File) → number_of (λ k. true) fs ≡ length fs
unfolding number_of
all_of [] = refl
all_of (f ∷ fs) = let rest = all_of fs in omega arith

-- "The run's last line counts all of them": each of its counts is how many files of the run are of that kind.
pub record Counts (fs : List File) (c : Collection) : Type 0 where
  pub files : c.files ≡ length fs
  pub agree : c.agree ≡ number_of agreeing fs
  pub differ : c.differ.group.count ≡ number_of (λ k. k.differ) fs
  pub unannounced : c.unannounced.group.count ≡ number_of (λ k. k.unannounced) fs
  pub bad : c.bad.group.count ≡ number_of (λ k. k.bad) fs
  pub unread : c.unread.group.count ≡ number_of (λ k. k.unread) fs
  pub plain : c.plain.group.count ≡ number_of (λ k. k.plain) fs

pub counts : (fs : List File) → length fs ≤ 18446744073709551615 → (differ unannounced bad unread plain : List ℕ)
    → Counts fs (collected fs (collection none differ unannounced bad unread plain))
counts fs h differ unannounced bad unread plain =
    let c = collection none differ unannounced bad unread plain in
    record {
      files = omega (arith, count_of (λ c. c.files) (λ k. true) next-files fs c (omega arith), all_of fs);
      agree = omega (arith, count_of (λ c. c.agree) agreeing next_agree fs c (omega arith));
      differ = omega (arith, count_of (λ c. c.differ.group.count) (λ k. k.differ) next-differ fs c (omega arith));
      unannounced = omega (arith, count_of (λ c. c.unannounced.group.count) (λ k. k.unannounced) next-unannounced fs c (omega arith));
      bad = omega (arith, count_of (λ c. c.bad.group.count) (λ k. k.bad) next-bad fs c (omega arith));
      unread = omega (arith, count_of (λ c. c.unread.group.count) (λ k. k.unread) next-unread fs c (omega arith));
      plain = omega (arith, count_of (λ c. c.plain.group.count) (λ k. k.plain) next-plain fs c (omega arith));
    }
