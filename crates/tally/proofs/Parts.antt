-- The parts of a tally and of a summary, put together. Assumes nothing.
use Prim.Native.Nat.{ℕ, ◌-◌, ◌≤◌, ◌<◌}
use mathlib.Core.Path.{◌≡◌}
use mathlib.Core.Bool.{Bool, true}
use mathlib.Core.List.{List, [], ◌∷◌}
use lib.ListN.{take}
use borrow.Author.Tests.{lt-ltb, le-ltb, eq-eqb, ne_eqb}
use Rattle.numeral.specs.Place.{no_room, Put, Placed, put_each}
use Rattle.numeral.specs.Print.{decimal}
use Rattle.collection.specs.declared.Outcome.{Outcome}
use Rattle.collection.specs.declared.Kinds.{Kinds}
use Rattle.collection.specs.declared.Group.{Group}
use Rattle.collection.specs.declared.Tally.{Tally}
use Rattle.numeral.specs.Ascii.{ascii}
use Rattle.wording.specs.Text.{PutEach}
use Rattle.wording.proofs.Each.{put-none, put_first, put_then}
use Rattle.collection.specs.Kind.{kinds}
use Rattle.collection.specs.Group.{one_more, name_texts, Members, joined}
use Rattle.collection.specs.Tally.{collection, agreed, after}
use Rattle.collection.specs.Summary.{more_texts, group_texts}

-- A file that belongs to a group, and has been put behind its names or found no room there.
module _ {belongs : Bool} (belong : belongs ≡ true) (name : List ℕ) (g : Group) (l : List ℕ) {l' : List ℕ} {r : ℕ}
    (put : ◌≡◌ {A = Placed} (record { next = r; bytes = l' }) (put_each l g.used (name_texts name))) where
  pub joined-unnamed : r ≡ no_room → {n : ℕ} → n ≡ one_more g.count
      → ◌≡◌ {A = Members} (record { group = record { count = n; named = g.named; used = g.used }; names = l' }) (joined belongs name (record { group = g; names = l }))
  unfolding joined
  joined-unnamed full more = rw (belong, ← put, eq-eqb r no_room full, more)

  pub joined-named : (r ≡ no_room → ⊥) → {n m : ℕ} → n ≡ one_more g.count → m ≡ one_more g.named
      → ◌≡◌ {A = Members} (record { group = record { count = n; named = m; used = r }; names = l' }) (joined belongs name (record { group = g; names = l }))
  unfolding joined
  joined-named some more named = rw (belong, ← put, ne_eqb r no_room some, more, named)

-- A tally after another file.
pub added : (o : Outcome) (name : List ℕ) (t : Tally) (l₁ l₂ l₃ l₄ l₅ : List ℕ) {k : Kinds} {f a : ℕ} {g₁ g₂ g₃ g₄ g₅ : Group} {m₁ m₂ m₃ m₄ m₅ : List ℕ} → k ≡ kinds o
    → ◌≡◌ {A = Members} (record { group = g₁; names = m₁ }) (joined k.differ name (record { group = t.differ; names = l₁ }))
    → ◌≡◌ {A = Members} (record { group = g₂; names = m₂ }) (joined k.unannounced name (record { group = t.unannounced; names = l₂ }))
    → ◌≡◌ {A = Members} (record { group = g₃; names = m₃ }) (joined k.bad name (record { group = t.bad; names = l₃ }))
    → ◌≡◌ {A = Members} (record { group = g₄; names = m₄ }) (joined k.unread name (record { group = t.unread; names = l₄ }))
    → ◌≡◌ {A = Members} (record { group = g₅; names = m₅ }) (joined k.plain name (record { group = t.plain; names = l₅ }))
    → f ≡ one_more t.files → a ≡ agreed t.agree k
    → collection (record { files = f; agree = a; differ = g₁; unannounced = g₂; bad = g₃; unread = g₄; plain = g₅ }) m₁ m₂ m₃ m₄ m₅ ≡ after o name (collection t l₁ l₂ l₃ l₄ l₅)
unfolding after
added o name t l₁ l₂ l₃ l₄ l₅ kind e₁ e₂ e₃ e₄ e₅ files agree = rw (← kind, ← e₁, ← e₂, ← e₃, ← e₄, ← e₅, files, agree)

-- `  and N more`, or nothing.
pub more-none : (g : Group) {l : List ℕ} {at : ℕ} → g.count ≤ g.named → PutEach l at (more_texts g) at l
unfolding ascii more_texts
more-none g {l} {at} all = rw (le-ltb g.named g.count all) (put-none l at)

pub more-some : (g : Group) {l l₁ l₂ : List ℕ} {at r₁ r₂ : ℕ} → g.named < g.count → Put l at (ascii "  and ") r₁ l₁
    → PutEach l₁ r₁ (decimal (g.count - g.named) ∷ ascii " more\n" ∷ []) r₂ l₂ → PutEach l at (more_texts g) r₂ l₂
unfolding ascii more_texts
more-some g some first rest = rw (lt-ltb g.named g.count some) (put_first first rest)

-- A group's part of the summary.
module _ (what : List ℕ) (g : Group) (names : List ℕ) {l : List ℕ} {at : ℕ} where
  pub group-none : g.count ≡ 0 → PutEach l at (group_texts what (record { group = g; names = names })) at l
  unfolding group_texts
  group-none none = rw (eq-eqb g.count 0 none) (put-none l at)

  pub group-some : (g.count ≡ 0 → ⊥) → {l₁ l₂ l₃ l₄ l₅ part : List ℕ} {r₁ r₂ r₃ r₄ r₅ : ℕ} → Put l at what r₁ l₁ → Put l₁ r₁ (ascii ": ") r₂ l₂
      → PutEach l₂ r₂ (decimal g.count ∷ ascii "\n" ∷ []) r₃ l₃ → part ≡ take g.used names → Put l₃ r₃ part r₄ l₄ → PutEach l₄ r₄ (more_texts g) r₅ l₅
      → PutEach l at (group_texts what (record { group = g; names = names })) r₅ l₅
  unfolding ascii group_texts
  group-some some a b c same d e =
      rw (ne_eqb g.count 0 some, ← same) (put_first a (put_first b (put_then c (put_first d e))))
