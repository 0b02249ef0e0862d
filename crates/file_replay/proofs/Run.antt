-- A run, turn by turn. Assumes nothing.
use Prim.Native.Nat.{ℕ, zero, suc, ◌+◌, ◌≤◌, ◌<◌}
use mathlib.Core.Bool.{Bool, true, false}
use mathlib.Core.List.{List, [], ◌∷◌, ◌++◌}
use mathlib.Core.Path.{◌≡◌, refl, ap, sym, ◌∙◌}
use native.Mathlib.Omega.{arith}
use lib.ListN.{length, replicate, length-append, length-replicate}
use Rattle.numeral.specs.Place.{joined}
use Rattle.collection.specs.declared.Tally.{Tally}
use Rattle.collection.specs.Tally.{none, Collection, collection, after, File, collected}
use Rattle.collection.specs.Summary.{summary_texts}
use Rattle.collection.proofs.Meaning.{one_more_lem}
use Rattle.file_replay.specs.declared.names.Source.{Source}
use Rattle.arguments.specs.declared.Options.{Options}
use Rattle.file_replay.specs.Sources.{is_there, place_behind, NextArgument, FromList}
use Rattle.file_replay.specs.Files as files
use Rattle.file_replay.specs.Files.{Turn, file_of, files_of, turn_places, places, ListTurns, Named, Gathered, Summed}
use Rattle.file_replay.proofs.Along.{Along, along-next, along-over}

-- The turns that were taken, n of them.
pub record SoFar (o : Options) (before now : Collection) (n : ℕ) (source : Source) (bytes path : List ℕ) : Type 0 where
  pub turns : List (Turn o.check)
  pub all : now ≡ collected (files_of turns) before
  pub counted : length turns ≡ n
  pub along : Along o turns source bytes path

pub no-turn : (o : Options) {s : Source} {bytes path : List ℕ} → Along o [] s bytes path → {t : Tally} → t ≡ none → (l₁ l₂ l₃ l₄ l₅ : List ℕ)
    → SoFar o (collection none l₁ l₂ l₃ l₄ l₅) (collection t l₁ l₂ l₃ l₄ l₅) 0 s bytes path
unfolding collected files_of
no-turn o first empty l₁ l₂ l₃ l₄ l₅ = rw empty (record { turns = []; all = refl; counted = refl; along = first })

files-then : {check : Bool} (ts : List (Turn check)) (t : Turn check) → files_of (ts ++ (t ∷ [])) ≡ files_of ts ++ (file_of t ∷ [])
unfolding files_of
files-then [] t = refl
files-then (u ∷ ts) t = ap (λ (fs : List File). file_of u ∷ fs) (files-then ts t)

-- The next turn adds its file, and no other.
pub next-turn : {o : Options} {b c c' : Collection} {n : ℕ} {s' : Source} {room : ℕ} {bytes bytes' path' : List ℕ} (t : Turn o.check)
    → room ≡ 4096 → SoFar o b c n t.source bytes t.path → {name : List ℕ} → name ≡ (file_of t).name → c' ≡ after t.came name c
    → (t.source.listed ≡ false → NextArgument t.source.next t.source.left s')
    → (t.source.listed ≡ true → FromList room t.source.next t.source.left [] bytes s' bytes' path') → SoFar o b c' (n + 1) s' bytes' path'
next-turn {o} {b} {c} {c'} {n} {s'} t long s {name} same e none more =
    record {
      turns = s.turns ++ (t ∷ []);
      all = rw files-then (rw (one_more_lem (files_of s.turns) (file_of t) b, ← s.all, ← same) e);
      counted = omega (arith, s.counted, length-append s.turns (t ∷ []));
      along = along-next t s.along none (λ h. rw long at (more h));
    }

pub whole_run : {o : Options} {b c : Collection} {n : ℕ} {source : Source} {bytes path : List ℕ} → SoFar o b c n source bytes path
    → (n < 18446744073709551615 → is_there source ≡ false) → Gathered o b c
whole_run s end =
    record {
      turns = s.turns;
      all = s.all;
      named = λ few. along-over s.along (end (omega (arith, s.counted)));
    }

pub summed : {o : Options} {before after : Collection} {bytes : List ℕ} → Gathered o before after → bytes ≡ joined (summary_texts after) → Summed o before bytes
summed {after = after} g s = record { after = after; gathered = g; summary = s }

-- ---- a run without a list

no-list : {o : Options} {turns : List (Turn o.check)} → ListTurns o turns → o.list ≡ 0 → turns ≡ []
no-list (files.none e) h = refl
no-list (files.whole turns some pieces e found) h = absurd (some h)
no-list (files.broken turns some pieces e found own is) h = absurd (some h)

places-long : {check : Bool} (ts : List (Turn check)) → length (turn_places ts) ≡ length ts
unfolding turn_places
places-long [] = refl
places-long (t ∷ ts) = ap suc (places-long ts)

as_many : (n place : ℕ) → length (places n place) ≡ n
unfolding places
as_many zero place = refl
as_many (suc n) place = ap suc (as_many n (place_behind place))

-- There are as many turns as arguments.
pub without-list : {o : Options} {turns : List (Turn o.check)} → Named o turns → o.list ≡ 0 → length turns ≡ o.files
without-list {o} n h =
    let all = n.both ∙ ap (λ (ts : List (Turn o.check)). ts ++ n.given) (no-list n.list h) in
    ap length all ∙ sym (places-long n.given) ∙ ap length n.arguments ∙ as_many o.files o.first

-- ---- buffers

-- A buffer of zeros is as long as it is made.
pub zeros-room : (n : ℕ) → n ≤ length {A = ℕ} (replicate n 0)
zeros-room n = omega (arith, length-replicate {A = ℕ} n 0)

pub zeros-few : (n : ℕ) → length {A = ℕ} (replicate n 0) ≤ n
zeros-few n = omega (arith, length-replicate {A = ℕ} n 0)
