-- Arguments that are handed over one by one. Assumes nothing.
use Prim.Native.Nat.{ℕ, ◌+◌, ◌-◌, ◌≤◌, ◌<◌}
use mathlib.Core.Bool.{false}
use mathlib.Core.List.{List, [], ◌∷◌, ◌++◌}
use mathlib.Core.Path.{◌≡◌, refl}
use native.Mathlib.Omega.{arith}
use lib.ListN.{length, length-append, replicate, length-replicate}
use Rattle.arguments.specs.declared.Options.{Options}
use Rattle.arguments.specs.declared.Reading.{Reading}
use Rattle.arguments.specs.Reading.{begun, next_read, read_each, is_open, asked}
use Rattle.arguments.proofs.Laws.{read_all, read_next, read-enough}
use Rattle.replay.specs.Given.{Given}

-- Of n arguments those before place i are handed over, but for the program's name.
pub record Handed (n i : ℕ) (r : Reading) : Type 0 where
  pub words : List (List ℕ)
  pub read : r ≡ read_each begun words
  pub place : i ≡ length words + 1
  pub within : length words ≤ n - 1

pub none-handed : (n : ℕ) {r : Reading} → r ≡ begun → Handed n 1 r
unfolding read_each
none-handed n e = record { words = []; read = e; place = refl; within = omega arith }

pub one-handed : {n i : ℕ} {r r' : Reading} (w : List ℕ) → Handed n i r → i < n → r' ≡ next_read r w → Handed n (i + 1) r'
one-handed {n} {i} w h less e =
    let long : length (h.words ++ (w ∷ [])) ≡ length h.words + 1 = length-append h.words (w ∷ []) in
    record {
      words = h.words ++ (w ∷ []);
      read = rw (read_next begun h.words w, ← h.read) e;
      place = omega (arith, long, h.place);
      within = omega (arith, long, h.place);
    }

-- All arguments are handed over,
pub given-all : {n i : ℕ} {r : Reading} {o : Options} → Handed n i r → n ≤ i → o ≡ asked r n → Given n o
given-all {n} h all e =
    let count : n - 1 ≡ length h.words = omega (arith, h.place, h.within) in
    record { words = h.words; count = count; asked = rw (e, h.read) (read_all n h.words count) }

-- or as many as are needed.
pub given-enough : {n i : ℕ} {r : Reading} {o : Options} → Handed n i r → is_open r ≡ false → o ≡ asked r n → Given n o
given-enough {n} h closed e =
    let left = n - 1 - length h.words in
    let more : List (List ℕ) = replicate left [] in
    let long : length (h.words ++ more) ≡ length h.words + length more = length-append h.words more in
    let count : n - 1 ≡ length (h.words ++ more) = omega (arith, long, length-replicate {A = List ℕ} left [], h.within) in
    record { words = h.words ++ more; count = count; asked = rw (e, h.read) (read-enough n h.words more (rw h.read at closed) count) }
