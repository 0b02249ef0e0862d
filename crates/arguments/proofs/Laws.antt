-- Words that are read one by one come to what they ask for. Assumes nothing.
use Prim.Native.Nat.{ℕ, ◌+◌, ◌-◌}
use mathlib.Core.Bool.{Bool, true, false, cond, true≢false}
use mathlib.Core.List.{List, [], ◌∷◌, ◌++◌}
use mathlib.Core.Path.{◌≡◌, refl, sym, ◌∙◌}
use native.Mathlib.Omega.{arith}
use lib.ListN.{length, drop}
use Rattle.unit.proofs.Cases.{by-test}
use Rattle.numeral.specs.Ascii.{ascii}
use Rattle.line.specs.Words.{same_bytes}
use Rattle.line.proofs.WordLaws.{same_self, same-equal}
use Rattle.arguments.specs.declared.Options.{Options}
use Rattle.arguments.specs.declared.Stage.{Stage}
use Rattle.arguments.specs.declared.Stage.TheVariants.{Check, Of, Total, Files, Name, Dashes, Closed}
use Rattle.arguments.specs.declared.Found.{Found}
use Rattle.arguments.specs.declared.Reading.{Reading}
use Rattle.arguments.specs.Arguments.{begins, number_of, first_number, from_first, from_dashes, from_files, from_of, options_of}
use Rattle.arguments.specs.Reading.{found, reading, begun, dashes_read, files_read, of_read, check_read, next_read, read_each, open_at, is_open, taken, files_place, list_place, asked}

-- ---- tests

-- A bool that says whether two words are equal is the test.
pub same_test : (t : Bool) (a b : List ℕ) → (t ≡ true → a ≡ b) → (a ≡ b → t ≡ true) → t ≡ same_bytes a b
same_test true a b f g = sym (rw (f refl) (same_self b))
same_test false a b f g = by-test (same_bytes a b) (λ e. g (same-equal a b e) ∙ sym e) (λ e. sym e)

-- ---- all words

-- Behind the word that closes the options none is needed.
closed-stays : (f : Found) (ws : List (List ℕ)) → read_each (reading Closed f) ws ≡ reading Closed f
unfolding read_each
closed-stays f [] = refl
closed-stays f (w ∷ ws) = closed-stays f ws

same : {check : Bool} {total list list' first first' files files' : ℕ} → list ≡ list' → first ≡ first' → files ≡ files'
    → ◌≡◌ {A = Options} (record { check = check; total = total; list = list; first = first; files = files }) (record { check = check; total = total; list = list'; first = first'; files = files' })
same a b c = rw (a, b, c)

module _ (c t : Bool) (k n : ℕ) where
  -- `--`, or the first file, stands at a place.
  dashes-law : (l : Bool) (list place : ℕ) (ws : List (List ℕ)) → list_place (found c t k l false) ≡ list
      → files_place (found c t k l false) + taken l 2 ≡ place → n - place ≡ length ws
      → asked (read_each (reading Dashes (found c t k l false)) ws) n ≡ from_dashes c k list place ws
  unfolding asked read_each from_dashes from_first begins
  dashes-law l list place [] at there rest = same at (omega arith) (omega arith)
  dashes-law l list place (w ∷ ws) at there rest =
      rw (closed-stays _ ws) (by-test (same_bytes w (ascii "--")) (λ e. rw e (same at (omega arith) (omega arith))) (λ e. rw e (same at (omega arith) (omega arith))))

  -- The list, where `--files` stands at a place.
  name-law : (place : ℕ) (ws : List (List ℕ)) → files_place (found c t k true false) ≡ place → n - place ≡ length ws + 1
      → asked (read_each (reading Name (found c t k true false)) ws) n ≡ from_dashes c k (place + 1) (place + 2) (drop 1 ws)
  unfolding asked read_each
  name-law place [] there rest = dashes-law true (place + 1) (place + 2) [] (omega arith) (omega arith) (omega arith)
  name-law place (w ∷ ws) there rest = dashes-law true (place + 1) (place + 2) ws (omega arith) (omega arith) (omega arith)

  -- `--files`, or what can stand behind it, stands at a place.
  files-law : (place : ℕ) (ws : List (List ℕ)) → files_place (found c t k false false) ≡ place → n - place ≡ length ws
      → asked (read_each (reading Files (found c t k false false)) ws) n ≡ from_files c k place ws
  unfolding asked read_each files_read from_files begins
  files-law place [] there rest = dashes-law false 0 place [] refl (omega arith) rest
  files-law place (w ∷ ws) there rest = go (same_bytes w _)
    where
      go : (b : Bool)
          → asked (read_each (cond b (reading Name (found c t k true false)) (dashes_read (found c t k false false) w)) ws) n ≡ cond b (from_dashes c k (place + 1) (place + 2) (drop 1 ws)) (from_dashes c k 0 place (w ∷ ws))
      go true = name-law place ws there (omega arith)
      go false = dashes-law false 0 place (w ∷ ws) refl (omega arith) rest

module _ (c : Bool) (n : ℕ) where
  -- The N, where `--of` stands at a place.
  total-law : (place : ℕ) (ws : List (List ℕ)) → 1 + taken c 1 ≡ place → n - place ≡ length ws + 1
      → asked (read_each (reading Total (found c true 0 false false)) ws) n ≡ from_files c (first_number ws) (place + 2) (drop 1 ws)
  unfolding asked read_each first_number
  total-law place [] there rest = files-law c true 0 n (place + 2) [] (omega arith) (omega arith)
  total-law place (w ∷ ws) there rest = files-law c true (number_of w) n (place + 2) ws (omega arith) (omega arith)

  -- `--of`, or what can stand behind it, stands at a place.
  of-law : (place : ℕ) (ws : List (List ℕ)) → 1 + taken c 1 ≡ place → n - place ≡ length ws
      → asked (read_each (reading Of (found c false 0 false false)) ws) n ≡ from_of c place ws
  unfolding asked read_each of_read from_of begins
  of-law place [] there rest = files-law c false 0 n place [] (omega arith) rest
  of-law place (w ∷ ws) there rest = go (same_bytes w _)
    where
      go : (b : Bool)
          → asked (read_each (cond b (reading Total (found c true 0 false false)) (files_read (found c false 0 false false) w)) ws) n ≡ cond b (from_files c (first_number ws) (place + 2) (drop 1 ws)) (from_files c 0 place (w ∷ ws))
      go true = total-law place ws there (omega arith)
      go false = files-law c false 0 n place (w ∷ ws) (omega arith) rest

-- All words behind the program's name are read, where there are n arguments with it.
pub read_all : (n : ℕ) (ws : List (List ℕ)) → n - 1 ≡ length ws → asked (read_each begun ws) n ≡ options_of ws
unfolding asked read_each check_read options_of begins
read_all n [] rest = of-law false n 1 [] refl rest
read_all n (w ∷ ws) rest = go (same_bytes w _)
  where
    go : (b : Bool)
        → asked (read_each (cond b (reading Of (found true false 0 false false)) (of_read (found false false 0 false false) w)) ws) n ≡ cond b (from_of true 2 ws) (from_of false 1 (w ∷ ws))
    go true = of-law true n 2 ws refl (omega arith)
    go false = of-law false n 1 (w ∷ ws) refl rest

-- ---- words up to the last that is needed

read-then : (r : Reading) (ws more : List (List ℕ)) → read_each r (ws ++ more) ≡ read_each (read_each r ws) more
unfolding read_each
read-then r [] more = refl
read-then r (w ∷ ws) more = read-then (next_read r w) ws more

-- One word more is read.
pub read_next : (r : Reading) (ws : List (List ℕ)) (w : List ℕ) → read_each r (ws ++ (w ∷ [])) ≡ next_read (read_each r ws) w
unfolding read_each
read_next r ws w = read-then r ws (w ∷ [])

not-open : (r : Reading) → is_open r ≡ false → (ws : List (List ℕ)) → read_each r ws ≡ r
not-open r = go r.stage r.found
  where
    go : (s : Stage) (f : Found) → open_at s ≡ false → (ws : List (List ℕ)) → read_each (reading s f) ws ≡ reading s f
    go Check f e ws = absurd (true≢false e)
    go Of f e ws = absurd (true≢false e)
    go Total f e ws = absurd (true≢false e)
    go Files f e ws = absurd (true≢false e)
    go Name f e ws = absurd (true≢false e)
    go Dashes f e ws = absurd (true≢false e)
    go Closed f e ws = closed-stays f ws

-- Where no other word is needed, those that were read ask for what all do, whatever words stand behind them.
pub read-enough : (n : ℕ) (ws more : List (List ℕ)) → is_open (read_each begun ws) ≡ false → n - 1 ≡ length (ws ++ more)
    → asked (read_each begun ws) n ≡ options_of (ws ++ more)
read-enough n ws more closed count = rw (← not-open (read_each begun ws) closed more, ← read-then begun ws more) (read_all n (ws ++ more) count)
