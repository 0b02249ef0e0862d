-- Lines that add to what an item keeps, as steps. Assumes nothing.
use Prim.Native.Nat.{ℕ, zero, suc, ◌≤◌, min}
use mathlib.Core.Bool.{Bool, true, false}
use mathlib.Core.List.{List, [], ◌∷◌, ◌++◌}
use mathlib.Core.Path.{◌≡◌, refl, ap}
use native.Mathlib.Nat.{zero-min, min-zero, suc-min-suc}
use native.Mathlib.Omega.{arith}
use borrow.Author.Tests.{ltb-false}
use lib.Dec.{ltb}
use lib.IntN.{ℤ}
use lib.ListN.{length, take, length-take}
use Rattle.unit.specs.Choice.{pick}
use Rattle.text.specs.OwnPut.{Puts}
use Rattle.text.proofs.Putting.{puts_none}
use Rattle.item_line.specs.Line.{Fault, Expected}
use Rattle.item_answer.specs.declared.Carried.{Carried}
use Rattle.item_answer.specs.declared.Stepped.{Stepped}
use Rattle.item_answer.specs.Answer.{Item, Told, Result, told, fault, answer, probe_result, record_result}
use Rattle.item_answer.specs.Step.{bad_step, result_step}
use Rattle.item_answer.specs.OwnView.{item_of}
use Rattle.item_keep_code.specs.declared.Added.{Added}
use Rattle.item_keep_code.specs.OwnAdded.{Adds, ProbeAdds, RecordAdds, line_in, with_probes, with_recorded}
use Rattle.item_answer_code.specs.OwnSteps.{Few, Steps}
use Rattle.item_answer_code.specs.OwnFirst.{First, AddSteps, told_in}
use Rattle.item_answer_code.proofs.Closing.{result-steps, steps-after}

-- Places past the end are none.
take_min : {A : Type 0} (n m : ℕ) (l : List A) → length (take n l) ≤ m → take (min n m) l ≡ take n l
take_min zero m l h = rw (zero-min m)
take_min (suc n) zero [] h = rw (min-zero (suc n))
take_min (suc n) zero (x ∷ xs) h = absurd (omega arith)
take_min {A} (suc n) (suc m) [] h = rw (suc-min-suc n m)
take_min {A} (suc n) (suc m) (x ∷ xs) h = rw (suc-min-suc n m) (ap (λ (r : List A). x ∷ r) (take_min n m xs (omega arith)))

-- What was added is told, or that there is no room.
added-by : (number : ℕ) {i i' : Item} {result : Result} {l k l' : List ℕ} {at : ℕ} {a : Added} {x : Expected} {c : Carried} {r : Stepped} {fs : List ℕ} {ds : List ℤ} {es : List ℕ}
    → Adds l at i result a i' k → AddSteps number c a.fits a.end x k at r l' → item_of c fs ds es ≡ i' → Few c
    → (b : Bool) → a.fits ≡ b → Steps (result_step number 0 x result i) l at r fs ds es l'
unfolding result_step line_in
added-by number {i} {i'} {result} {l} {k} {l'} {at} {a} {x} {c} {r} {fs} {ds} {es} adds s same few true e =
    let first : First (answer (line_in result) [] i') l at (record { carried = c; end = a.end; refused = false }) fs ds es k =
    record { line = adds.line; item = same; refused = refl; few = few } in
    result-steps number i (adds.told e) first (s.fitting e) (puts_none l' r.end)
added-by number {i} {i'} {result} {l} {k} {l'} {at} {a} {x} {c} {r} {fs} {ds} {es} adds s same few false e =
    let is : result ≡ fault Fault.no_room = adds.full e in
    let none : Puts l at [] a.end k = rw is at adds.line in
    let bad : Steps (bad_step number Fault.no_room i) k a.end r fs ds es l' = rw (← adds.kept e, ← same) (s.full e fs ds es) in
    rw is (steps-after none bad)

-- What is told to be kept has room.
is_told : Result → ℕ
is_told (told t) = 1
is_told (fault f) = 0

told-short : {A : Type 0} (i : Item) (n : ℕ) (all : List A) (u t : Told) (get : Told → List A) → get u ≡ all
    → (b : Bool) → ltb n (length all) ≡ b → pick (ltb n (length all)) (fault Fault.no_room) (told u) ≡ told t → length (get t) ≤ n
unfolding is_told told_in
told-short i n all u t get same true e h =
    let g : fault Fault.no_room ≡ told t = rw e at h in let z : ◌≡◌ {A = ℕ} 0 1 = ap is_told g in absurd (omega arith)
told-short i n all u t get same false e h =
    let g : told u ≡ told t = rw e at h in
    let sizes : length (get u) ≡ length (get t) = ap (λ (r : Result). length (get (told_in i r))) g in
    let most : length (get u) ≤ n = rw same (ltb-false n (length all) e) in
    omega arith

module _ {l k : List ℕ} {at : ℕ} {a : Added} (i : Item) where
  probes-short : (entries : List ℕ) {T : List ℕ} → length i.probes ≤ 1024 → Adds l at i (probe_result entries i) a (with_probes i T) k → (b : Bool) → a.fits ≡ b → length T ≤ 1024
  unfolding probe_result
  probes-short entries {T} h adds true e = told-short i 1024 (i.probes ++ entries) _ _ (λ t. t.item.probes) refl _ refl (adds.told e)
  probes-short entries {T} h adds false e =
      let same : length T ≡ length i.probes = ap (λ (j : Item). length j.probes) (adds.kept e) in omega arith

  recorded-short : (more : List ℤ) {T : List ℤ} → length i.recorded ≤ 4096 → Adds l at i (record_result more i) a (with_recorded i T) k → (b : Bool) → a.fits ≡ b → length T ≤ 4096
  unfolding record_result
  recorded-short more {T} h adds true e = told-short i 4096 (i.recorded ++ more) _ _ (λ t. t.item.recorded) refl _ refl (adds.told e)
  recorded-short more {T} h adds false e =
      let same : length T ≡ length i.recorded = ap (λ (j : Item). length j.recorded) (adds.kept e) in omega arith

-- The first places of a list are no more than they are.
taken : {A : Type 0} (n m : ℕ) (l : List A) → n ≤ m → length (take n l) ≤ m
taken n m l h = let size = length-take n l in omega (arith, size)

module _ (number : ℕ) {l k l' : List ℕ} {at count : ℕ} {a : Added} {x : Expected} (c : Carried) {r : Stepped} (few : Few c) where
  -- `probe`
  pub probe-steps : (entries table table' fs : List ℕ) (ds : List ℤ) → count ≡ min a.count 1024 → ProbeAdds l at entries table c.probes a table' k
      → AddSteps number (record { model = c.model; moment = c.moment; recorded = c.recorded; probes = count }) a.fits a.end x k at r l'
      → Steps (result_step number 0 x (probe_result entries (item_of c fs ds table)) (item_of c fs ds table)) l at r fs ds table' l'
  unfolding item_of
  probe-steps entries table table' fs ds counted adds s =
      let own = adds (item_of c fs ds table) refl in
      let short = probes-short (item_of c fs ds table) entries (taken c.probes 1024 table few.probes) own a.fits refl in
      added-by number own s (ap (with_probes (item_of c fs ds table)) (rw counted (take_min a.count 1024 table' short)))
      (record { recorded = few.recorded; probes = omega arith }) a.fits refl

  -- `record`
  pub record-steps : (more kept kept' : List ℤ) (fs es : List ℕ) → count ≡ min a.count 4096 → RecordAdds l at more kept c.recorded a kept' k
      → AddSteps number (record { model = c.model; moment = c.moment; recorded = count; probes = c.probes }) a.fits a.end x k at r l'
      → Steps (result_step number 0 x (record_result more (item_of c fs kept es)) (item_of c fs kept es)) l at r fs kept' es l'
  unfolding item_of
  record-steps more kept kept' fs es counted adds s =
      let own = adds (item_of c fs kept es) refl in
      let short = recorded-short (item_of c fs kept es) more (taken c.recorded 4096 kept few.recorded) own a.fits refl in
      added-by number own s (ap (with_recorded (item_of c fs kept es)) (rw counted (take_min a.count 4096 kept' short)))
      (record { recorded = omega arith; probes = few.probes }) a.fits refl
