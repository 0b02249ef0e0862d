-- Arrays entry by entry.
use Prim.Native.Nat.{ℕ, zero, suc, ◌+◌, ◌≤◌}
use native.Mathlib.Omega.{arith}
use mathlib.Core.List.{List, [], ◌∷◌, ◌++◌}
use mathlib.Core.Path.{◌≡◌, refl, ap, ◌∙◌}
use lib.ListN.{length, get_or, take, drop}
use lib.Seq.{drop-cons, take_all}
use mathlib.Core.Bool.{true, false}
use Rattle.unit.proofs.Cases.{by_eqb}
use Rattle.unit.specs.declared.Quanta.{Quanta}
use Rattle.hit.specs.Words.{no_quanta}
use Rattle.calendar.specs.declared.Clock.{Clock}
use Rattle.device.specs.declared.Flight.{Flight}
use Rattle.device.specs.declared.Temperature.{Temperature}
use Rattle.device.specs.declared.Model.{Model}
use Rattle.layout.specs.Layout.{formed, part, double, quadruple, clock_words, waits}

pub part-taken : (l : List ℕ) (at n : ℕ) → at + n ≤ length l → part l at n ≡ take n (drop at l)
part-taken l at zero h = refl
part-taken l at (suc n) h =
    rw (drop-cons l at 0 (omega arith))
    (ap (λ (r : List ℕ). get_or l at 0 ∷ r) (part-taken l (suc at) n (omega arith)))

pub whole : (l : List ℕ) (n : ℕ) → length l ≡ n → part l 0 n ≡ l
whole l n e = part-taken l 0 n (omega arith) ∙ take_all n l (omega arith)

pub double-parts :
    (m : Model) →
    length m.setup ≡ 16 →
    part m.setup 0 16 ++ m.flight.schedule.good ∷ m.temperature.schedule.good ∷ [] ≡ double m
unfolding double
double-parts m s =
    ap (λ (l : List ℕ). l ++ m.flight.schedule.good ∷ m.temperature.schedule.good ∷ []) (whole m.setup 16 s)

pub quadruple-parts :
    (c : Clock) (f : Flight) (t : Temperature) →
    length f.ups ≡ 7 →
    length f.downs ≡ 7 →
    length t.ports ≡ 4 →
    clock_words c ++ waits f.schedule ++ waits t.schedule ++ part f.ups 0 7 ++ part f.downs 0 7
    ++ f.difference ∷ part t.ports 0 4
    ≡ quadruple c f t
unfolding quadruple
quadruple-parts c f t u d p =
    let times : List ℕ = clock_words c ++ waits f.schedule ++ waits t.schedule in
    ap (λ (l : List ℕ). times ++ l ++ part f.downs 0 7 ++ f.difference ∷ part t.ports 0 4) (whole f.ups 7 u)
    ∙ ap (λ (l : List ℕ). times ++ f.ups ++ l ++ f.difference ∷ part t.ports 0 4) (whole f.downs 7 d)
    ∙ ap (λ (l : List ℕ). times ++ f.ups ++ f.downs ++ f.difference ∷ l) (whole t.ports 4 p)

-- the four sums, one by one
pub four-sums :
    (l : List Quanta) →
    length l ≡ 4 →
    record { 0 = (get_or l 0 no_quanta).0 } ∷
    record { 0 = (get_or l 1 no_quanta).0 } ∷
    record { 0 = (get_or l 2 no_quanta).0 } ∷
    record { 0 = (get_or l 3 no_quanta).0 } ∷
    []
    ≡ l
four-sums [] e = absurd (omega arith)
four-sums (a ∷ []) e = absurd (omega arith)
four-sums (a ∷ b ∷ []) e = absurd (omega arith)
four-sums (a ∷ b ∷ c ∷ []) e = absurd (omega arith)
four-sums (a ∷ b ∷ c ∷ d ∷ []) e = refl
four-sums (a ∷ b ∷ c ∷ d ∷ f ∷ l) e = absurd (omega arith)

pub formed-length : (bs : List ℕ) → formed bs ≡ true → length bs ≡ 233
unfolding formed
formed-length bs =
    by_eqb (length bs) 233 (λ e t f. e) (λ n t. rw t (λ (f : false ≡ true). let z : ◌≡◌ {A = ℕ} 0 1 = cc in absurd (omega arith)))
