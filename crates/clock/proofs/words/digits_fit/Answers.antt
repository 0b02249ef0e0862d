-- `clock::words::digits_fit` meets its contract.
use Prim.Native.Nat.{ℕ, ◌/◌, ◌%◌}
use mathlib.Core.Path.{◌≡◌, refl, sym, ◌∙◌}
use mathlib.Core.Bool.{Bool, true, false}
use mathlib.Core.List.{List, [], ◌∷◌}
use lib.Dec.{ltb, leb}
use borrow.Author.Rules.{rules}
use borrow.Author.Tests.{lt-leb, le-leb}
use Rattle.std.specs.List.{list_all}
use Rattle.std.proofs.lemmas.Iterator.{YieldsList-from_slice}
use Rattle.std.proofs.lemmas.Iterator.Search.{all_from_yields_List}
use Rattle.unit.specs.Choice.{pick}
use Rattle.unit.proofs.Cases.{by-ltb}
use Rattle.unit.proofs.Tests.{tests}
use Rattle.calendar.specs.Words.{digits_fit}
use Rattle.clock.proofs.words.digits_fit.Goals as goal

-- the digits that nothing else bounds
abbrev digits : ℕ → ℕ → ℕ → List ℕ
digits w30 w32 w33 =
    w30 / 4096 % 16 ∷ w30 / 256 % 16 ∷ w30 % 16 ∷ w32 % 16 ∷ w33 / 256 % 16 ∷ w33 / 16 % 16 ∷ w33 % 16 ∷ []

-- the digits judged in turn, and then the rest
abbrev in_turn : List ℕ → Bool → Bool
in_turn [] rest = rest
in_turn (d ∷ ds) rest = pick (ltb 9 d) false (in_turn ds rest)

each-fits : (ds : List ℕ) (rest : Bool) → list_all (λ d. leb d 9) ds ≡ true → rest ≡ in_turn ds rest
each-fits [] rest e = refl
each-fits (d ∷ ds) rest e =
    by-ltb 9 d
    (λ h t. let w = rw (lt-leb d 9 h) at e in cc)
    (λ h t. rw t (each-fits ds rest (rw (le-leb d 9 h) at e)))

one-not : (ds : List ℕ) (rest : Bool) → list_all (λ d. leb d 9) ds ≡ false → false ≡ in_turn ds rest
one-not [] rest e = cc
one-not (d ∷ ds) rest e =
    by-ltb 9 d
    (λ h t. rw t refl)
    (λ h t. rw t (one-not ds rest (rw (le-leb d 9 h) at e)))

pub returns-then-all : goal.returns-then-all
unfolding digits_fit
returns-then-all c =
    let ds = digits c.args.w30 c.args.w32 c.args.w33 in
    let e = all_from_yields_List {all = ds} (λ d. leb d 9) _ _ c.all.result c.all.ensures.ran (YieldsList-from_slice ds cc) (λ x b q k. search (rules, tests)) in
    c.time_digits.ensures ∙ each-fits ds _ (sym e ∙ c.if-all.true)

pub returns-else-all : goal.returns-else-all
unfolding digits_fit
returns-else-all c =
    let ds = digits c.args.w30 c.args.w32 c.args.w33 in
    let e = all_from_yields_List {all = ds} (λ d. leb d 9) _ _ c.all.result c.all.ensures.ran (YieldsList-from_slice ds cc) (λ x b q k. search (rules, tests)) in
    c.if-all.false ∙ one-not ds _ (sym e ∙ c.if-all.false)
