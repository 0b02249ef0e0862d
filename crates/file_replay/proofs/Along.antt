-- The names of a run, from the list and from the arguments. Assumes nothing.
use Prim.Native.Nat.{ℕ, zero, suc}
use mathlib.Core.Bool.{Bool, true, false, cond, true≢false}
use mathlib.Core.List.{List, [], ◌∷◌, ◌++◌, append-nil, append_assoc}
use mathlib.Core.Path.{◌≡◌, refl, ap, sym, ◌∙◌}
use native.Mathlib.Omega.{arith}
use lib.Dec.{eqb}
use lib.ListN.{take}
use borrow.Author.Tests.{eq-eqb, ne_eqb}
use Rattle.unit.proofs.Cases.{by_eqb}
use Rattle.line_buffer.specs.Lines.{has_line, whole_text}
use Rattle.file_names.specs.Names.{names_of, ended_names, Passed}
use Rattle.file_names.proofs.Laws.{passed_none, passed_then, passed-ended, passed-whole}
use Rattle.file_replay.specs.declared.names.Source.{Source}
use Rattle.arguments.specs.declared.Options.{Options}
use Rattle.file_replay.specs.Sources.{number_of, is_there, NextArgument, Stands, FromList, line, last, ended, broken}
use Rattle.file_replay.specs.Files as files
use Rattle.file_replay.specs.Files.{Turn, file_of, turn_names, turn_places, all_found, places, ListTurns, Named}

-- ---- whether a name is there

not_there : (s : Source) {state : ℕ} → number_of s.state ≡ state → ¬ (state ≡ 3) → is_there s ≡ false → ⊥
not_there s e other t =
    let u : true ≡ false = rw (ne_eqb (number_of s.state) 3 (λ q. other (sym e ∙ q))) at t in
    let w : ◌≡◌ {A = ℕ} 0 1 = cc in
    omega arith

ended-not-there : (s : Source) → number_of s.state ≡ 3 → is_there s ≡ true → ⊥
ended-not-there s e t =
    let u : false ≡ true = rw (eq-eqb (number_of s.state) 3 e) at t in
    let w : ◌≡◌ {A = ℕ} 0 1 = cc in
    omega arith

-- ---- names and places of turns

module _ {check : Bool} where
  names-then : (ts : List (Turn check)) (t : Turn check) → turn_names (ts ++ (t ∷ [])) ≡ turn_names ts ++ ((file_of t).name ∷ [])
  unfolding turn_names
  names-then [] t = refl
  names-then (u ∷ ts) t = ap (λ (ns : List (List ℕ)). (file_of u).name ∷ ns) (names-then ts t)

  places_then : (ts : List (Turn check)) (t : Turn check) → turn_places (ts ++ (t ∷ [])) ≡ turn_places ts ++ (t.source.next ∷ [])
  unfolding turn_places
  places_then [] t = refl
  places_then (u ∷ ts) t = ap (λ (ns : List ℕ). u.source.next ∷ ns) (places_then ts t)

  found-then : (ts : List (Turn check)) (t : Turn check) → all_found ts ≡ true → number_of t.source.state ≡ 1 → all_found (ts ++ (t ∷ [])) ≡ true
  unfolding all_found
  found-then [] t all one = rw (eq-eqb (number_of t.source.state) 1 one)
  found-then (u ∷ ts) t all one = go (eqb (number_of u.source.state) 1) all (λ later. found-then ts t later one)
    where
      go : (b : Bool) → cond b (all_found ts) false ≡ true → (all_found ts ≡ true → all_found (ts ++ (t ∷ [])) ≡ true)
          → cond b (all_found (ts ++ (t ∷ []))) false ≡ true
      go true later more = more later
      go false later more = absurd (true≢false (sym later))

-- ---- how far the names have come

-- The turns that were taken, and the source of the next one: it is in the list, at its last name, at its end, or among the arguments.
pub data Along (o : Options) (turns : List (Turn o.check)) (s : Source) (bytes path : List ℕ) : Type 0 where
  in_list : ¬ (o.list ≡ 0) → all_found turns ≡ true → Stands o.first o.files true 1 s → (pieces : List (List ℕ))
      → Passed 4096 [] [] pieces (turn_names turns ++ (take s.length path ∷ [])) [] bytes → Along o turns s bytes path
  at_last : ¬ (o.list ≡ 0) → all_found turns ≡ true → Stands o.first o.files false 1 s → (pieces : List (List ℕ))
      → names_of 4096 (whole_text pieces) ≡ turn_names turns ++ (take s.length path ∷ []) → Along o turns s bytes path
  at_break : ¬ (o.list ≡ 0) → all_found turns ≡ true → Stands o.first o.files false 2 s → (pieces : List (List ℕ))
      → ended_names 4096 (whole_text pieces) ≡ turn_names turns → Along o turns s bytes path
  behind_list : (listed given : List (Turn o.check)) → turns ≡ listed ++ given → ListTurns o listed → all_found given ≡ true → (next left : ℕ)
      → turn_places given ++ places left next ≡ places o.files o.first → NextArgument next left s → Along o turns s bytes path

module _ {o : Options} {s : Source} {bytes path : List ℕ} where
  -- The names of the list are over, and no argument was taken yet.
  past-list : (turns : List (Turn o.check)) → ListTurns o turns → NextArgument o.first o.files s → Along o turns s bytes path
  unfolding turn_places all_found
  past-list turns l a = behind_list turns [] (sym (append-nil turns)) l refl o.first o.files refl a

  from_list : (turns : List (Turn o.check)) {pieces : List (List ℕ)} {bytes₀ : List ℕ} → ¬ (o.list ≡ 0) → all_found turns ≡ true
      → Passed 4096 [] [] pieces (turn_names turns) [] bytes₀ → FromList 4096 o.first o.files [] bytes₀ s bytes path → Along o turns s bytes path
  from_list turns {pieces} some found p (line stands more q) = in_list some found stands (pieces ++ more) (passed_then p q)
  from_list turns {pieces} some found p (last stands more rest q e) =
      let all = passed_then p q in
      at_last some found stands (pieces ++ more) (passed-whole all ∙ rw (append-nil (turn_names turns), e))
  from_list turns {pieces} some found p (ended a more rest q e) =
      let all = passed_then p q in
      past-list turns (files.whole turns some (pieces ++ more) (sym (passed-whole all ∙ rw (append-nil (turn_names turns), e, append-nil (turn_names turns)))) found) a
  from_list turns {pieces} some found p (broken stands more rest q) =
      at_break some found stands (pieces ++ more) (passed-ended (passed_then p q) ∙ append-nil (turn_names turns))

-- The first name.
pub along-first : (o : Options) {room : ℕ} {s : Source} {bytes path : List ℕ} → 4096 ≡ room → (o.list ≡ 0 → NextArgument o.first o.files s)
    → (¬ (o.list ≡ 0) → FromList room o.first o.files [] [] s bytes path) → Along o [] s bytes path
unfolding turn_names all_found has_line
along-first o long none some =
    by_eqb o.list 0 (λ e t. past-list [] (files.none e) (none e)) (λ e t. from_list [] e refl (passed_none 4096 [] [] refl) (rw (← long) at (some e)))

-- One argument more.
module _ {o : Options} (listed given : List (Turn o.check)) (t : Turn o.check) {s' : Source} {bytes' path' : List ℕ} where
  given-more : (left : ℕ) {next : ℕ} → turn_places given ++ places left next ≡ places o.files o.first → NextArgument next left t.source
      → ListTurns o listed → all_found given ≡ true → NextArgument t.source.next t.source.left s'
      → Along o ((listed ++ given) ++ (t ∷ [])) s' bytes' path'
  unfolding places
  given-more zero p a l found b = absurd (ended-not-there t.source (a.none refl) t.there)
  given-more (suc n) {next} p a l found b =
      let so = a.found (omega arith) in
      let one : t.source.left ≡ n = omega (arith, so.1) in
      let more : turn_places (given ++ (t ∷ [])) ++ places t.source.left t.source.next ≡ places o.files o.first
      = rw (places_then given t, append_assoc (turn_places given) (t.source.next ∷ []) (places t.source.left t.source.next), one, so.2) p in
      behind_list listed (given ++ (t ∷ [])) (append_assoc listed given (t ∷ [])) l (found-then given t found so.0) t.source.next t.source.left more b

-- The next one.
pub along-next : {o : Options} {turns : List (Turn o.check)} (t : Turn o.check) {bytes : List ℕ} → Along o turns t.source bytes t.path
    → {s' : Source} {bytes' path' : List ℕ} → (t.source.listed ≡ false → NextArgument t.source.next t.source.left s')
    → (t.source.listed ≡ true → FromList 4096 t.source.next t.source.left [] bytes s' bytes' path')
    → Along o (turns ++ (t ∷ [])) s' bytes' path'
along-next {turns = turns} t (in_list some found stands pieces p) none more =
    from_list (turns ++ (t ∷ [])) some (found-then turns t found stands.is) (rw (← names-then turns t) at p) (rw (stands.place, stands.more) at (more stands.list))
along-next {turns = turns} t (at_last some found stands pieces e) none more =
    past-list (turns ++ (t ∷ [])) (files.whole (turns ++ (t ∷ [])) some pieces (names-then turns t ∙ sym e) (found-then turns t found stands.is)) (rw (stands.place, stands.more) at (none stands.list))
along-next {turns = turns} t (at_break some found stands pieces e) none more =
    past-list (turns ++ (t ∷ [])) (files.broken turns some pieces (sym e) found t stands.is) (rw (stands.place, stands.more) at (none stands.list))
along-next t (behind_list listed given e l found next left p a) none more = rw e (given-more listed given t left p a l found (none a.listless))

-- There are no more.
all-given : (left : ℕ) {next : ℕ} {s : Source} → NextArgument next left s → is_there s ≡ false → places left next ≡ []
unfolding places
all-given zero a over = refl
all-given (suc n) {s = s} a over = absurd (not_there s (a.found (omega arith)).0 (λ e. omega (arith, e)) over)

pub along-over : {o : Options} {turns : List (Turn o.check)} {s : Source} {bytes path : List ℕ} → Along o turns s bytes path → is_there s ≡ false
    → Named o turns
along-over {s = s} (in_list some found stands pieces p) over = absurd (not_there s stands.is (λ e. omega (arith, e)) over)
along-over {s = s} (at_last some found stands pieces e) over = absurd (not_there s stands.is (λ e. omega (arith, e)) over)
along-over {s = s} (at_break some found stands pieces e) over = absurd (not_there s stands.is (λ e. omega (arith, e)) over)
along-over (behind_list listed given e l found next left p a) over = record {
  listed = listed;
  given = given;
  both = e;
  list = l;
  arguments = sym (append-nil (turn_places given)) ∙ ap (λ (ps : List ℕ). turn_places given ++ ps) (sym (all-given left a over)) ∙ p;
  found = found;
}
