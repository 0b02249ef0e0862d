-- A line's text and the counts after it go by neither the buffer nor where the answers ended. Assumes nothing.
use Prim.Native.Nat.{ℕ, suc, ◌+◌}
use mathlib.Core.Path.{◌≡◌, refl, ◌∙◌}
use mathlib.Core.Bool.{Bool, true, false, cond}
use mathlib.Core.List.{List, [], ◌∷◌}
use native.Mathlib.Omega.{arith}
use lib.Dec.{eqb}
use lib.ListN.{length, get_or, set, take}
use Rattle.numeral.specs.Place.{joined}
use Rattle.line.specs.declared.Content.{Content}
use Rattle.wording.specs.Wording.{place}
use Rattle.item_state.specs.Log.{Log, added}
use Rattle.item_checks.specs.Open.{line_counted}
use Rattle.item_checks.specs.Close.{trouble}
use Rattle.answer_text.specs.Texts.{Told, silent, asked}
use Rattle.session.specs.Line.{State, Replay, with_log}
use Rattle.line_text.specs.Text.{head_told, begun_told, own_told, line_text, line_counts, elsewhere}
use Rattle.line_text.proofs.Apart.{told-head, counts-elsewhere, text-elsewhere}

-- ---- the head

-- 22 counts, one by one
by-cons : (P : List ℕ → Type 0) (n : ℕ) → ((c : ℕ) (cs : List ℕ) → length cs ≡ n → P (c ∷ cs)) → (l : List ℕ) → length l ≡ suc n → P l
by-cons P n f [] h = absurd (omega arith)
by-cons P n f (c ∷ cs) h = f c cs (omega arith)

pub by-counts : (P : List ℕ → Type 0) → ((c0 c1 c2 c3 c4 c5 c6 c7 c8 c9 c10 c11 c12 c13 c14 c15 c16 c17 c18 c19 c20 : ℕ) (rest : List ℕ) → P (c0 ∷ c1 ∷ c2 ∷ c3 ∷ c4 ∷ c5 ∷ c6 ∷ c7 ∷ c8 ∷ c9 ∷ c10 ∷ c11 ∷ c12 ∷ c13 ∷ c14 ∷ c15 ∷ c16 ∷ c17 ∷ c18 ∷ c19 ∷ c20 ∷ rest))
    → (counts : List ℕ) → length counts ≡ 22 → P counts
by-counts P f = by-cons P 21 (λ c0 l0 h0. by-cons (λ x. P (c0 ∷ x)) 20 (λ c1 l1 h1. by-cons (λ x. P (c0 ∷ c1 ∷ x)) 19 (λ c2 l2 h2. by-cons (λ x. P (c0 ∷ c1 ∷ c2 ∷ x)) 18 (λ c3 l3 h3. by-cons (λ x. P (c0 ∷ c1 ∷ c2 ∷ c3 ∷ x)) 17 (λ c4 l4 h4. by-cons (λ x. P (c0 ∷ c1 ∷ c2 ∷ c3 ∷ c4 ∷ x)) 16 (λ c5 l5 h5. by-cons (λ x. P (c0 ∷ c1 ∷ c2 ∷ c3 ∷ c4 ∷ c5 ∷ x)) 15 (λ c6 l6 h6. by-cons (λ x. P (c0 ∷ c1 ∷ c2 ∷ c3 ∷ c4 ∷ c5 ∷ c6 ∷ x)) 14 (λ c7 l7 h7. by-cons (λ x. P (c0 ∷ c1 ∷ c2 ∷ c3 ∷ c4 ∷ c5 ∷ c6 ∷ c7 ∷ x)) 13 (λ c8 l8 h8. by-cons (λ x. P (c0 ∷ c1 ∷ c2 ∷ c3 ∷ c4 ∷ c5 ∷ c6 ∷ c7 ∷ c8 ∷ x)) 12 (λ c9 l9 h9. by-cons (λ x. P (c0 ∷ c1 ∷ c2 ∷ c3 ∷ c4 ∷ c5 ∷ c6 ∷ c7 ∷ c8 ∷ c9 ∷ x)) 11 (λ c10 l10 h10. by-cons (λ x. P (c0 ∷ c1 ∷ c2 ∷ c3 ∷ c4 ∷ c5 ∷ c6 ∷ c7 ∷ c8 ∷ c9 ∷ c10 ∷ x)) 10 (λ c11 l11 h11. by-cons (λ x. P (c0 ∷ c1 ∷ c2 ∷ c3 ∷ c4 ∷ c5 ∷ c6 ∷ c7 ∷ c8 ∷ c9 ∷ c10 ∷ c11 ∷ x)) 9 (λ c12 l12 h12. by-cons (λ x. P (c0 ∷ c1 ∷ c2 ∷ c3 ∷ c4 ∷ c5 ∷ c6 ∷ c7 ∷ c8 ∷ c9 ∷ c10 ∷ c11 ∷ c12 ∷ x)) 8 (λ c13 l13 h13. by-cons (λ x. P (c0 ∷ c1 ∷ c2 ∷ c3 ∷ c4 ∷ c5 ∷ c6 ∷ c7 ∷ c8 ∷ c9 ∷ c10 ∷ c11 ∷ c12 ∷ c13 ∷ x)) 7 (λ c14 l14 h14. by-cons (λ x. P (c0 ∷ c1 ∷ c2 ∷ c3 ∷ c4 ∷ c5 ∷ c6 ∷ c7 ∷ c8 ∷ c9 ∷ c10 ∷ c11 ∷ c12 ∷ c13 ∷ c14 ∷ x)) 6 (λ c15 l15 h15. by-cons (λ x. P (c0 ∷ c1 ∷ c2 ∷ c3 ∷ c4 ∷ c5 ∷ c6 ∷ c7 ∷ c8 ∷ c9 ∷ c10 ∷ c11 ∷ c12 ∷ c13 ∷ c14 ∷ c15 ∷ x)) 5 (λ c16 l16 h16. by-cons (λ x. P (c0 ∷ c1 ∷ c2 ∷ c3 ∷ c4 ∷ c5 ∷ c6 ∷ c7 ∷ c8 ∷ c9 ∷ c10 ∷ c11 ∷ c12 ∷ c13 ∷ c14 ∷ c15 ∷ c16 ∷ x)) 4 (λ c17 l17 h17. by-cons (λ x. P (c0 ∷ c1 ∷ c2 ∷ c3 ∷ c4 ∷ c5 ∷ c6 ∷ c7 ∷ c8 ∷ c9 ∷ c10 ∷ c11 ∷ c12 ∷ c13 ∷ c14 ∷ c15 ∷ c16 ∷ c17 ∷ x)) 3 (λ c18 l18 h18. by-cons (λ x. P (c0 ∷ c1 ∷ c2 ∷ c3 ∷ c4 ∷ c5 ∷ c6 ∷ c7 ∷ c8 ∷ c9 ∷ c10 ∷ c11 ∷ c12 ∷ c13 ∷ c14 ∷ c15 ∷ c16 ∷ c17 ∷ c18 ∷ x)) 2 (λ c19 l19 h19. by-cons (λ x. P (c0 ∷ c1 ∷ c2 ∷ c3 ∷ c4 ∷ c5 ∷ c6 ∷ c7 ∷ c8 ∷ c9 ∷ c10 ∷ c11 ∷ c12 ∷ c13 ∷ c14 ∷ c15 ∷ c16 ∷ c17 ∷ c18 ∷ c19 ∷ x)) 1 (λ c20 l20 h20. f c0 c1 c2 c3 c4 c5 c6 c7 c8 c9 c10 c11 c12 c13 c14 c15 c16 c17 c18 c19 c20 l20) l19 h19) l18 h18) l17 h17) l16 h16) l15 h15) l14 h14) l13 h13) l12 h12) l11 h11) l10 h10) l9 h9) l8 h8) l7 h7) l6 h6) l5 h5) l4 h4) l3 h3) l2 h2) l1 h1) l0 h0)

abbrev head_by : Bool → List ℕ → List ℕ → Told
head_by outside names counts =
    let kept = set counts 19 (trouble counts) in
    cond outside (silent counts) (asked (place (take (get_or kept 16 0) names) (get_or kept 2 0)) kept)

abbrev begun_by : Bool → List ℕ → List ℕ → Told
begun_by outside names counts =
    let head = head_by outside names (line_counted counts) in
    record { texts = head.texts; counts = set head.counts 20 (get_or counts 0 0 + length (joined head.texts)) }

begun-by : (names counts : List ℕ) → begun_told names counts ≡ begun_by (eqb (get_or (line_counted counts) 14 0) 0) names counts
unfolding begun_told head_told
begun-by names counts = refl

-- with other numbers in the places of the buffer
abbrev pub moved : ℕ → ℕ → Told → Told
moved ends written t = record { texts = t.texts; counts = elsewhere ends ends written (ends + length (joined t.texts)) t.counts }

module _ (names : List ℕ) (w x y z : ℕ) (c0 c1 c2 c3 c4 c5 c6 c7 c8 c9 c10 c11 c12 c13 c14 c15 c16 c17 c18 c19 c20 : ℕ) (rest : List ℕ) where
  abbrev these : List ℕ
  these = c0 ∷ c1 ∷ c2 ∷ c3 ∷ c4 ∷ c5 ∷ c6 ∷ c7 ∷ c8 ∷ c9 ∷ c10 ∷ c11 ∷ c12 ∷ c13 ∷ c14 ∷ c15 ∷ c16 ∷ c17 ∷ c18 ∷ c19 ∷ c20 ∷ rest

  these-elsewhere : (t : Bool) → begun_by t names (elsewhere w x y z these) ≡ moved w y (begun_by t names these)
  unfolding line_counted added trouble
  these-elsewhere true = refl
  these-elsewhere false = refl

  check-elsewhere : get_or (line_counted (elsewhere w x y z these)) 14 0 ≡ get_or (line_counted these) 14 0
  unfolding line_counted added
  check-elsewhere = refl

  literal-elsewhere : begun_told names (elsewhere w x y z these) ≡ moved w y (begun_told names these)
  literal-elsewhere = rw (begun-by names (elsewhere w x y z these), begun-by names these, check-elsewhere) (these-elsewhere (eqb (get_or (line_counted these) 14 0) 0))

pub begun-elsewhere : (names : List ℕ) (w x y z : ℕ) (counts : List ℕ) → length counts ≡ 22 → begun_told names (elsewhere w x y z counts) ≡ moved w y (begun_told names counts)
begun-elsewhere names w x y z = by-counts (λ counts. begun_told names (elsewhere w x y z counts) ≡ moved w y (begun_told names counts)) (literal-elsewhere names w x y z)

-- ---- a whole line

pub own-log : (content : Content) (text numbers names : List ℕ) (s : State) (l : Log) (counts : List ℕ)
    → own_told content text numbers names (with_log s l) counts ≡ own_told content text numbers names s counts
unfolding own_told
own-log content text numbers names s l counts = refl

-- The same kept with another buffer, and other numbers in the places of the buffer.
abbrev pub rebuffered : ℕ → ℕ → ℕ → ℕ → List ℕ → Replay → Replay
rebuffered ends start written body answers r = record {
  state = with_log r.state record { counts = elsewhere ends start written body r.state.log.counts; answers = answers };
  names = r.names;
}

module _ (content : Content) (expected : List (List ℕ)) (text numbers : List ℕ) (r : Replay) (w x y z : ℕ) (answers : List ℕ)
    (long : length r.state.log.counts ≡ 22) where
  abbrev other : Replay
  other = rebuffered w x y z answers r

  abbrev head : Told
  head = begun_told r.names r.state.log.counts

  abbrev body : ℕ
  body = w + length (joined head.texts)

  own-other : (counts : List ℕ) → own_told content text numbers r.names other.state counts ≡ own_told content text numbers r.names r.state counts
  own-other counts = own-log content text numbers r.names r.state other.state.log counts

  -- The text is the same
  pub text_same : line_text content expected text numbers other ≡ line_text content expected text numbers r
  unfolding line_text
  text_same =
      rw (begun-elsewhere r.names w x y z r.state.log.counts long, own-other (elsewhere w w y body head.counts))
      (told-head expected _ head _ (elsewhere w w y body head.counts) ∙ text-elsewhere content expected text numbers r.names r.state w w y body head head.counts)

  -- and the counts after it are, but for the places of the buffer.
  pub counts_same : line_counts content expected text numbers other ≡ elsewhere w w y body (line_counts content expected text numbers r)
  unfolding line_counts
  counts_same =
      rw (begun-elsewhere r.names w x y z r.state.log.counts long, own-other (elsewhere w w y body head.counts))
      (counts-elsewhere content expected text numbers r.names r.state w w y body head.counts)
