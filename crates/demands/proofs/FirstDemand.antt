-- The first demand, met by the definitions' machine over every model and call.
use Prim.Native.Nat.{ℕ}
use native.Mathlib.Omega.{arith}
use mathlib.Core.Bool.{false≢true}
use mathlib.Core.List.{List, [], ◌∷◌}
use mathlib.Core.Logic.Iff
use mathlib.Core.Logic.{◌↔◌, inl, inr, ⊎_elim}
use mathlib.Core.Path.{◌≡◌, refl, ap, sym, ◌∙◌}
use Rattle.unit.proofs.Cases.{by-test}
use Rattle.device.specs.declared.Model.{Model}
use Rattle.device.specs.Call.{Call, Row, table, first_of, Verdict, verdict, accepted, refused}
use Rattle.device.specs.Reply.{reply, reply_by, output, output_by, memory, memory_by, number_in, number_of, values_in}
use Rattle.demands.specs.FirstDemand.{Refusal, rows, First, None, ours, AcceptedClaim, RefusedClaim, FirstDemand}
use Rattle.device.proofs.Table.{refused-same, refused-buffer, refused-memory, number-refused, number-accepted, replied}
use Rattle.refusal.specs.declared.Refusal.{Refusal as Answer·Refusal}
use Rattle.refusal.specs.Number.{number}
use lib.ListN.{length}
use Rattle.demands.proofs.Rows.{Alike, alike}

-- "the first whose condition holds is given"
first-means : (rs : List Row) (qs : List Refusal) → Alike rs qs → (n : ℕ) → (number_of (first_of rs) ≡ n ∷ []) ↔ First qs n
unfolding first_of number_of
first-means [] [] a n = (λ e. let z : ◌≡◌ {A = ℕ} 0 1 = ap length e in absurd (omega arith), absurd)
first-means [] (q ∷ qs) a n = absurd a
first-means (r ∷ rs) [] a n = absurd a
first-means (r ∷ rs) (q ∷ qs) a n =
    by-test r.holds
    (λ h. rw h (
      λ e. inl (a.1.0 h, sym a.0 ∙ same e),
      ⊎_elim (λ f. ap (λ k. k ∷ []) (a.0 ∙ f.1)) (λ l. absurd (l.0 (a.1.0 h))),
    ))
    (λ h. rw h (
      λ e. inr (λ w. false≢true (sym h ∙ a.1.1 w), (first-means rs qs (a.2 h) n).0 e),
      ⊎_elim (λ f. absurd (false≢true (sym h ∙ a.1.1 f.0))) (λ l. (first-means rs qs (a.2 h) n).1 l.1),
    ))
  where
    same : {i j : ℕ} → i ∷ [] ≡ j ∷ [] → i ≡ j
    same e = cc

-- "none when none holds"
none-means : (rs : List Row) (qs : List Refusal) → Alike rs qs → (first_of rs ≡ accepted) ↔ None qs
unfolding first_of
none-means [] [] a = (λ e. tt, λ n. refl)
none-means [] (q ∷ qs) a = absurd a
none-means (r ∷ rs) [] a = absurd a
none-means (r ∷ rs) (q ∷ qs) a =
    by-test r.holds
    (λ h. rw h (λ e. let z : ◌≡◌ {A = ℕ} 0 1 = cc in absurd (omega arith), λ n. absurd (n.0 (a.1.0 h))))
    (λ h. rw h (
      λ e. (λ w. false≢true (sym h ∙ a.1.1 w), (none-means rs qs (a.2 h)).0 e),
      λ n. (none-means rs qs (a.2 h)).1 n.1,
    ))

module _ (m : Model) (c : Call) where
  by-verdict : {G : Type 0} → (verdict m c ≡ accepted → G) → ((r : Answer·Refusal) → verdict m c ≡ refused r → G) → G
  by-verdict {G} f g = go (verdict m c) refl
    where
      go : (v : Verdict) → verdict m c ≡ v → G
      go accepted e = f e
      go (refused r) e = g r e

  -- the number in the answer is the verdict's
  number_is : number_in (reply m c).answer ≡ number_of (verdict m c)
  number_is = (replied m c refl).number

  no-number-means : (number_in (reply m c).answer ≡ []) ↔ (verdict m c ≡ accepted)
  no-number-means = (
    λ e. by-verdict (λ v. v)
        (λ k v. let q : number k ∷ [] ≡ [] = sym (number-refused m c k v) ∙ e in let z : ◌≡◌ {A = ℕ} 0 1 = cc in absurd (omega arith)),
    λ v. number-accepted m c v,
  )

  accepted-left : verdict m c ≡ accepted → AcceptedClaim ours m c
  unfolding reply reply_by output output_by memory memory_by
  accepted-left e = record { values = rw e; model = rw e; output = rw e; memory = rw e }

  refused-kept : (r : Answer·Refusal) → verdict m c ≡ refused r → RefusedClaim ours m c
  unfolding reply reply_by values_in
  refused-kept r e =
      record {
        values = rw e;
        model = refused-same m c r e;
        output = refused-buffer m c r e;
        memory = refused-memory m c r e;
      }

  given-means : (n : ℕ) → (number_in (reply m c).answer ≡ n ∷ []) ↔ First (rows m c) n
  unfolding verdict
  given-means n =
      rw number_is (first-means (table m c) (rows m c) (alike m c) n)

  first-is : (r : Answer·Refusal) → verdict m c ≡ refused r → First (rows m c) (number r)
  first-is r v = (given-means (number r)).0 (number-refused m c r v)

  none_is : (verdict m c ≡ accepted) ↔ None (rows m c)
  unfolding verdict
  none_is = none-means (table m c) (rows m c) (alike m c)

pub first-demand : FirstDemand ours
first-demand m c =
    record {
      given = given-means m c;
      none = Iff.trans (no-number-means m c) (none_is m c);
      left = λ n. accepted-left m c ((none_is m c).1 n);
      kept = λ n f. by-verdict m c
          (λ v. let q : [] ≡ n ∷ [] = sym (number-accepted m c v) ∙ (given-means m c n).1 f in let z : ◌≡◌ {A = ℕ} 0 1 = ap length q in absurd (omega arith))
          (refused-kept m c);
      decided = by-verdict m c (λ v. inl ((none_is m c).0 v)) (λ r v. inr (number r, first-is m c r v));
    }
