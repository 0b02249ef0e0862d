-- Counts that are alike but for the lines, the bad ones and what passes with a line. Assumes nothing.
use Prim.Native.Nat.{ℕ, ◌+◌, ◌<◌, min}
use mathlib.Core.Path.{◌≡◌, refl, sym, ap, subst, ◌∙◌}
use mathlib.Core.Bool.{Bool, true, false, cond, true≢false, false≢true}
use mathlib.Core.List.{List, []}
use native.Mathlib.Omega.{arith}
use lib.Dec.{eqb}
use lib.ListN.{length, get_or, set, take, length-set}
use lib.Seq.{get_or-set_same, get_or-set_other}
use borrow.Author.Tests.{eq-eqb}
use Rattle.unit.proofs.Cases.{by_eqb}
use Rattle.line.specs.declared.Content.{Content}
use Rattle.wording.specs.Wording.{place}
use Rattle.item_state.specs.Log.{added}
use Rattle.item_checks.specs.Open.{line_counted}
use Rattle.item_checks.specs.Close.{trouble, is_not_bad}
use Rattle.item_checks.specs.Fault.{is_fault}
use Rattle.answer_text.specs.Texts.{silent, asked}
use Rattle.line_text.specs.Text.{head_told, begun_told, elsewhere}
use Rattle.line_text.proofs.Told.{fault-same}
use Rattle.replay_text.proofs.Alike.{is_counted}

-- The places that every line changes: 2 the lines; 0, 12, 13 and 20 the places of the buffer; 17 to 19 what is kept of the counts before
-- a line; and 6 the bad lines.
abbrev pub is_passing : ℕ → Bool
is_passing n =
    cond (eqb n 0) true (cond (eqb n 2) true (cond (eqb n 6) true (cond (eqb n 12) true (cond (eqb n 13) true
    (cond (eqb n 17) true (cond (eqb n 18) true (cond (eqb n 19) true (cond (eqb n 20) true false))))))))

pub record AlikeCounts (c c' : List ℕ) : Type 0 where
  pub long : length c ≡ 22
  pub long' : length c' ≡ 22
  pub each : (n : ℕ) → is_passing n ≡ false → get_or c n 0 ≡ get_or c' n 0

pub alike_self : (c : List ℕ) → length c ≡ 22 → AlikeCounts c c
alike_self c long = record { long = long; long' = long; each = λ n stays. refl }

pub alike-back : (c c' : List ℕ) → AlikeCounts c c' → AlikeCounts c' c
alike-back c c' a = record { long = a.long'; long' = a.long; each = λ n stays. sym (a.each n stays) }

pub alike-on : (c c' c'' : List ℕ) → AlikeCounts c c' → AlikeCounts c' c'' → AlikeCounts c c''
alike-on c c' c'' a b = record { long = a.long; long' = b.long'; each = λ n stays. a.each n stays ∙ b.each n stays }

-- Another number in a place that passes.
pub alike_set : (n v : ℕ) → is_passing n ≡ true → (c c' : List ℕ) → AlikeCounts c c' → AlikeCounts c (set c' n v)
alike_set n v passes c c' a = record {
  long = a.long;
  long' = length-set c' n v ∙ a.long';
  each = λ m stays. a.each m stays ∙ sym (get_or-set_other c' n m v 0 (λ e. true≢false (sym passes ∙ (ap is_passing (sym e) ∙ stays))));
}

-- The same number in a place of both.
set_both : (n v : ℕ) → n < 22 → (c c' : List ℕ) → AlikeCounts c c' → AlikeCounts (set c n v) (set c' n v)
set_both n v low c c' a = record {
  long = length-set c n v ∙ a.long;
  long' = length-set c' n v ∙ a.long';
  each = λ m stays. by_eqb m n
      (λ e _. rw e (get_or-set_same c n v 0 (omega (arith, a.long)) ∙ sym (get_or-set_same c' n v 0 (omega (arith, a.long')))))
      (λ other _. get_or-set_other c n m v 0 other ∙ (a.each m stays ∙ sym (get_or-set_other c' n m v 0 other)));
}

-- ---- the places in which an answer counts

counted-cases : (P : ℕ → Type 0) → P 3 → P 4 → P 5 → P 7 → P 8 → P 9 → P 10 → P 11 → P 15 → (n : ℕ) → is_counted n ≡ true → P n
counted-cases P p3 p4 p5 p7 p8 p9 p10 p11 p15 n here =
    by_eqb n 3 (λ e _. subst P (sym e) p3) (λ _ f3. by_eqb n 4 (λ e _. subst P (sym e) p4) (λ _ f4.
    by_eqb n 5 (λ e _. subst P (sym e) p5) (λ _ f5. by_eqb n 7 (λ e _. subst P (sym e) p7) (λ _ f7.
    by_eqb n 8 (λ e _. subst P (sym e) p8) (λ _ f8. by_eqb n 9 (λ e _. subst P (sym e) p9) (λ _ f9.
    by_eqb n 10 (λ e _. subst P (sym e) p10) (λ _ f10. by_eqb n 11 (λ e _. subst P (sym e) p11) (λ _ f11.
    by_eqb n 15 (λ e _. subst P (sym e) p15) (λ _ f15.
    absurd (false≢true (rw (f3, f4, f5, f7, f8, f9, f10, f11, f15) at here)))))))))))

pub counted-stays : (n : ℕ) → is_counted n ≡ true → is_passing n ≡ false
counted-stays n here = counted-cases (λ (m : ℕ). is_passing m ≡ false) refl refl refl refl refl refl refl refl refl n here

counted-low : (n : ℕ) → is_counted n ≡ true → n < 22
counted-low n here =
    counted-cases (λ (m : ℕ). m < 22) (omega arith) (omega arith) (omega arith) (omega arith) (omega arith) (omega arith) (omega arith) (omega arith)
    (omega arith) n here

pub counted-apart : (n k : ℕ) → is_counted n ≡ true → is_counted k ≡ false → k ≡ n → ⊥
counted-apart n k here there e = true≢false (sym here ∙ (ap is_counted (sym e) ∙ there))

-- ---- within a line that is not bad

-- Behind the head: in both as many refusals were before the line, no bad line is more than before, and the check is as it was.
pub record WithinLine (check : ℕ) (c c' : List ℕ) : Type 0 where
  pub counts : AlikeCounts c c'
  pub refused : get_or c 17 0 ≡ get_or c' 17 0
  pub here : get_or c 18 0 ≡ get_or c 6 0
  pub there : get_or c' 18 0 ≡ get_or c' 6 0
  pub checked : get_or c 14 0 ≡ check

module _ (check : ℕ) where
  pub within_same : (n : ℕ) → is_counted n ≡ true → (c c' : List ℕ) → WithinLine check c c' → get_or c n 0 ≡ get_or c' n 0
  within_same n here c c' w = w.counts.each n (counted-stays n here)

  pub within-kept : (n v : ℕ) → is_counted n ≡ true → (c c' : List ℕ) → WithinLine check c c' → WithinLine check (set c n v) (set c' n v)
  within-kept n v here c c' w = record {
    counts = set_both n v (counted-low n here) c c' w.counts;
    refused = left c 17 refl ∙ (w.refused ∙ sym (left c' 17 refl));
    here = left c 18 refl ∙ (w.here ∙ sym (left c 6 refl));
    there = left c' 18 refl ∙ (w.there ∙ sym (left c' 6 refl));
    checked = left c 14 refl ∙ w.checked;
  }
    where
      left : (l : List ℕ) (k : ℕ) → is_counted k ≡ false → get_or (set l n v) k 0 ≡ get_or l k 0
      left l k other = get_or-set_other l n k v 0 (counted-apart n k here other)

  -- There is an expectation in both or in none.
  pub within-call : (c c' : List ℕ) → WithinLine check c c' → is_not_bad c ≡ is_not_bad c'
  within-call c c' w = rw (w.here, w.there, eq-eqb (get_or c 6 0) (get_or c 6 0) refl, eq-eqb (get_or c' 6 0) (get_or c' 6 0) refl)

-- ---- the head of a line

added-long : (counts : List ℕ) (n k : ℕ) → length (added counts n k) ≡ length counts
unfolding added
added-long counts n k = length-set counts n _

module _ (names c : List ℕ) (long : length c ≡ 22) where
  counted-alike : AlikeCounts c (line_counted c)
  unfolding line_counted added
  counted-alike =
      alike_set 18 _ refl c _ (alike_set 17 _ refl c _ (alike_set 12 _ refl c _ (alike_set 2 _ refl c c (alike_self c long))))

  head-alike : (counts : List ℕ) → AlikeCounts c counts → AlikeCounts c (head_told names counts).counts
  unfolding head_told
  head-alike counts a = go (eqb (get_or counts 14 0) 0)
    where
      go : (t : Bool) → AlikeCounts c (cond t (silent counts) (asked (place (take (get_or (set counts 19 (trouble counts)) 16 0) names) (get_or (set counts 19 (trouble counts)) 2 0)) (set counts 19 (trouble counts)))).counts
      go true = a
      go false = alike_set 19 (trouble counts) refl c counts a

  -- The head changes no place but those that pass.
  pub begun-alike : AlikeCounts c (begun_told names c).counts
  unfolding begun_told
  begun-alike = alike_set 20 _ refl c _ (head-alike (line_counted c) counted-alike)

  head-left : (counts : List ℕ) (n : ℕ) → (n ≡ 19 → ⊥) → get_or (head_told names counts).counts n 0 ≡ get_or counts n 0
  unfolding head_told
  head-left counts n other = go (eqb (get_or counts 14 0) 0)
    where
      go : (t : Bool) → get_or (cond t (silent counts) (asked (place (take (get_or (set counts 19 (trouble counts)) 16 0) names) (get_or (set counts 19 (trouble counts)) 2 0)) (set counts 19 (trouble counts)))).counts n 0 ≡ get_or counts n 0
      go true = refl
      go false = get_or-set_other counts 19 n (trouble counts) 0 other

  begun-left : (n : ℕ) → (n ≡ 19 → ⊥) → (n ≡ 20 → ⊥) → get_or (begun_told names c).counts n 0 ≡ get_or (line_counted c) n 0
  unfolding begun_told
  begun-left n other later =
      get_or-set_other (head_told names (line_counted c)).counts 20 n _ 0 later ∙ head-left (line_counted c) n other

  -- Behind it: the refusals before the line, the bad lines before it and so far, and the line's number.
  pub begun-refused : get_or (begun_told names c).counts 17 0 ≡ get_or c 4 0
  unfolding line_counted
  begun-refused =
      let one = set (added c 2 1) 12 (get_or c 0 0) in
      begun-left 17 (λ e. omega arith) (λ e. omega arith)
      ∙ (get_or-set_other (set one 17 (get_or c 4 0)) 18 17 (get_or c 6 0) 0 (λ e. omega arith)
      ∙ get_or-set_same one 17 (get_or c 4 0) 0 (rw (length-set (added c 2 1) 12 (get_or c 0 0), added-long c 2 1, long) (omega arith)))

  pub begun-before : get_or (begun_told names c).counts 18 0 ≡ get_or c 6 0
  unfolding line_counted
  begun-before =
      let one = set (added c 2 1) 12 (get_or c 0 0) in
      let two = set one 17 (get_or c 4 0) in
      begun-left 18 (λ e. omega arith) (λ e. omega arith)
      ∙ get_or-set_same two 18 (get_or c 6 0) 0
      (rw (length-set one 17 (get_or c 4 0), length-set (added c 2 1) 12 (get_or c 0 0), added-long c 2 1, long) (omega arith))

  counted-left : (n : ℕ) → (n ≡ 12 → ⊥) → (n ≡ 17 → ⊥) → (n ≡ 18 → ⊥) → get_or (line_counted c) n 0 ≡ get_or (added c 2 1) n 0
  unfolding line_counted
  counted-left n a b d =
      let one = set (added c 2 1) 12 (get_or c 0 0) in
      let two = set one 17 (get_or c 4 0) in
      get_or-set_other two 18 n (get_or c 6 0) 0 d ∙ (get_or-set_other one 17 n (get_or c 4 0) 0 b ∙ get_or-set_other (added c 2 1) 12 n (get_or c 0 0) 0 a)

  pub begun-bad : get_or (begun_told names c).counts 6 0 ≡ get_or c 6 0
  unfolding added
  begun-bad =
      begun-left 6 (λ e. omega arith) (λ e. omega arith)
      ∙ (counted-left 6 (λ e. omega arith) (λ e. omega arith) (λ e. omega arith) ∙ get_or-set_other c 2 6 _ 0 (λ e. omega arith))

  pub begun-line : get_or (begun_told names c).counts 2 0 ≡ min (get_or c 2 0 + 1) 18446744073709551615
  unfolding added
  begun-line =
      begun-left 2 (λ e. omega arith) (λ e. omega arith)
      ∙ (counted-left 2 (λ e. omega arith) (λ e. omega arith) (λ e. omega arith) ∙ get_or-set_same c 2 _ 0 (rw long (omega arith)))

  pub begun-fault : (content : Content) → is_fault content (begun_told names c).counts ≡ is_fault content c
  begun-fault content =
      fault-same content c (begun_told names c).counts (sym (begun-alike.each 9 refl)) (sym (begun-alike.each 10 refl))
      (sym (begun-alike.each 11 refl))

-- Outside a check there is no head.
pub no-head : (names c : List ℕ) → length c ≡ 22 → get_or c 14 0 ≡ 0 → (begun_told names c).texts ≡ []
unfolding begun_told head_told
no-head names c long outside =
    let there : get_or (line_counted c) 14 0 ≡ 0 = sym ((counted-alike names c long).each 14 refl) ∙ outside in
    rw (eq-eqb (get_or (line_counted c) 14 0) 0 there)

-- In a check it has the file's name and the line's number, and what needed a look before the line is kept.
pub head-in-check : (names c : List ℕ) → length c ≡ 22 → eqb (get_or c 14 0) 0 ≡ false
    → ((begun_told names c).texts ≡ place (take (get_or c 16 0) names) (min (get_or c 2 0 + 1) 18446744073709551615))
    × (get_or (begun_told names c).counts 19 0 ≡ trouble c)
unfolding begun_told head_told trouble added
head-in-check names c long inside =
    let a = counted-alike names c long in
    let l = line_counted c in
    let there : eqb (get_or l 14 0) 0 ≡ false = ap (λ (n : ℕ). eqb n 0) (sym (a.each 14 refl)) ∙ inside in
    let name : get_or (set l 19 (trouble l)) 16 0 ≡ get_or c 16 0 = get_or-set_other l 19 16 (trouble l) 0 (λ e. omega arith) ∙ sym (a.each 16 refl) in
    let number : get_or (set l 19 (trouble l)) 2 0 ≡ min (get_or c 2 0 + 1) 18446744073709551615
    = get_or-set_other l 19 2 (trouble l) 0 (λ e. omega arith)
    ∙ (counted-left names c long 2 (λ e. omega arith) (λ e. omega arith) (λ e. omega arith) ∙ get_or-set_same c 2 _ 0 (rw long (omega arith))) in
    let bad : get_or l 6 0 ≡ get_or c 6 0
    = counted-left names c long 6 (λ e. omega arith) (λ e. omega arith) (λ e. omega arith) ∙ get_or-set_other c 2 6 _ 0 (λ e. omega arith) in
    let kept : trouble l ≡ trouble c = rw (bad, a.each 5 refl, a.each 8 refl) in (
      rw (there, name, number),
      rw there (get_or-set_other (set l 19 (trouble l)) 20 19 _ 0 (λ e. omega arith) ∙ (get_or-set_same l 19 (trouble l) 0 (rw a.long' (omega arith)) ∙ kept)),
    )

-- Behind the heads of two lines.
pub heads-within : (names c c' : List ℕ) → AlikeCounts c c' → WithinLine (get_or c 14 0) (begun_told names c).counts (begun_told names c').counts
heads-within names c c' a =
    let one = begun-alike names c a.long in
    let other = begun-alike names c' a.long' in
    record {
      counts = alike-on _ c _ (alike-back c _ one) (alike-on c c' _ a other);
      refused = begun-refused names c a.long ∙ (a.each 4 refl ∙ sym (begun-refused names c' a.long'));
      here = begun-before names c a.long ∙ sym (begun-bad names c a.long);
      there = begun-before names c' a.long' ∙ sym (begun-bad names c' a.long');
      checked = sym (one.each 14 refl);
    }

-- The places of the buffer, set to 0 in both.
pub elsewhere-alike : (c c' : List ℕ) → AlikeCounts c c' → AlikeCounts c (elsewhere 0 0 0 0 c')
elsewhere-alike c c' a = alike_set 20 0 refl c _ (alike_set 13 0 refl c _ (alike_set 12 0 refl c _ (alike_set 0 0 refl c c' a)))
