-- What is told goes by neither the buffer nor where the answers end. Assumes nothing.
use Prim.Native.Nat.{ℕ, ◌<◌}
use mathlib.Core.Path.{◌≡◌, refl, ap, ◌∙◌}
use mathlib.Core.List.{List, [], ◌∷◌}
use native.Mathlib.Omega.{arith}
use lib.ListN.{length, get_or, set, length-set}
use lib.Seq.{set-get_or, get_or-set_same}
use Rattle.wording.specs.Wording.{Texts}
use Rattle.item_state.specs.Log.{Log, added, put, call_counted}
use Rattle.answer_text.proofs.Page.{ending-page, page-then}
use Rattle.answer_text.specs.Texts.{Told, on_page, ending_at, silent, behind, answered}

-- What is told of counts, and of the same counts with another first one: the texts are the same, and the counts differ in the first
-- alone; and there are as many counts as before.
pub record Aside (counts : List ℕ) (place : ℕ) (told other : Told) : Type 0 where
  pub same : other ≡ ending_at place told
  pub long : length told.counts ≡ length counts

-- So it is of all counts.
abbrev pub Apart : (List ℕ → Told) → Type 0
Apart tell = (counts : List ℕ) (place : ℕ) → Aside counts place (tell counts) (tell (set counts 0 place))

-- The first count is left as it was.
pub first-left : (tell : List ℕ → Told) → Apart tell → (counts : List ℕ) → 0 < length counts
    → get_or (tell counts).counts 0 0 ≡ get_or counts 0 0
first-left tell apart counts h =
    let a = apart counts (get_or counts 0 0) in
    let same : tell counts ≡ ending_at (get_or counts 0 0) (tell counts) = rw (set-get_or counts 0 0) at a.same in
    ap (λ (t : Told). get_or t.counts 0 0) same
    ∙ get_or-set_same (tell counts).counts 0 (get_or counts 0 0) 0 (omega (arith, a.long))

pub silent-aside : (counts : List ℕ) (place : ℕ) → Aside counts place (silent counts) (silent (set counts 0 place))
silent-aside counts place = record { same = refl; long = refl }

pub asked-aside : (texts : Texts) (counts : List ℕ) (place : ℕ)
    → Aside counts place record { texts = texts; counts = counts } record { texts = texts; counts = set counts 0 place }
asked-aside texts counts place = record { same = refl; long = refl }

-- ---- one thing told behind another

pub page-some : (first : Told) (l : Log) → 0 < length first.counts → 0 < length (on_page first l).counts
unfolding on_page
page-some first l some = rw length-set some

-- What is told of the counts on the page, and of those that were told.
pub page-counts : (first : Told) (l : Log) (tell : List ℕ → Told) → Apart tell
    → tell (on_page first l).counts ≡ ending_at (put first.texts l).next (tell first.counts)
unfolding on_page
page-counts first l tell apart = (apart first.counts (put first.texts l).next).same

pub page-behind : (first : Told) (tell : List ℕ → Told) (l : Log) → 0 < length first.counts → Apart tell
    → on_page (tell (on_page first l).counts) (on_page first l) ≡ on_page (behind first tell) l
page-behind first tell l some apart =
    ap (λ (t : Told). on_page t (on_page first l)) (page-counts first l tell apart)
    ∙ (ending-page (put first.texts l).next (tell first.counts) (on_page first l) ∙ page-then first (tell first.counts) l some)

pub behind-aside : (counts : List ℕ) (place : ℕ) (first other : Told) (tell : List ℕ → Told) → Apart tell → Aside counts place first other
    → Aside counts place (behind first tell) (behind other tell)
behind-aside counts place first other tell apart a =
    let p = apart first.counts place in record { same = rw (a.same, p.same); long = p.long ∙ a.long }

-- ---- a call's counts

pub call-set : (refused : ℕ) (counts : List ℕ) (place : ℕ) → call_counted refused (set counts 0 place) ≡ set (call_counted refused counts) 0 place
unfolding call_counted added
call-set refused [] place = refl
call-set refused (c ∷ cs) place = refl

pub call_long : (refused : ℕ) (counts : List ℕ) → length (call_counted refused counts) ≡ length counts
unfolding call_counted added
call_long refused counts = rw (length-set, length-set)

pub answered-aside : (refused : ℕ) (texts : Texts) (counts : List ℕ) (place : ℕ)
    → Aside counts place (answered refused texts counts) (answered refused texts (set counts 0 place))
answered-aside refused texts counts place = record { same = rw call-set; long = call_long refused counts }
