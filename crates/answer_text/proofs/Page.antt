-- Texts on a page: what is put behind the answers so far. Assumes nothing.
use Prim.Native.Nat.{ℕ, ◌+◌, ◌<◌}
use mathlib.Core.Path.{◌≡◌, refl, ap, ◌∙◌}
use mathlib.Core.List.{List, [], ◌∷◌, ◌++◌, append_assoc, append-nil}
use native.Mathlib.Omega.{arith}
use lib.ListN.{length, get_or, take, drop, length-append}
use lib.Seq.{set-get_or, set-set, get_or-set_same, length-take-le, take_at}
use Rattle.unit.proofs.Cases.{by-leb}
use Rattle.numeral.specs.Place.{overwrite, next_place, written, put_each, joined}
use Rattle.numeral.proofs.PlaceLaws.{put-each, length-overwrite}
use Rattle.wording.specs.Text.{PutEach}
use Rattle.wording.specs.Wording.{Texts}
use Rattle.wording.proofs.Each.{each-then}
use Rattle.item_state.specs.Log.{Log, put, counted, called, call_counted}
use Rattle.answer_text.specs.Texts.{Told, on_page, HasRoom, ending_at, silent, answered}

-- A log that has a first count.
abbrev pub front : ℕ → List ℕ → List ℕ → Log
front c cs answers = record { counts = c ∷ cs; answers = answers }

pub by_front : (P : Log → Type 0) → ((c : ℕ) (cs answers : List ℕ) → P (front c cs answers)) → (l : Log) → 0 < length l.counts → P l
by_front P f l = go l.counts
  where
    go : (counts : List ℕ) → 0 < length counts → P record { counts = counts; answers = l.answers }
    go [] h = absurd (omega arith)
    go (c ∷ cs) h = f c cs l.answers

-- Where nothing is told, all is left as it was.
pub silent-page : (l : Log) → l ≡ on_page (silent l.counts) l
unfolding on_page put_each
silent-page l = rw (set-get_or l.counts 0 0)

-- Where the answers end is no part of what is told.
pub ending-page : (place : ℕ) (told : Told) (l : Log) → on_page (ending_at place told) l ≡ on_page told l
unfolding on_page
ending-page place told l = rw set-set

put_whole : (l : List ℕ) (at : ℕ) (ts : Texts) → PutEach l at ts (put_each l at ts).next (put_each l at ts).bytes
put_whole l at ts = record { next = refl; bytes = refl }

-- One thing told, and then another.
pub put-more : (l : List ℕ) (at : ℕ) (ts us : Texts) → put_each l at (ts ++ us) ≡ put_each (put_each l at ts).bytes (put_each l at ts).next us
put-more l at ts us = each-then us (put_whole l at ts)

pub page-then : (first second : Told) (l : Log) → 0 < length first.counts
    → on_page second (on_page first l) ≡ on_page record { texts = first.texts ++ second.texts; counts = second.counts } l
unfolding on_page
page-then first second l h =
    rw (get_or-set_same first.counts 0 (put first.texts l).next 0 h, put-more l.answers (get_or l.counts 0 0) first.texts second.texts)

-- A call's answer.
pub called-page : (refused : ℕ) (texts : Texts) (counts : List ℕ) (l : Log) → get_or counts 0 0 ≡ get_or l.counts 0 0
    → called refused texts record { counts = counts; answers = l.answers } ≡ on_page (answered refused texts counts) l
unfolding called counted call_counted on_page
called-page refused texts counts l e = rw e

-- ---- texts as one

pub joined-append : (ts us : Texts) → joined (ts ++ us) ≡ joined ts ++ joined us
unfolding joined
joined-append [] us = refl
joined-append (t ∷ ts) us = rw (joined-append ts us, append_assoc)

pub joined-last : (ts : Texts) (t : List ℕ) → joined (ts ++ (t ∷ [])) ≡ joined ts ++ t
unfolding joined
joined-last ts t = joined-append ts (t ∷ []) ∙ rw append-nil

-- ---- the buffer stays as long as it was

written-long : (l : List ℕ) (at : ℕ) (vs : List ℕ) → length (written l at vs) ≡ length l
unfolding written
written-long l at vs = by-leb (at + length vs) (length l) (λ h e. rw e (length-overwrite l at vs h)) (λ h e. rw e)

put-long : (ts : Texts) (l : List ℕ) (at : ℕ) → length (put_each l at ts).bytes ≡ length l
unfolding put_each
put-long [] l at = refl
put-long (t ∷ ts) l at = put-long ts (written l at t) (next_place l at t) ∙ written-long l at t

pub page-long : (told : Told) (l : Log) → length (on_page told l).answers ≡ length l.answers
unfolding on_page
page-long told l = put-long told.texts l.answers (get_or l.counts 0 0)

-- ---- where there is room, the texts stand on the page

page-bytes : (told : Told) (l : Log) → HasRoom told l → (front : List ℕ) (n : ℕ)
    → front ≡ take (get_or l.counts 0 0) l.answers ++ joined told.texts → length front ≡ n → take n (on_page told l).answers ≡ front
unfolding on_page overwrite
page-bytes told l room front n e long =
    rw (put-each told.texts l.answers (get_or l.counts 0 0) room, ← e)
    (take_at front (drop (get_or l.counts 0 0 + length (joined told.texts)) l.answers) n long)

module _ (told : Told) (l : Log) (room : HasRoom told l) where
  abbrev at : ℕ
  at = get_or l.counts 0 0

  abbrev text : List ℕ
  text = joined told.texts

  module _ (some : 0 < length told.counts) where
    -- The answers end behind the texts
    pub page-ends : get_or (on_page told l).counts 0 0 ≡ at + length text
    unfolding on_page
    page-ends = rw (put-each told.texts l.answers at room, get_or-set_same told.counts 0 (at + length text) 0 some)

    -- and are those before, and then the texts.
    pub page-text : take (get_or (on_page told l).counts 0 0) (on_page told l).answers ≡ take at l.answers ++ text
    page-text = rw page-ends whole
      where
        before : length (take at l.answers) ≡ at
        before = length-take-le at l.answers (omega (arith, room))

        long : length (take at l.answers ++ text) ≡ at + length text
        long = rw (length-append, before)

        whole : take (at + length text) (on_page told l).answers ≡ take at l.answers ++ text
        whole = page-bytes told l room (take at l.answers ++ text) (at + length text) refl long

-- Where there is room for one thing told and another behind it, there is room for the second where the first stands on the page.
pub room-first : (first second : Told) (l : Log) → HasRoom record { texts = first.texts ++ second.texts; counts = second.counts } l → HasRoom first l
room-first first second l room =
    let whole : length (joined (first.texts ++ second.texts)) ≡ length (joined first.texts) + length (joined second.texts) =
    ap length (joined-append first.texts second.texts) ∙ length-append (joined first.texts) (joined second.texts) in
    omega (arith, room, whole)

pub room-second : (first second : Told) (l : Log) → 0 < length first.counts
    → HasRoom record { texts = first.texts ++ second.texts; counts = second.counts } l → HasRoom second (on_page first l)
room-second first second l some room =
    let whole : length (joined (first.texts ++ second.texts)) ≡ length (joined first.texts) + length (joined second.texts) =
    ap length (joined-append first.texts second.texts) ∙ length-append (joined first.texts) (joined second.texts) in
    rw (page-ends first l (room-first first second l room) some, page-long first l) (omega (arith, room, whole))
