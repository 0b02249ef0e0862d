-- A listing leaves on the page what it tells, where there is room for it: its lines stand behind their head, and a refusal takes the
-- head's place. Assumes nothing.
use Prim.Native.Nat.{ℕ, zero, suc, ◌+◌, ◌-◌, ◌*◌, ◌/◌, ◌≤◌, min}
use mathlib.Core.Path.{◌≡◌, refl, ap, ◌∙◌}
use mathlib.Core.Bool.{Bool, true, false, cond}
use mathlib.Core.List.{List, [], ◌∷◌, ◌++◌, append_assoc}
use native.Mathlib.Omega.{arith}
use lib.Dec.{ltb}
use lib.IntN.{ℤ}
use lib.ListN.{length, get_or, take, drop, length-append, length-drop, take-append-drop}
use lib.Seq.{length-take-le, take_at, drop-append-add, drop-drop}
use borrow.Author.Tests.{le-leb, le-ltb}
use Rattle.unit.proofs.Cases.{by-test}
use Rattle.numeral.specs.Digit.{digits, glyph}
use Rattle.numeral.specs.Place.{no_room, overwrite, joined}
use Rattle.numeral.specs.Print.{width_from, decimal_width, decimal}
use Rattle.numeral.proofs.PlaceLaws.{put-each, length-overwrite, overwrite-append}
use Rattle.numeral.proofs.PrintLaws.{length-decimal}
use Rattle.listing.specs.Listing.{capture_digits, line_length, lines, last_above, listing}
use Rattle.listing.proofs.Meaning.{Fit, lines-length}
use Rattle.numeral.specs.Ascii.{ascii}
use Rattle.wording.specs.Wording.{Texts, counted as number_of, refusal_words, refusal_word, refusal, refused, listing_head}
use Rattle.item_state.specs.Log.{Log, put, counted, called, call_counted}
use Rattle.item_analysis.specs.Lines.{width_of, listed_at, listing_told, listing_line}
use Rattle.answer_text.proofs.Page.{joined-last}
use Rattle.answer_text.specs.Texts.{on_page, HasRoom, answered, told_of_listing, recorded}

-- ---- a text over another

module _ (l : List ℕ) (at : ℕ) (vs ws : List ℕ) (less : length vs ≤ length ws) (fits : at + length ws ≤ length l) where
  abbrev start : List ℕ
  start = take at l ++ vs

  before : length (take at l) ≡ at
  before = length-take-le at l (omega arith)

  start-long : length start ≡ at + length vs
  start-long = rw (length-append, before)

  same_start : take at (start ++ drop (at + length vs) l) ≡ take at l
  same_start = rw append_assoc (take_at (take at l) (vs ++ drop (at + length vs) l) at before)

  same_end : drop (at + length ws) (start ++ drop (at + length vs) l) ≡ drop (at + length ws) l
  same_end =
      let more : at + length ws ≡ length start + (length ws - length vs) = omega (arith, start-long) in
      let whole : at + length vs + (length ws - length vs) ≡ at + length ws = omega arith in
      ap (λ (n : ℕ). drop n (start ++ drop (at + length vs) l)) more
      ∙ (drop-append-add start (drop (at + length vs) l) (length ws - length vs)
      ∙ (drop-drop (length ws - length vs) (at + length vs) l ∙ ap (λ (n : ℕ). drop n l) whole))

  -- A text that is put over a shorter one leaves nothing of it.
  overwrite-over : overwrite (overwrite l at vs) at ws ≡ overwrite l at ws
  unfolding overwrite
  overwrite-over = rw (same_start, same_end)

-- ---- how long the texts are

few-digits : (k v : ℕ) → width_from k v ≤ suc k
unfolding width_from
few-digits zero v = omega arith
few-digits (suc k) v = go (ltb v 10) (few-digits k (v / 10))
  where
    go : (b : Bool) → width_from k (v / 10) ≤ suc k → cond b 1 (suc (width_from k (v / 10))) ≤ suc (suc k)
    go true h = omega arith
    go false h = omega arith

decimal-short : (v : ℕ) → length (decimal v) ≤ 20
unfolding decimal_width
decimal-short v = omega (arith, length-decimal v, few-digits 19 v)

head-short : (used : ℕ) → length (joined (listing_head used)) ≤ 29
unfolding listing_head number_of joined ascii
head-short used = omega (arith, length-append (decimal used) (10 ∷ []), decimal-short used)

refusal-long : length (joined (refused (ascii "listing") 20)) ≡ 29
unfolding refused refusal refusal_word refusal_words decimal decimal_width width_from digits glyph joined ascii
refusal-long = refl

-- ---- the lines behind their head

abbrev listed : ℕ → ℕ → List ℤ → ℕ → Log → Log
listed d first values used l =
    let head = put (listing_head used) l in
    let o = listed_at d values first head.bytes head.next in
    listing_told o.answer head.next record { counts = l.counts; answers = o.bytes }

module _ (d first : ℕ) (values : List ℤ) (used : ℕ) (l : Log) where
  abbrev at : ℕ
  at = get_or l.counts 0 0

  abbrev head : List ℕ
  head = joined (listing_head used)

  -- the buffer with the head, the place behind it, and what is left there
  abbrev headed : List ℕ
  headed = overwrite l.answers at head

  abbrev next : ℕ
  next = at + length head

  abbrev rest : List ℕ
  rest = drop next headed

  abbrev text : List ℕ
  text = lines d first values

  behind-head : next ≤ length l.answers
      → listed d first values used l
      ≡ listing_told (listing d values first rest).answer next
      record { counts = l.counts; answers = take next headed ++ (listing d values first rest).bytes }
  unfolding listed_at
  behind-head room =
      let long = length-overwrite l.answers at head room in
      rw (put-each (listing_head used) l.answers at room, le-leb next (length headed) (omega arith))

  module _ (above : last_above d first (length values) ≡ true) where
    abbrev no-texts : Texts
    no-texts = refused (ascii "listing") 20

    refused-told : at + length (joined no-texts) ≤ length l.answers → length head ≤ length (joined no-texts) → next ≤ length l.answers
        → listing_told (listing d values first rest).answer next
        record { counts = l.counts; answers = take next headed ++ (listing d values first rest).bytes }
        ≡ on_page (answered 1 no-texts l.counts) l
    unfolding listing listing_told called counted call_counted on_page
    refused-told room less fits =
        let long = length-overwrite l.answers at head fits in
        rw (above, take-append-drop next headed, put-each no-texts headed at (omega arith), put-each no-texts l.answers at room, overwrite-over l.answers at head (joined no-texts) less room)

    refused-page : at + length (joined no-texts) ≤ length l.answers
        → listed d first values used l ≡ on_page (answered 1 no-texts l.counts) l
    refused-page room =
        let size = refusal-long in
        let short = head-short used in
        let fits : next ≤ length l.answers = omega arith in
        behind-head fits ∙ refused-told room (omega arith) fits

  module _ (low : last_above d first (length values) ≡ false) (fit : Fit values) (small : length l.answers ≤ no_room) where
    -- the lines put behind the head are put with it
    together : next + length text ≤ length l.answers
        → take next headed ++ (text ++ drop (length text) rest) ≡ overwrite l.answers at (head ++ text)
    unfolding overwrite
    together fits =
        rw (drop-drop (length text) next headed, ← append_assoc (take next headed) text (drop (next + length text) headed))
        (overwrite-append l.answers at head text fits)

    written-told : at + length (joined (listing_head used ++ (text ∷ []))) ≤ length l.answers → next + length text ≤ length l.answers
        → listing_told (listing d values first rest).answer next
        record { counts = l.counts; answers = take next headed ++ (listing d values first rest).bytes }
        ≡ on_page (answered 0 (listing_head used ++ (text ∷ [])) l.counts) l
    unfolding listing listing_told counted call_counted on_page
    written-told room fits =
        let long = length-overwrite l.answers at head (omega arith) in
        let left : length rest ≡ length headed - next = length-drop next headed in
        let size : length text ≡ length values * line_length d = lines-length d first values fit in
        let enough : length values * line_length d ≤ length rest = omega arith in
        let end : min (next + length text) no_room ≡ next + length text = omega arith in
        let whole : at + length (head ++ text) ≡ next + length text = rw length-append (omega arith) in
        rw (low, le-ltb (length rest) (length values * line_length d) enough, end, together fits, put-each (listing_head used ++ (text ∷ [])) l.answers at room, joined-last (listing_head used) text, whole)

    written-page : at + length (joined (listing_head used ++ (text ∷ []))) ≤ length l.answers
        → listed d first values used l ≡ on_page (answered 0 (listing_head used ++ (text ∷ [])) l.counts) l
    written-page room =
        let whole : length (joined (listing_head used ++ (text ∷ []))) ≡ length head + length text = ap length (joined-last (listing_head used) text) ∙ length-append head text in
        behind-head (omega arith) ∙ written-told room (omega arith)

  listed-page : HasRoom (told_of_listing d first values used l.counts) l → length l.answers ≤ no_room → Fit values
      → listed d first values used l ≡ on_page (told_of_listing d first values used l.counts) l
  unfolding told_of_listing
  listed-page room small fit =
      by-test (last_above d first (length values)) (λ e. rw e (refused-page e (rw e at room))) (λ e. rw e (written-page e fit small (rw e at room)))

pub listing-page : (old : Bool) (first : ℕ) (differences : List ℤ) (l : Log)
    → HasRoom (told_of_listing (capture_digits (width_of old)) first (recorded differences l.counts) (get_or l.counts 10 0) l.counts) l
    → length l.answers ≤ no_room → Fit (recorded differences l.counts)
    → listing_line old first differences l
    ≡ on_page (told_of_listing (capture_digits (width_of old)) first (recorded differences l.counts) (get_or l.counts 10 0) l.counts) l
unfolding listing_line
listing-page old first differences l room small fit =
    listed-page (capture_digits (width_of old)) first (recorded differences l.counts) (get_or l.counts 10 0) l room small fit
