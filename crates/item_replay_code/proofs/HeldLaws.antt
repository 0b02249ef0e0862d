-- Where a line ends, and what is kept of it. Assumes nothing.
use Prim.Native.Nat.{ℕ, ◌+◌, ◌-◌, ◌≤◌, ◌<◌}
use native.Mathlib.Omega.{arith}
use mathlib.Core.Bool.{true, false, true≢false}
use mathlib.Core.List.{[], ◌∷◌, ◌++◌}
use mathlib.Core.Path.{◌≡◌, refl, sym, ap, ◌∙◌}
use mathlib.Core.Logic.{◌≢◌}
use lib.Dec.{eqb}
use lib.ListN.{length, take, drop, length-take, length-append, length-drop}
use lib.Seq.{length-take-le, take_at, take-append-add}
use borrow.Author.Tests.{eq-eqb, ne_eqb}
use Rattle.std.specs.Prelude.{Option}
use Rattle.std.specs.List.{AllWithin, HoldsAt}
use Rattle.std.specs.Option.{MatchOption, unwrap_or}
use Rattle.std.proofs.lemmas.Iterator.{index_from_first}
use Rattle.unit.proofs.Cases.{by-test}
use Rattle.numeral.specs.Place.{overwrite, Put}
use Rattle.text.specs.Text.{Text}
use Rattle.text.specs.OwnPut.{Puts}
use Rattle.text.proofs.Putting.{puts}
use Rattle.item_replay.specs.OwnFeed.{has_feed, before_feed}
use Rattle.item_replay_code.specs.OwnHeld.{Copied, Ends, Holds}

-- ---- where a line ends

-- A line feed stands right behind the bytes before it.
before-most : (t : Text) → length (before_feed t) ≤ length t
unfolding before_feed
before-most [] = omega arith
before-most (c ∷ cs) = let h = before-most cs in by-test (eqb c 10) (λ e. rw e (omega arith)) (λ e. rw e (omega arith))

feed_there : (t : Text) → length (before_feed t) < length t → has_feed t ≡ true
unfolding has_feed before_feed
feed_there [] = λ h. absurd (omega arith)
feed_there (c ∷ cs) = by-test (eqb c 10) (λ e. rw e (λ h. refl)) (λ e. rw e (λ h. feed_there cs (omega arith)))

feed-none : (t : Text) → length t ≤ length (before_feed t) → has_feed t ≡ false
unfolding has_feed before_feed
feed-none [] = λ h. refl
feed-none (c ∷ cs) = by-test (eqb c 10) (λ e. rw e (λ h. absurd (omega arith))) (λ e. rw e (λ h. feed-none cs (omega arith)))

pub line_ends : (text : Text) (from end : ℕ) → from ≤ length text → end ≡ from + length (before_feed (drop from text)) → Ends text from end
line_ends text from end low e =
    let rest : length (drop from text) ≡ length text - from = length-drop from text in
    let most = before-most (drop from text) in
    record {
      low = omega arith;
      high = omega arith;
      before = e;
      some = λ h. feed_there (drop from text) (omega arith);
      none = λ h. feed-none (drop from text) (omega arith);
    }

-- The place of the first line feed is how many bytes stand before it.
abbrev feed_place : Text → ℕ
feed_place t = length (before_feed t)

before-hit : (c : ℕ) (cs : Text) → c ≡ 10 → feed_place (c ∷ cs) ≡ 0
unfolding before_feed
before-hit c cs h = rw (eq-eqb c 10 h)

before-miss : (c : ℕ) (cs : Text) → c ≢ 10 → feed_place (c ∷ cs) ≡ feed_place cs + 1
unfolding before_feed
before-miss c cs h = rw (ne_eqb c 10 h) (omega arith)

none-before : feed_place [] ≡ 0
unfolding before_feed
none-before = refl

pub before-position : (t : Text) (r : Option ℕ)
    → MatchOption r (AllWithin (λ c. c ≢ 10) t 0 (length t)) (λ i. (i < length t) × HoldsAt (λ c. c ≡ 10) t i × AllWithin (λ c. c ≢ 10) t 0 i)
    → feed_place t ≡ unwrap_or r (length t)
before-position t r m = index_from_first feed_place (λ c. c ≡ 10) (λ c. c ≢ 10) none-before before-hit before-miss t r m

-- ---- what is kept

take-both : (n k : ℕ) (xs ys : Text) → length xs ≡ k → k ≤ n → take n (xs ++ ys) ≡ xs ++ take (n - k) ys
take-both n k xs ys e h =
    ap (λ m. take m (xs ++ ys)) (let z : n ≡ length xs + (n - k) = rw e (omega arith) in z) ∙ take-append-add xs ys (n - k)

-- what is put after the bytes that are kept, as far as it has room
pub copied : (more line line' : Text) (begun r : ℕ) → length line ≡ 1002 → begun ≤ 1002
    → Put line begun (take (1002 - begun) more) r line' → Copied more line begun r line'
unfolding overwrite
copied more line line' begun r size low p =
    let t = take (1002 - begun) more in
    let fit : length t ≤ 1002 - begun = rw (length-take (1002 - begun) more) (omega arith) in
    let room : begun + length t ≤ length line = rw size (omega arith) in
    let q : Puts line begun t r line' = puts p in
    let front : length (take begun line) ≡ begun = length-take-le begun line (rw size low) in
    let both : length (take begun line ++ t) ≡ begun + length t = length-append (take begun line) t ∙ rw front in
    record {
      bytes =
          rw (q.bytes room, q.next room)
          (take_at (take begun line ++ t) (drop (begun + length t) line) (begun + length t) both
          ∙ sym (take-both 1002 begun (take begun line) more front low));
      most = rw (q.next room) (omega arith);
    }

-- ---- a line that goes on

-- the bytes before the first line feed
front : (t : Text) → take (length (before_feed t)) t ≡ before_feed t
unfolding before_feed
front [] = refl
front (c ∷ cs) = by-test (eqb c 10) (λ e. rw e) (λ e. rw e (ap (λ l. c ∷ l) (front cs)))

-- the part of a text that was copied
pub part-before : (text : Text) (from end : ℕ) → Ends text from end → take (end - from) (drop from text) ≡ before_feed (drop from text)
part-before text from end e =
    let n : end - from ≡ length (before_feed (drop from text)) = let b = e.before in omega arith in
    ap (λ k. take k (drop from text)) n ∙ front (drop from text)

-- the line ends
pub held_whole : (text line line' : Text) (from end begun n : ℕ) → Ends text from end → end < length text
    → Copied (take (end - from) (drop from text)) line begun n line' → Holds text from line begun record { next = end + 1; begun = n; whole = true } line'
held_whole text line line' from end begun n e h k = record {
  bytes = k.bytes ∙ rw (part-before text from end e);
  most = k.most;
  whole = sym (e.some h);
  next = λ _. rw e.before (omega arith);
  over = λ f. absurd (true≢false f);
  high = omega arith;
}

-- it goes on
pub held-part : (text line line' : Text) (from end begun n : ℕ) → Ends text from end → length text ≤ end
    → Copied (take (end - from) (drop from text)) line begun n line' → Holds text from line begun record { next = end; begun = n; whole = false } line'
held-part text line line' from end begun n e h k = record {
  bytes = k.bytes ∙ rw (part-before text from end e);
  most = k.most;
  whole = sym (e.none h);
  next = λ f. absurd (true≢false (sym f));
  over = λ _. let g = e.high in omega arith;
  high = e.high;
}
