-- The loop of a replay makes one turn after the other. Assumes nothing.
use Prim.Native.Nat.{ℕ, ◌+◌, ◌-◌, ◌≤◌, ◌<◌}
use mathlib.Core.Bool.{Bool, true, false}
use mathlib.Core.List.{List, [], ◌∷◌, ◌++◌}
use mathlib.Core.Path.{◌≡◌, refl, sym, ap, subst, ◌∙◌}
use native.Mathlib.Omega.{arith}
use lib.IntN.{pos}
use lib.ListN.{length, take, drop, replicate, length-drop}
use borrow.Author.Tests.{ltb-true}
use Rattle.unit.proofs.Cases.{by-test, by_eqb}
use Rattle.device.specs.declared.Model.{Model}
use Rattle.device.specs.Model.{fresh_model}
use Rattle.line_buffer.specs.Lines.{has_line}
use Rattle.session.specs.Line.{Replay, with_log}
use Rattle.session.specs.Feed.{Fed, fed}
use Rattle.session.specs.Flush.{after_writing}
use Rattle.session.specs.Input.{goes_on, was_whole, over_from, ReadOn, WentOn}
use Rattle.session.specs.Ends.{names_begun, counts_begun, outcome_of}
use Rattle.collection.specs.declared.Outcome.{Outcome}
use Rattle.session.specs.Turns.{Turned, flushed, turned, with_bytes, start, turned_on, reading, left_over, Reached, begun, line, read, ended, failed, done, broken, ReachedBy, Replayed}
use Rattle.session.proofs.FeedLaws.{left-last}

-- before the first turn
pub loop-begun : (path : List ℕ) (check : Bool) {m : Model} {names counts : List ℕ} → m ≡ fresh_model
    → names ≡ names_begun (replicate 5120 0) path
    → counts ≡ counts_begun (replicate 5120 0) path check (replicate 22 0)
    → ReachedBy path check 0 0 record {
      replay = record {
        state = record {
          model = m;
          flash = replicate 8192 0xFF;
          differences = replicate 4096 (pos 0);
          probes = replicate 1024 0;
          log = record { counts = counts; answers = replicate 163840 0 };
        };
        names = names;
      };
      numbers = replicate 512 0;
      left = [];
    }
unfolding start
loop-begun path check a b c = rw (a, b, c) record { pieces = []; text = []; reached = begun }

-- ---- one turn more

module _ (path : List ℕ) (check : Bool) (n state : ℕ) (f : Fed) (by : ReachedBy path check n state f) where
  abbrev before : Turned
  before = record { text = by.text; fed = f }

  abbrev after : Turned
  after = turned_on before

  abbrev next : ℕ → List ℕ → Type 0
  next state' bytes = ReachedBy path check (n + 1) state' (with_bytes bytes (turned f).fed)

  on-left : left_over after ≡ (turned f).fed.left
  unfolding turned_on
  on-left = refl

  on_line : goes_on state ≡ true → has_line (turned f).fed.left ≡ true → next state (turned f).fed.left
  unfolding turned_on
  on_line going some = record { pieces = by.pieces; text = after.text; reached = line by.reached going some }

  module _ (none : has_line (turned f).fed.left ≡ false) where
    reached-in : {s : ℕ} → state ≡ s → Reached path check n by.pieces s before
    reached-in e = subst (λ (s : ℕ). Reached path check n by.pieces s before) e by.reached

    on-piece : state ≡ 0 → (piece : List ℕ) → 0 < length piece → next 0 (take 1002 (turned f).fed.left ++ piece)
    unfolding turned_on reading
    on-piece e piece some = record { pieces = by.pieces ++ (piece ∷ []); text = after.text; reached = read (reached-in e) none piece some }

    on_read : state ≡ 0 → (state' : ℕ) (bytes : List ℕ) → ReadOn (take 1002 (turned f).fed.left) state' bytes → next state' bytes
    unfolding turned_on reading
    on_read e state' bytes on =
        by_eqb state' 0 (λ more t. rw (more, on.more more) (on-piece e (drop (length (take 1002 (turned f).fed.left)) bytes) (omega (arith, on.some more, length-drop (length (take 1002 (turned f).fed.left)) bytes))))
        (λ first t.
        by_eqb state' 1
        (λ last u. rw (last, on.ended last) record { pieces = by.pieces; text = after.text; reached = ended (reached-in e) none })
        (λ second u.
        let two : state' ≡ 2 = omega (arith, on.known, first, second) in
        rw (two, on.failed two) record { pieces = by.pieces; text = after.text; reached = failed (reached-in e) none }))

    on-over : goes_on state ≡ true → ¬ (state ≡ 0) → next (over_from state) []
    unfolding turned_on reading goes_on over_from
    on-over going other =
        by_eqb state 1 (λ one t. rw one record { pieces = by.pieces; text = after.text; reached = done (reached-in one) none })
        (λ more t.
        let two : state ≡ 2 = omega (arith, ltb-true state 3 going, other, more) in
        rw two record { pieces = by.pieces; text = after.text; reached = broken (reached-in two) none })

  -- What goes on behind a turn.
  pub turn_on : goes_on state ≡ true → (state' : ℕ) (bytes : List ℕ) → WentOn (turned f).fed.left state state' bytes → next state' bytes
  turn_on going state' bytes went =
      by-test (has_line (turned f).fed.left) (λ some. let on = went.line some in rw (on.0, on.1) (on_line going some))
      (λ none.
      by_eqb state 0 (λ more t. on_read none more state' bytes (went.read none more))
      (λ last t. let on = went.over none last in rw (on.0, on.1) (on-over none going last)))

-- ---- a turn of the loop

-- Bytes from one place of a buffer to before another are answered, answers are written, and what is left goes on.
module _ (part : List ℕ) (from end : ℕ) (room : end ≤ length part) (replay : Replay) (numbers bytes : List ℕ)
    (all : bytes ≡ drop from (take end part)) where
  abbrev f : Fed
  f = record { replay = replay; numbers = numbers; left = bytes }

  -- a turn
  turn_is : {replay' : Replay} {numbers' counts : List ℕ} → numbers' ≡ (fed (length bytes) f).numbers → replay' ≡ (fed (length bytes) f).replay
      → counts ≡ after_writing replay'.state.log.counts → (next : List ℕ)
      → record {
        replay = record {
          state = with_log replay'.state record { counts = counts; answers = replay'.state.log.answers };
          names = replay'.names;
        };
        numbers = numbers';
        left = next;
      } ≡ with_bytes next (turned f).fed
  unfolding turned flushed
  turn_is a b c next = rw (c, b, a)

  turn-left : (turned f).fed.left ≡ (fed (length bytes) f).left
  unfolding turned flushed
  turn-left = refl

  -- Behind n turns it makes one more.
  pub loop-turned : (path : List ℕ) (check : Bool) (n : ℕ) {state : ℕ}
      → ReachedBy path check n state record { replay = replay; numbers = numbers; left = drop from (take end part) } → goes_on state ≡ true
      → {replay' : Replay} {numbers' counts : List ℕ} {left : ℕ} → numbers' ≡ (fed (length bytes) f).numbers → replay' ≡ (fed (length bytes) f).replay
      → left ≡ length (fed (length bytes) f).left → counts ≡ after_writing replay'.state.log.counts
      → {state' : ℕ} {next : List ℕ} → WentOn (drop (end - left) (take end part)) state state' next
      → ReachedBy path check (n + 1) state' record {
        replay = record {
          state = with_log replay'.state record { counts = counts; answers = replay'.state.log.answers };
          names = replay'.names;
        };
        numbers = numbers';
        left = next;
      }
  loop-turned path check n {state} by going a b short c {state'} {next} went =
      let here : ReachedBy path check n state f = rw all by in
      let last : drop (end - length (fed (length bytes) f).left) (take end part) ≡ (turned f).fed.left
      = left-last part from end room (length bytes) f all ∙ sym turn-left in
      let on = rw (short, last) at went in
      rw (turn_is a b c next) (turn_on path check n state f here going state' next on)

-- ---- behind the last turn

pub loop-over : (path : List ℕ) (check : Bool) (n state : ℕ) (f : Fed) → ReachedBy path check n state f
    → (goes_on state ≡ true → n ≡ 18446744073709551615) → {whole : Bool} {outcome : Outcome} → whole ≡ was_whole state
    → outcome ≡ outcome_of whole f.replay.state.log.counts → Replayed path check outcome
loop-over path check n state f by over all told = record {
  turns = n;
  pieces = by.pieces;
  state = state;
  last = record { text = by.text; fed = f };
  reached = by.reached;
  over = over;
  told = told ∙ ap (λ (w : Bool). outcome_of w f.replay.state.log.counts) all;
}
