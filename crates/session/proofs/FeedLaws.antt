-- The lines of what was read, one after the other. Assumes nothing.
use Prim.Native.Nat.{ℕ, zero, suc, ◌+◌, ◌-◌, ◌≤◌, ◌<◌}
use mathlib.Core.Bool.{Bool, true, false, cond, true≢false, false≢true}
use mathlib.Core.List.{List, [], ◌∷◌}
use mathlib.Core.Path.{◌≡◌, refl, sym, ap, subst, ◌∙◌}
use native.Mathlib.Decide.{dec_le}
use native.Mathlib.Omega.{arith}
use lib.Dec.{eqb, leb}
use lib.ListN.{length, get_or, take, drop, length-drop, drop_of_length-le}
use lib.Seq.{length-take-le, drop-drop}
use Rattle.line.specs.Line.{line_reading}
use Rattle.line_buffer.specs.Lines.{has_line, behind_line, line_end}
use Rattle.line_buffer.proofs.LineLaws.{line-not-there, behind-shorter, line-there, line-nowhere, line-part, line-behind-part}
use Rattle.session.specs.Line.{Replay, line_answered}
use Rattle.session.specs.Feed.{Fed, has_room, left_behind, line_fed, fed}

-- Where there is no line, nothing is answered.
pub fed-none : (turns : ℕ) (f : Fed) → has_line f.left ≡ false → fed turns f ≡ f
unfolding fed
fed-none zero f none = refl
fed-none (suc turns) f none = rw none

-- Where there is room behind a line, the line is answered whole.
room_whole : (counts : List ℕ) → has_room counts ≡ true → eqb (get_or counts 21 0) 0 ≡ true
unfolding has_room
room_whole counts = go (eqb (get_or counts 21 0) 0)
  where
    go : (t : Bool) → cond t (leb (get_or counts 0 0) 49152) false ≡ true → t ≡ true
    go true e = refl
    go false e = absurd (false≢true e)

shorter : (f : Fed) → has_line f.left ≡ true → has_room (line_fed f).replay.state.log.counts ≡ true → length (line_fed f).left < length f.left
unfolding line_fed left_behind
shorter f some room = rw (room_whole (line_fed f).replay.state.log.counts room) (behind-shorter f.left some)

-- As many turns as there are bytes are enough.
enough : (k j : ℕ) (f : Fed) → length f.left ≤ k → length f.left ≤ j → fed k f ≡ fed j f
unfolding fed
enough zero zero f p q = refl
enough zero (suc j) f p q = sym (fed-none (suc j) f (line-not-there f.left (omega arith)))
enough (suc k) zero f p q = fed-none (suc k) f (line-not-there f.left (omega arith))
enough (suc k) (suc j) f p q =
    go (has_line f.left) refl (has_room (line_fed f).replay.state.log.counts) refl (λ less. enough k j (line_fed f) (omega arith) (omega arith))
  where
    go : (t : Bool) → has_line f.left ≡ t → (u : Bool) → has_room (line_fed f).replay.state.log.counts ≡ u
        → (length (line_fed f).left < length f.left → fed k (line_fed f) ≡ fed j (line_fed f))
        → cond t (cond u (fed k (line_fed f)) (line_fed f)) f ≡ cond t (cond u (fed j (line_fed f)) (line_fed f)) f
    go true some true room later = later (shorter f some room)
    go true some false room later = refl
    go false none u room later = refl

-- A line more: where there is room behind it, and where there is none.
pub fed-on : (k j : ℕ) (f : Fed) → length f.left ≤ k → has_line f.left ≡ true → has_room (line_fed f).replay.state.log.counts ≡ true
    → length (line_fed f).left ≤ j → fed k f ≡ fed j (line_fed f)
unfolding fed
fed-on zero j f enough' some room rest = absurd (let less = shorter f some room in omega arith)
fed-on (suc k) j f enough' some room rest =
    let less = shorter f some room in rw (some, room) (enough k j (line_fed f) (omega arith) rest)

pub fed-last : (k : ℕ) (f : Fed) → length f.left ≤ k → has_line f.left ≡ true → has_room (line_fed f).replay.state.log.counts ≡ false
    → fed k f ≡ line_fed f
unfolding fed
fed-last zero f enough' some full = let z = line-not-there f.left (omega arith) in absurd (true≢false (sym some ∙ z))
fed-last (suc k) f enough' some full = rw (some, full)

-- ---- the places of a loop over the bytes

-- The line from i on ends at `end`, and to go on with f comes to `whole`; or `end` is that of the bytes, and f is `whole`.
pub record Goes (part : List ℕ) (i end : ℕ) (f whole : Fed) : Type 0 where
  pub more : end < length part → (end ≡ line_end i part) × (fed (length part) f ≡ whole)
  pub done : length part ≤ end → f ≡ whole

-- At the start.
pub goes_first : (part : List ℕ) (end : ℕ) (f : Fed) → f.left ≡ part → end ≡ line_end 0 part → Goes part 0 end f (fed (length part) f)
goes_first part end f all there = record {
  more = λ less. (there, refl);
  done = λ over. sym (fed-none (length part) f (ap has_line all ∙ line-nowhere part 0 end there (omega arith) over));
}

-- A line ends no sooner than it starts.
pub end_low : (part : List ℕ) (i end : ℕ) → end ≡ line_end i part → i ≤ end
unfolding line_end
end_low part i end there = omega arith

-- The next line starts within the bytes.
next_low : (n i end : ℕ) → i ≤ n → end < n → {i' : ℕ} (t : Bool) → i' ≡ cond t (end + 1) i → i' ≤ n
next_low n i end low less true next = omega arith
next_low n i end low less false next = omega arith

-- A line was answered.
module _ (part : List ℕ) (i end : ℕ) (low : i ≤ length part) (less : end < length part) (there : end ≡ line_end i part)
    (replay : Replay) (numbers : List ℕ) {replay' : Replay} {numbers' : List ℕ} {i' end' : ℕ}
    (read : numbers' ≡ (line_reading numbers (take (end - i) (drop i part))).numbers)
    (answered : replay' ≡ line_answered (take (end - i) (drop i part)) numbers replay)
    (next : i' ≡ cond (eqb (get_or replay'.state.log.counts 21 0) 0) (end + 1) i)
    (stop : end' ≡ cond (has_room replay'.state.log.counts) (line_end i' part) (length part)) where
  abbrev f : Fed
  f = record { replay = replay; numbers = numbers; left = drop i part }

  abbrev f' : Fed
  f' = record { replay = replay'; numbers = numbers'; left = drop i' part }

  line-left : drop i' part ≡ left_behind (drop i part) replay'.state.log.counts
  unfolding left_behind
  line-left = rw next (go (eqb (get_or replay'.state.log.counts 21 0) 0))
    where
      go : (t : Bool) → drop (cond t (end + 1) i) part ≡ cond t (behind_line (drop i part)) (drop i part)
      go true = line-behind-part part i end there low less
      go false = refl

  line-is-fed : f' ≡ line_fed f
  unfolding line_fed
  line-is-fed =
      let part-read = rw (line-part part i end there) at read in
      let part-answered = rw (line-part part i end there) at answered in
      rw (← part-read, ← part-answered, line-left)

  some-line : has_line f.left ≡ true
  some-line = line-there part i end there low less

  short-left : length f.left ≤ length part
  short-left = omega (arith, length-drop i part)

  room-same : has_room (line_fed f).replay.state.log.counts ≡ has_room replay'.state.log.counts
  room-same = ap (λ (g : Fed). has_room g.replay.state.log.counts) (sym line-is-fed)

  goes-room : {whole : Fed} → fed (length part) f ≡ whole → has_room replay'.state.log.counts ≡ true → Goes part i' end' f' whole
  goes-room {whole} e room =
      let at-end : end' ≡ line_end i' part = rw room at stop in
      let on : fed (length part) f ≡ fed (length part) f' =
      fed-on (length part) (length part) f short-left some-line (room-same ∙ room)
      (rw (← line-is-fed) (omega (arith, length-drop i' part)))
      ∙ ap (fed (length part)) (sym line-is-fed) in
      record {
        more = λ less'. (at-end, sym on ∙ e);
        done = λ over. sym (fed-none (length part) f' (line-nowhere part i' end' at-end (next_low (length part) i end low less (eqb (get_or replay'.state.log.counts 21 0) 0) next) over)) ∙ (sym on ∙ e);
      }

  goes-full : {whole : Fed} → fed (length part) f ≡ whole → has_room replay'.state.log.counts ≡ false → Goes part i' end' f' whole
  goes-full {whole} e full =
      let at-end : end' ≡ length part = rw full at stop in
      record {
        more = λ less'. absurd (omega arith);
        done = λ over. line-is-fed ∙ (sym (fed-last (length part) f short-left some-line (room-same ∙ full)) ∙ e);
      }

  pub goes_on : {whole : Fed} → fed (length part) f ≡ whole → Goes part i' end' f' whole
  goes_on {whole} e = go (has_room replay'.state.log.counts) refl
    where
      go : (t : Bool) → has_room replay'.state.log.counts ≡ t → Goes part i' end' f' whole
      go true room = goes-room e room
      go false full = goes-full e full

  -- Each turn comes nearer to the end: the line starts later, or the next end is that of the bytes.
  pub nearer : (length part - i') + (length part - end') < (length part - i) + (length part - end)
  unfolding line_end has_room
  nearer = go (eqb (get_or replay'.state.log.counts 21 0) 0) (leb (get_or replay'.state.log.counts 0 0) 49152) next stop
    where
      go : (t u : Bool) → i' ≡ cond t (end + 1) i → end' ≡ cond (cond t u false) (line_end i' part) (length part)
          → (length part - i') + (length part - end') < (length part - i) + (length part - end)
      go true true a b = omega arith
      go true false a b = omega arith
      go false u a b = omega arith

-- ---- what is left, in the buffer

-- A list ends with another: the last places of it are the other.
record EndsWith (bytes end : List ℕ) : Type 0 where
  short : length end ≤ length bytes
  last : drop (length bytes - length end) bytes ≡ end

ends-all : (bytes : List ℕ) → EndsWith bytes bytes
ends-all bytes =
    let none : length bytes - length bytes ≡ 0 = omega arith in record { short = omega arith; last = rw none }

ends-later : (c : ℕ) (cs end : List ℕ) → EndsWith cs end → EndsWith (c ∷ cs) end
ends-later c cs end e =
    let less = e.short in
    let one : length (c ∷ cs) - length end ≡ suc (length cs - length end) = omega arith in
    record { short = omega arith; last = rw one e.last }

ends_through : (a b c : List ℕ) → EndsWith a b → EndsWith b c → EndsWith a c
ends_through a b c p q =
    let far = p.short in
    let near = q.short in
    let place : length a - length c ≡ (length a - length b) + (length b - length c) = omega arith in
    record {
      short = omega arith;
      last = rw place
          (sym (drop-drop (length b - length c) (length a - length b) a) ∙ ap (drop (length b - length c)) p.last ∙ q.last);
    }

ends-behind : (bytes : List ℕ) → EndsWith bytes (behind_line bytes)
unfolding behind_line
ends-behind [] = ends-all []
ends-behind (c ∷ cs) = go (eqb c 10) (ends-behind cs)
  where
    go : (t : Bool) → EndsWith cs (behind_line cs) → EndsWith (c ∷ cs) (cond t cs (behind_line cs))
    go true e = ends-later c cs cs (ends-all cs)
    go false e = ends-later c cs (behind_line cs) e

line-ends : (f : Fed) → EndsWith f.left (line_fed f).left
unfolding line_fed left_behind
line-ends f = go (eqb (get_or (line_fed f).replay.state.log.counts 21 0) 0)
  where
    go : (t : Bool) → EndsWith f.left (cond t (behind_line f.left) f.left)
    go true = ends-behind f.left
    go false = ends-all f.left

fed-ends : (turns : ℕ) (f : Fed) → EndsWith f.left (fed turns f).left
unfolding fed
fed-ends zero f = ends-all f.left
fed-ends (suc turns) f =
    go (has_line f.left) (has_room (line_fed f).replay.state.log.counts)
    (ends_through f.left (line_fed f).left (fed turns (line_fed f)).left (line-ends f) (fed-ends turns (line_fed f)))
  where
    go : (t u : Bool) → EndsWith f.left (fed turns (line_fed f)).left
        → EndsWith f.left (cond t (cond u (fed turns (line_fed f)) (line_fed f)) f).left
    go true true e = e
    go true false e = line-ends f
    go false u e = ends-all f.left

-- Bytes from one place of a buffer to before another: no more than those before the second are left of them, and what is left stands
-- last before it. So `go_on` goes by what `feed` left.
module _ (part : List ℕ) (from end : ℕ) (room : end ≤ length part) (turns : ℕ) (f : Fed) (bytes : f.left ≡ drop from (take end part)) where
  taken : length (take end part) ≡ end
  taken = length-take-le end part room

  from-ends : EndsWith (take end part) (drop from (take end part))
  from-ends = go (dec_le from end)
    where
      long : length (drop from (take end part)) ≡ end - from
      long = length-drop from (take end part) ∙ ap (λ (n : ℕ). n - from) taken

      go : Dec (from ≤ end) → EndsWith (take end part) (drop from (take end part))
      go (yes p) =
          let place : length (take end part) - length (drop from (take end part)) ≡ from = omega (arith, long, taken) in
          record { short = omega (arith, long, taken); last = rw place }
      go (no p) =
          let over : length (take end part) ≤ from = omega (arith, taken) in
          let none : drop from (take end part) ≡ [] = drop_of_length-le (take end part) over in
          rw none record { short = omega arith; last = drop_of_length-le (take end part) {i = length (take end part) - 0} (omega arith) }

  left-ends : EndsWith (take end part) (fed turns f).left
  left-ends =
      ends_through (take end part) (drop from (take end part)) (fed turns f).left from-ends (subst (λ (l : List ℕ). EndsWith l (fed turns f).left) bytes (fed-ends turns f))

  pub left-short : {left : ℕ} → left ≡ length (fed turns f).left → left ≤ end
  left-short so = let less = left-ends.short in omega (arith, taken)

  pub left-last : drop (end - length (fed turns f).left) (take end part) ≡ (fed turns f).left
  left-last = rw taken at left-ends.last
