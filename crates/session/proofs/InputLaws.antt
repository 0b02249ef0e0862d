-- Bytes of the buffer that are held, ended and read on. Assumes nothing.
use Prim.Native.Nat.{ℕ, zero, suc, ◌+◌, ◌-◌, ◌≤◌, ◌<◌, min}
use mathlib.Core.Bool.{Bool, true, false, true≢false}
use mathlib.Core.List.{List, [], ◌∷◌, ◌++◌}
use mathlib.Core.Path.{◌≡◌, refl, sym, ap, ◌∙◌}
use native.Mathlib.Decide.{dec_le}
use native.Mathlib.Numerals.{add-one}
use native.Mathlib.Omega.{arith}
use lib.ListN.{length, set, take, drop, length-take, length-drop, take-append-drop}
use lib.Seq.{length-take-le, take_all, take-take, take-add, take-suc-set, drop_at}
use Rattle.std.specs.Prelude.{Result, Ok, Err}
use Rattle.line_buffer.specs.Lines.{has_line}
use Rattle.session.specs.Flush.{line_ending}
use Rattle.session.specs.Input.{number_of, state_after, bytes_after, over_from, ReadOn, WentOn}
use Rattle.session.specs.declared.input.InputState.{InputState}
use Rattle.session.specs.declared.input.InputState.TheVariants.{More, Ended, Unreadable, Done, BrokenOff}

-- ---- a line feed behind bytes that are held

ending : (held : List ℕ) → 0 < length held → line_ending held ≡ held ++ (10 ∷ [])
unfolding line_ending
ending [] some = absurd (omega arith)
ending (c ∷ cs) some = refl

pub ended-none : (part : List ℕ) (held : ℕ) → held ≡ 0 → take 0 part ≡ line_ending (take held part)
unfolding line_ending
ended-none part held none = rw none

pub ended_some : (part : List ℕ) (held : ℕ) → held < length part → ¬ (held ≡ 0) → take (held + 1) (set part held 10) ≡ line_ending (take held part)
ended_some part held room some =
    let long = length-take-le held part (omega arith) in
    rw (add-one held, take-suc-set part held 10 room, ending (take held part) (omega (arith, long)))

-- ---- bytes behind those that are held

read_behind : (part part' : List ℕ) (held n : ℕ) → held ≤ length part → take held part' ≡ take held part
    → take (held + n) part' ≡ take held part ++ drop (length (take held part)) (take (held + n) part')
read_behind part part' held n room same =
    let first : take held (take (held + n) part') ≡ take held part = take-take held (held + n) part' (omega arith) ∙ same in
    rw (length-take-le held part room)
    (sym (take-append-drop held (take (held + n) part')) ∙ ap (λ (l : List ℕ). l ++ drop held (take (held + n) part')) first)

pub read-room : (part part' : List ℕ) (held k n : ℕ) → held ≤ length part → take held part' ≡ take held part
    → n ≤ length (take k (drop held part')) → held + n ≤ length part'
read-room part part' held k n room same less =
    let long : length (take held part') ≡ length (take held part) = ap length same in
    omega (arith, length-take held part', length-take held part, length-take k (drop held part'), length-drop held part')

-- What the system told: a failure,
pub told-failed : {E : Type 0} (got : Result ℕ E) {error : E} (held : ℕ) (part : List ℕ) → got ≡ Err error
    → (2 ≡ state_after got) × ([] ≡ bytes_after got held part)
unfolding state_after bytes_after
told-failed got held part is = rw is (refl, refl)

-- the end,
pub told-ended : {E : Type 0} (got : Result ℕ E) (held : ℕ) (part : List ℕ) → got ≡ Ok 0
    → (1 ≡ state_after got) × (line_ending (take held part) ≡ bytes_after got held part)
unfolding state_after bytes_after
told-ended got held part is = rw is (refl, refl)

-- or some bytes.
pub told_more : {E : Type 0} (got : Result ℕ E) (held n k : ℕ) (part : List ℕ) → got ≡ Ok n → ¬ (n ≡ 0) → k ≡ min n (length part - held)
    → (0 ≡ state_after got) × (take (held + k) part ≡ bytes_after got held part)
unfolding state_after bytes_after
told_more got held zero k part is some less = absurd (some refl)
told_more got held (suc m) k part is some less = rw is (refl, rw less)

read-longer : (part part' : List ℕ) (held n : ℕ) → held ≤ length part → held + n ≤ length part' → 0 < n
    → length (take held part) < length (take (held + n) part')
read-longer part part' held n room room' some =
    omega (arith, length-take-le held part room, length-take-le (held + n) part' room', some)

-- ---- the start of a line, brought to the front

-- bytes from one place to before another
between : (part : List ℕ) (from k : ℕ) → from ≤ length part → drop from (take (from + k) part) ≡ take k (drop from part)
between part from k room =
    rw (take-add from k part) (drop_at (take from part) (take k (drop from part)) from (length-take-le from part room))

shorter-first : (bytes : List ℕ) (k held : ℕ) → held ≡ min k 1002 → take held bytes ≡ take 1002 (take k bytes)
shorter-first bytes k held h = go (dec_le 1002 k)
  where
    go : Dec (1002 ≤ k) → take held bytes ≡ take 1002 (take k bytes)
    go (yes p) = let all : held ≡ 1002 = omega arith in rw all (sym (take-take 1002 k bytes p))
    go (no p) =
        let all : held ≡ k = omega arith in
        rw all (sym (take_all 1002 (take k bytes) (omega (arith, length-take k bytes))))

pub held-is : (part part' : List ℕ) (from end held : ℕ) → from ≤ end → end ≤ length part → held ≡ min (min end (length part) - from) 1002
    → take held part' ≡ take held (drop from part) → take held part' ≡ take 1002 (drop from (take end part))
held-is part part' from end held low room h same =
    let place : end ≡ from + (end - from) = omega arith in
    let rest : drop from (take end part) ≡ take (end - from) (drop from part)
    = ap (λ (n : ℕ). drop from (take n part)) place ∙ between part from (end - from) (omega arith) in
    same ∙ shorter-first (drop from part) (end - from) held (omega arith) ∙ ap (take 1002) (sym rest)

-- ---- whether a line is left

pub line_known : (part : List ℕ) (from end : ℕ) {first bytes : List ℕ} {answer t : Bool} → first ≡ take end part → bytes ≡ drop from first
    → answer ≡ has_line bytes → answer ≡ t → has_line (drop from (take end part)) ≡ t
line_known part from end a b known is = rw (← a, ← b) (sym known ∙ is)

-- ---- the cases of what is done between two turns

-- The number 0 is that of one case alone.
pub more-is : (state : InputState) → number_of state ≡ 0 → state ≡ More
more-is More e = refl
more-is Ended e = cc
more-is Unreadable e = cc
more-is Done e = cc
more-is BrokenOff e = cc

read-failed : (held : List ℕ) → ReadOn held 2 []
read-failed held =
    record { known = omega arith; more = λ e. absurd (omega arith); some = λ e. absurd (omega arith); ended = λ e. absurd (omega arith); failed = λ e. refl }

read-ended : (held bytes : List ℕ) → bytes ≡ line_ending held → ReadOn held 1 bytes
read-ended held bytes all =
    record { known = omega arith; more = λ e. absurd (omega arith); some = λ e. absurd (omega arith); ended = λ e. all; failed = λ e. absurd (omega arith) }

read_more : (held bytes : List ℕ) → bytes ≡ held ++ drop (length held) bytes → length held < length bytes → ReadOn held 0 bytes
read_more held bytes all long =
    record { known = omega arith; more = λ e. all; some = λ e. long; ended = λ e. absurd (omega arith); failed = λ e. absurd (omega arith) }

-- whatever the system tells, and whatever it put behind the bytes that are held
pub read-on : {E : Type 0} (got : Result ℕ E) (part part' : List ℕ) (held : ℕ) → held < length part → length part' ≡ length part → take held part' ≡ take held part
    → ReadOn (take held part) (state_after got) (bytes_after got held part')
unfolding state_after bytes_after
read-on (Err e) part part' held room long same = read-failed (take held part)
read-on (Ok zero) part part' held room long same = read-ended (take held part) (line_ending (take held part')) (ap line_ending same)
read-on (Ok (suc n)) part part' held room long same =
    let more = min (suc n) (length part' - held) in
    read_more (take held part) (take (held + more) part') (read_behind part part' held more (omega (arith, room)) same)
    (read-longer part part' held more (omega (arith, room)) (omega (arith, room, long)) (omega (arith, room, long)))

pub went_line : (left : List ℕ) (state : ℕ) → has_line left ≡ true → WentOn left state state left
went_line left state some = record {
  line = λ e. (refl, refl);
  over = λ none. absurd (true≢false (sym some ∙ none));
  read = λ none. absurd (true≢false (sym some ∙ none));
}

pub went-over : (left : List ℕ) (state : ℕ) → has_line left ≡ false → ¬ (state ≡ 0) → WentOn left state (over_from state) []
went-over left state none last = record {
  line = λ some. absurd (true≢false (sym some ∙ none));
  over = λ e other. (refl, refl);
  read = λ e more. absurd (last more);
}

pub went-read : (left : List ℕ) (state next : ℕ) (bytes : List ℕ) → has_line left ≡ false → state ≡ 0 → ReadOn (take 1002 left) next bytes
    → WentOn left state next bytes
went-read left state next bytes none more on = record {
  line = λ some. absurd (true≢false (sym some ∙ none));
  over = λ e other. absurd (other more);
  read = λ e m. on;
}
