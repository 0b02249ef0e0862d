-- Names that are sought in a list, step by step. Assumes nothing.
use Prim.Native.Nat.{ℕ, zero, suc, min}
use mathlib.Core.Bool.{true, false}
use mathlib.Core.List.{List, [], ◌∷◌, ◌++◌}
use mathlib.Core.Path.{◌≡◌, refl, ◌∙◌}
use native.Mathlib.Omega.{arith}
use lib.ListN.{length, take, drop}
use Rattle.std.specs.Prelude.{Result, Ok, Err}
use Rattle.unit.proofs.Cases.{by_eqb}
use Rattle.line_buffer.specs.Lines.{has_line}
use Rattle.file_names.specs.Names.{Passed, Begun, Sought}
use Rattle.file_names.proofs.Laws.{passed_none, passed_then, passed-piece, none-held, some-held, begun-none}
use Rattle.file_replay.specs.declared.names.Source.{Source}
use Rattle.file_replay.specs.declared.names.SourceState.{SourceState}
use Rattle.file_replay.specs.declared.names.SourceState.TheVariants.{Seeking, Found, Broken, NoMore}
use Rattle.file_replay.specs.Sources.{number_of, unused, NextArgument, Stands, FromList, line, last, ended, broken, Step, over, on, StepFrom, Ended, AfterRead}

-- The number 2 is that of one state alone.
pub broken-is : (state : SourceState) → number_of state ≡ 2 → state ≡ Broken
broken-is Seeking e = cc
broken-is Found e = cc
broken-is Broken e = refl
broken-is NoMore e = cc

-- ---- one behind the other

-- A name comes next behind bytes that were used without one.
pub from_then : {room next left : ℕ} {start bytes : List ℕ} {pieces : List (List ℕ)} {start' bytes' : List ℕ} {r : Source} {bytes'' path'' : List ℕ}
    → Passed room start bytes pieces [] start' bytes' → FromList room next left start' bytes' r bytes'' path''
    → FromList room next left start bytes r bytes'' path''
from_then {pieces = before} p (line s pieces q) = line s (before ++ pieces) (passed_then p q)
from_then {pieces = before} p (last s pieces rest q e) = last s (before ++ pieces) rest (passed_then p q) e
from_then {pieces = before} p (ended a pieces rest q e) = ended a (before ++ pieces) rest (passed_then p q) e
from_then {pieces = before} p (broken s pieces rest q) = broken s (before ++ pieces) rest (passed_then p q)

pub step_then : {room next left : ℕ} {start bytes : List ℕ} {pieces : List (List ℕ)} {start' bytes' : List ℕ} {r : Source} {bytes'' path'' : List ℕ}
    → Passed room start bytes pieces [] start' bytes' → Step room next left start' bytes' r bytes'' path''
    → Step room next left start bytes r bytes'' path''
step_then p (over f) = over (from_then p f)
step_then {pieces = before} p (on s pieces start' q b) = on s (before ++ pieces) start' (passed_then p q) b

-- ---- the cases of a step

pub step-found : {room next left : ℕ} {start first path' : List ℕ} {at n : ℕ} (s : Source) {r : Source} (part : List ℕ) → first ≡ take s.end part
    → Stands next left true 1 r × (r.at ≡ at) × (r.end ≡ s.end) × (r.length ≡ n)
    → Passed room start (drop s.at first) [] (take n path' ∷ []) [] (drop at first)
    → Step room next left start (unused s part) r (unused r part) path'
step-found s part e (stands, place, end, long) p = over (line stands [] (rw (long, place, end, ← e) p))

module _ {path : List ℕ} {n : ℕ} {start : List ℕ} (begun : Begun path n start) where
  abbrev nothing : Passed (length path) start [] [] [] start []
  nothing = passed_none (length path) start [] begun.line

  pub step-broken : {next left : ℕ} {r : Source} {bytes' path' : List ℕ} → Stands next left false 2 r → Step (length path) next left start [] r bytes' path'
  step-broken s = over (broken s [] start nothing)

  pub step-ended : {next left : ℕ} {r : Source} {bytes' path' : List ℕ} → Ended next left n path r path'
      → Step (length path) next left start [] r bytes' path'
  step-ended {r = r} {path' = path'} e =
      by_eqb n 0 (λ none t. over (ended (e.none none) [] start nothing (none-held begun (omega (arith, none)))))
      (λ some t.
      let so = e.some some in
      let same : take n path ∷ [] ≡ take r.length path' ∷ [] = rw (so.1, so.2) in
      over (last so.0 [] start nothing (some-held begun (omega (arith, some)) ∙ same)))

  pub step-read : {next left : ℕ} {r : Source} (bytes' : List ℕ) → Stands next left true 0 r → r.length ≡ n
      → Step (length path) next left start [] r bytes' path
  step-read bytes' s long = on s (bytes' ∷ []) start (passed-piece nothing bytes') (rw long begun)

-- Whatever the system tells of more bytes.
pub step_after : {E : Type 0} (got : Result ℕ E) (room : ℕ) {path : List ℕ} {held next left : ℕ} {r : Source} (bytes' : List ℕ) {path' : List ℕ}
    → AfterRead got next left held room path r path' → StepFrom path held next left [] r bytes' path'
unfolding AfterRead
step_after (Err e) room bytes' a start begun = step-broken begun a
step_after (Ok zero) room bytes' a start begun = step-ended begun a
step_after (Ok (suc n)) room bytes' a start begun =
    rw a.4 (step-read begun bytes' a.0 a.3)

-- It told a failure,
pub after-failed : {E : Type 0} (got : Result ℕ E) {error : E} {next left : ℕ} {r : Source} (held room : ℕ) (path path' : List ℕ) → got ≡ Err error
    → Stands next left false 2 r → AfterRead got next left held room path r path'
unfolding AfterRead
after-failed got held room path path' is s = rw is s

-- the end,
pub after-ended : {E : Type 0} (got : Result ℕ E) {next left held : ℕ} {r : Source} (room : ℕ) {path path' : List ℕ} → got ≡ Ok 0
    → Ended next left held path r path' → AfterRead got next left held room path r path'
unfolding AfterRead
after-ended got room is e = rw is e

-- or some bytes.
pub after_more : {E : Type 0} (got : Result ℕ E) {next left held : ℕ} (m n room : ℕ) {r : Source} (path : List ℕ) → got ≡ Ok m → ¬ (m ≡ 0)
    → n ≡ min m room → Stands next left true 0 r → r.at ≡ 0 → r.end ≡ n → r.length ≡ held → AfterRead got next left held room path r path
unfolding AfterRead
after_more got zero n room path is some less s at end long = absurd (some refl)
after_more got (suc m) n room path is some less s at end long = rw is (s, at, end ∙ less, long, refl)

-- All bytes are used without a name.
module _ {start first path' : List ℕ} {n room : ℕ} (s : Source) (part : List ℕ) (e : first ≡ take s.end part)
    (so : Sought start (drop s.at first) [] path' n) (same : length path' ≡ room) where
  used-up : Passed room start (unused s part) [] [] so.start' []
  used-up = rw (← e, ← same) so.passed

  pub step-stopped : {next left : ℕ} {r : Source} {bytes'' path'' : List ℕ} → Stands next left false 2 r
      → Step room next left start (unused s part) r bytes'' path''
  step-stopped stands = over (broken stands [] so.start' used-up)

  pub step-goes : {next left : ℕ} {r : Source} {bytes'' path'' : List ℕ} → StepFrom path' n next left [] r bytes'' path''
      → Step room next left start (unused s part) r bytes'' path''
  step-goes more = step_then used-up (rw same at (more so.start' so.begun))

-- ---- step by step

pub seek-begun : {room next left : ℕ} (path bytes : List ℕ) {it : Source} → Stands next left true 0 it → it.length ≡ 0
    → Step room next left [] bytes it bytes path
unfolding has_line
seek-begun {room} path bytes s none = on s [] [] (passed_none room [] bytes refl) (rw none (begun-none path))

not-seeking : (left : ℕ) {next : ℕ} {r : Source} → NextArgument next left r → number_of r.state ≡ 0 → ⊥
not-seeking zero a z = omega (arith, a.none refl, z)
not-seeking (suc n) a z = omega (arith, (a.found (omega arith)).0, z)

from-over : {room next left : ℕ} {start bytes : List ℕ} {r : Source} {bytes' path' : List ℕ} → FromList room next left start bytes r bytes' path'
    → number_of r.state ≡ 0 → ⊥
from-over (line s pieces q) z = omega (arith, s.is, z)
from-over (last s pieces rest q e) z = omega (arith, s.is, z)
from-over {left = left} (ended a pieces rest q e) z = not-seeking left a z
from-over (broken s pieces rest q) z = omega (arith, s.is, z)

pub seek-step : {room next left : ℕ} {start bytes : List ℕ} {it : Source} {now path : List ℕ} {it' : Source} {now' path' : List ℕ}
    → Step room next left start bytes it now path → number_of it.state ≡ 0 → length path ≡ room
    → ((begun : List ℕ) → Begun path it.length begun → Step (length path) it.next it.left begun now it' now' path')
    → Step room next left start bytes it' now' path'
seek-step (over f) z same more = absurd (from-over f z)
seek-step (on s pieces start' p b) z same more = step_then p (rw (same, s.place, s.more) at (more start' b))

pub seek-over : {room next left : ℕ} {start bytes : List ℕ} {it : Source} {now path : List ℕ} → Step room next left start bytes it now path
    → ¬ (number_of it.state ≡ 0) → FromList room next left start bytes it now path
seek-over (over f) other = f
seek-over (on s pieces start' p b) other = absurd (other s.is)

-- ---- before the first name

-- The list can't be opened;
pub from-unopened : {room next left : ℕ} {r : Source} {bytes path : List ℕ} (s : Source) → (s.next ≡ next) × (s.left ≡ left) × (s.at ≡ 0) × (s.end ≡ 0)
    → Stands s.next s.left false 2 r → FromList room next left [] [] r bytes path
unfolding has_line
from-unopened {room} s same stands = broken (rw (same.0, same.1) at stands) [] [] (passed_none room [] [] refl)

-- nothing of it is read.
pub from-opened : {room room' next left : ℕ} {r : Source} {bytes path : List ℕ} (s : Source) (part : List ℕ)
    → (s.next ≡ next) × (s.left ≡ left) × (s.at ≡ 0) × (s.end ≡ 0) → room' ≡ room
    → FromList room' s.next s.left [] (unused s part) r bytes path → FromList room next left [] [] r bytes path
from-opened s part same long f = rw (same.0, same.1, same.2, same.3, long) at f
