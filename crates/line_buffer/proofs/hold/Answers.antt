-- `line_buffer::hold` meets its contract.
-- Assumes nothing.
use Rattle.std.proofs.Common.{◌≡◌, ℕ, ◌+◌, ◌-◌, ◌≤◌, List, length, take, drop, length-drop, length-take, ◌∙◌, arith}
use Rattle.std.proofs.lemmas.List.{take-append-le}
use Rattle.std.specs.List.{copy_within}
use lib.Seq.{take_all}
use native.Mathlib.Nat.{zero-add}
use Rattle.line_buffer.proofs.hold.Goals as goal

first : (l new : List ℕ) (from n : ℕ) → from + n ≤ length l → new ≡ copy_within l from (from + n) 0 → take n new ≡ take n (drop from l)
first l new from n room e =
    let some : from + n - from ≡ n = omega arith in
    let long : n ≤ length (take n (drop from l)) = simp (length-take, length-drop) (omega arith) in
    let short : length (take n (drop from l)) ≤ n = simp (length-take, length-drop) (omega arith) in
    rw (e, some, zero-add) (take-append-le n (take n (drop from l)) (drop n l) long ∙ take_all n (take n (drop from l)) short)

pub returns-then-n-gt0 : goal.returns-then-n-gt0
returns-then-n-gt0 c = (cc, first _ _ _ _ (omega arith) c.copy_within.ensures.after)
