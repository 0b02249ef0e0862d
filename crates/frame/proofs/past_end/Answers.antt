-- `frame::past_end` meets its contract.
use Prim.Native.Nat.{ℕ, ◌-◌, ◌≤◌}
use native.Mathlib.Omega.{arith}
use mathlib.Core.Path.{◌≡◌, ◌∙◌}
use mathlib.Core.Bool.{Bool}
use lib.Dec.{ltb}
use Rattle.std.specs.Prelude.{IsTrue}
use Rattle.std.proofs.Common.{Option, Some, None}
use Rattle.std.specs.Option.{SomeIff, MatchOption}
use borrow.Author.Rules.{rules}
use Rattle.unit.proofs.Tests.{tests}
use Rattle.frame.specs.Frame.{past_end}
use Rattle.frame.proofs.Laws.{past_all, past-rest}
use Rattle.frame.proofs.past_end.Goals as goal

-- by the difference, where there is one
past :
    (op words end : ℕ) (r : Bool) {Q : ℕ → Type 0} (o : Option ℕ) →
    SomeIff o (words ≤ end) (end - words) →
    MatchOption o (IsTrue r) Q →
    ((x : ℕ) → Q x → r ≡ ltb x op) →
    r ≡ past_end op words end
past op words end r None s m q = search rules ∙ past_all op words end (omega (arith, s))
past op words end r (Some x) s m q = q x m ∙ (rw s.1 (past-rest op words end s.0))

pub returns : goal.returns
returns c = past _ _ _ _ c.checked_sub.result c.checked_sub.ensures c.is_none_or.ensures (λ x q. search (rules, tests))
