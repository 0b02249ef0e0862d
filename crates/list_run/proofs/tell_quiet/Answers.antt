-- `list_run::tell_quiet` meets its contract.
use Prim.Native.Nat.{ℕ}
use mathlib.Core.Path.{◌≡◌, refl, ap, ◌∙◌}
use native.Mathlib.Omega.{arith}
use borrow.Author.Rules.{rules}
use Rattle.list_run.specs.Room.{quiet_answer, quiet_answers}
use Rattle.list_run.proofs.Laws.{quiet_told}
use Rattle.list_run.proofs.tell_quiet.Goals as goal

pub loop-i-init : goal.loop-i-init
unfolding quiet_answer quiet_answers
loop-i-init c = (refl, refl, refl)

pub loop-i-preserved : goal.loop-i-preserved
loop-i-preserved c =
    let i = c.loop-i.invariant in
    (i.0, quiet_told _ _ _ _ _ _ i.0 i.1 c.tell.ensures, search rules ∙ i.2)

pub returns : goal.returns
returns c =
    let i = c.loop-i.invariant in
    let e : c.loop-i.i ≡ c.args.n = omega arith in
    i.1 ∙ ap (λ (x : ℕ). quiet_answers x c.args.k c.args.answers.now) e
