-- `outcome::put_four` meets its contract.
use Prim.Native.Nat.{ℕ}
use mathlib.Core.List.{List}
use mathlib.Core.Path.{ap, ◌∙◌}
use lib.ListN.{set}
use borrow.Author.Rules.{rules}
use Rattle.outcome.proofs.put_four.Goals as goal

pub returns : goal.returns
returns c =
    let start = c.args in
    c.put-4.ensures
    ∙ ap (λ (l : List ℕ). set l 3 start.d)
    (c.put-3.ensures
    ∙ ap (λ (l : List ℕ). set l 2 start.c)
    (c.put-2.ensures ∙ ap (λ (l : List ℕ). set l 1 start.b) c.put.ensures))
