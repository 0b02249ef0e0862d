-- `outcome::put_accepted` meets its contract.
use Prim.Native.Nat.{ℕ}
use mathlib.Core.List.{List}
use mathlib.Core.Path.{ap, ◌∙◌}
use lib.ListN.{set}
use mir.Val.{bool_byte}
use Rattle.layout.specs.Code.{words_of}
use borrow.Author.Rules.{rules}
use Rattle.outcome.proofs.put_accepted.Goals as goal

pub returns : goal.returns
unfolding words_of
returns c =
    c.put-2.ensures ∙ ap (λ (l : List ℕ). set l 1 (bool_byte c.args.t)) c.put.ensures
