-- `max35101_questions::put_place` meets its contract.
use Prim.Native.Nat.{ℕ}
use mathlib.Core.List.{List}
use mathlib.Core.Path.{ap, ◌∙◌}
use mir.Val.{bool_byte}
use lib.ListN.{set}
use Rattle.run_state.specs.Event.{event_values}
use borrow.Author.Rules.{rules}
use Rattle.max35101_questions.proofs.put_place.Goals as goal

pub returns : goal.returns
unfolding event_values
returns c =
    let p = c.args.p in
    c.put-3.ensures
    ∙ ap (λ (l : List ℕ). set l 6 (bool_byte p.continuous))
    (c.put-2.ensures
    ∙ ap (λ (l : List ℕ). set l 5 p.next.0)
    (c.put.ensures
    ∙ ap (λ (l : List ℕ). set l 4 p.good) c.put_four.ensures))
