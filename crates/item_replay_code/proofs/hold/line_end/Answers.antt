-- `item_replay_code::hold::line_end` meets its contract.
-- Assumes nothing.
use Prim.Native.Nat.{ℕ, ◌+◌, ◌-◌}
use mathlib.Core.List.{List}
use mathlib.Core.Logic.{◌≢◌}
use mathlib.Core.Path.{◌≡◌, sym, ap, ◌∙◌}
use native.Mathlib.Omega.{arith}
use lib.ListN.{length, take, drop, length-drop}
use lib.Seq.{take_all}
use borrow.Author.Rules.{rules}
use borrow.Author.Tests.{tests}
use Rattle.std.proofs.lemmas.Iterator.{IsFirst-from_position, YieldsList-from_slice}
use Rattle.item_replay.specs.OwnFeed.{before_feed}
use Rattle.item_replay_code.proofs.HeldLaws.{line_ends, before-position}
use Rattle.item_replay_code.proofs.hold.line_end.Goals as goal

pub returns : goal.returns
returns c =
    let text = c.args.text.now in
    let all = drop c.args.from text in
    let rest = take (length text - c.args.from) all in
    let first = IsFirst-from_position _ _ _ (λ x. x ≡ 10) (λ x. x ≢ 10) c.position.ensures.ran (YieldsList-from_slice rest c.iter.ensures.rest) (λ x q k. search (rules, tests)) (λ x q k. search (rules, tests)) in
    let found = before-position rest c.position.result first in
    let whole : rest ≡ all = take_all (length text - c.args.from) all (omega (arith, length-drop c.args.from text)) in
    line_ends text c.args.from (c.args.from + c.unwrap_or.result) c.requires (ap (λ (n : ℕ). c.args.from + n) (c.unwrap_or.ensures ∙ (sym found ∙ ap (λ (t : List ℕ). length (before_feed t)) whole)))
