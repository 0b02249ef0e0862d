-- `session::feed::replay` meets its contract.
-- Assumes nothing.
use borrow.Author.Rules.{rules}
use mathlib.Core.Bool.{true≢false}
use mathlib.Core.Path.{sym, ap, ◌∙◌}
use native.Mathlib.Omega.{arith}
use lib.ListN.{drop}
use Rattle.session.specs.Input.{number_of}
use Rattle.session.proofs.FeedLaws.{left-short}
use Rattle.session.proofs.LoopLaws.{loop-begun, loop-turned, loop-over}
use Rattle.session.proofs.feed.replay.Goals as goal
use Rattle.session.proofs.feed.replay.Goals.{else-loop-test, then-loop-test+then-not-is_going}

pub loop-init : goal.loop-init
loop-init g c = (search rules, search rules, search rules, search rules, search rules, search rules, search rules, search rules, loop-begun _ _ c.fresh-m.ensures c.begin.ensures.0 c.begin.ensures.1)

pub go_on-input-requires : goal.go_on-input-requires
go_on-input-requires g c = let inv = c.loop.invariant in (omega (arith, inv.6), inv.7, left-short c.loop.part c.loop.input.from c.loop.input.end inv.7 _ _ (c.bytes_from.ensures ∙ ap (drop c.loop.input.from) c.first_bytes.ensures) c.feed-progress.ensures.2)

pub loop-preserved : goal.loop-preserved
loop-preserved g c = let fed = c.feed-progress.auto in let inv = c.loop.invariant in (fed.numbers ∙ inv.0, fed.mem ∙ inv.1, fed.kept ∙ inv.2, fed.probes ∙ inv.3, fed.names ∙ inv.4, fed.answers ∙ inv.5, c.go_on-input.auto.part ∙ inv.6, c.go_on-input.ensures.1, loop-turned c.loop.part c.loop.input.from c.loop.input.end inv.7 _ _ _ (c.bytes_from.ensures ∙ ap (drop c.loop.input.from) c.first_bytes.ensures) _ _ c.loop.counter inv.8 (sym c.is_going.ensures ∙ c.if-not-is_going.false) c.feed-progress.ensures.0 c.feed-progress.ensures.1 c.feed-progress.ensures.2 c.flush.ensures c.go_on-input.ensures.0)

pub returns : goal.returns
returns g c =
    loop-over _ _ c.loop.counter (number_of c.loop.input.state) _ c.loop.invariant.8
    (elim c.loop-test.branch [
      | else-loop-test w ↦ λ going. omega (arith, w.loop-test.false, c.loop.auto.counter-end)
      | then-loop-test+then-not-is_going w ↦ λ going. absurd (true≢false (sym going ∙ sym w.is_going.ensures ∙ w.if-not-is_going.true))
    ])
    c.is_whole.ensures c.end.ensures
