-- `item_replay_code::lines::go` meets its contract.
-- Assumes nothing.
use borrow.Author.Rules.{rules}
use native.Mathlib.Omega.{arith}
use mathlib.Core.Path.{refl, sym, ◌∙◌}
use lib.ListN.{length}
use Rattle.item_replay_code.proofs.GoneLaws.{sofar-first, sofar-next, roomy, turn-ready, used-small, less-next, gone}
use Rattle.item_replay_code.proofs.lines.go.Goals as goal

pub loop-more-init : goal.loop-more-init
loop-more-init c =
    (refl, refl, refl, refl, refl, refl, refl, search rules, sofar-first _ _ _ _ _ _ _ _ c.requires.0)

pub turn-t-requires : goal.turn-t-requires
turn-t-requires c =
    let room = roomy c.loop-more.used (length c.loop-more.answers) c.loop-more.count (length c.loop-more.marks) (sym c.has_room.ensures ∙ c.if-has_room.true) in
    (turn-ready c.loop-more-test.true room.2 c.loop-more.invariant.8, c.loop-more.invariant.0, c.loop-more.invariant.7, room.0)

pub mark-count-requires : goal.mark-count-requires
mark-count-requires c =
    let room = roomy c.loop-more.used (length c.loop-more.answers) c.loop-more.count (length c.loop-more.marks) (sym c.has_room.ensures ∙ c.if-has_room.true) in
    (room.1, used-small c.turn-t.ensures (omega (arith, c.loop-more.invariant.5, c.requires.1)), room.2)

pub loop-more-smaller : goal.loop-more-smaller
loop-more-smaller c =
    less-next _ _ _ _ _ c.loop-more-test.true c.turn-t.ensures

pub loop-more-preserved : goal.loop-more-preserved
loop-more-preserved c =
    let room = roomy c.loop-more.used (length c.loop-more.answers) c.loop-more.count (length c.loop-more.marks) (sym c.has_room.ensures ∙ c.if-has_room.true) in (
      c.turn-t.auto.numbers ∙ c.loop-more.invariant.0,
      c.turn-t.auto.line ∙ c.loop-more.invariant.1,
      c.turn-t.auto.flash ∙ c.loop-more.invariant.2,
      c.turn-t.auto.recorded ∙ c.loop-more.invariant.3,
      c.turn-t.auto.probes ∙ c.loop-more.invariant.4,
      c.turn-t.auto.answers ∙ c.loop-more.invariant.5,
      c.mark-count.auto.marks ∙ c.loop-more.invariant.6,
      c.turn-t.ensures.high,
      sofar-next c.loop-more-test.true (omega (arith, room.1, c.loop-more.invariant.6)) room.2 c.loop-more.invariant.8 c.turn-t.ensures c.turn-t.auto.line c.turn-t.auto.flash c.turn-t.auto.recorded c.turn-t.auto.probes c.mark-count.ensures,
    )

pub returns-else-has_room : goal.returns-else-has_room
returns-else-has_room c =
    gone _ _ _ _ _ _ _ _ _ _ _ _ _ _ _ _ _ _ _ c.loop-more.invariant.8

pub returns-after-loop-more : goal.returns-after-loop-more
returns-after-loop-more c =
    gone _ _ _ _ _ _ _ _ _ _ _ _ _ _ _ _ _ _ _ c.loop-more.invariant.8
