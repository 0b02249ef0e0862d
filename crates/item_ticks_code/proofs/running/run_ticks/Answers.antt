-- `item_ticks_code::running::run_ticks` meets its contract.
-- Assumes nothing.
use mathlib.Core.Path.{refl, sym, ◌∙◌}
use native.Mathlib.Omega.{arith}
use borrow.Author.Rules.{rules}
use Rattle.item_ticks_code.proofs.Turns.{another, going-none, going_on, ran_out}
use Rattle.item_ticks_code.proofs.running.run_ticks.Goals as goal

pub loop-buf-init : goal.loop-buf-init
loop-buf-init c = (refl, going-none _ _ _ _ _ _ _ refl c.requires.0)

pub turn-r-requires : goal.turn-r-requires
turn-r-requires c =
    let g = c.loop-buf.invariant.1 in
    let (some, room) = another c.loop-buf.r.left.0 c.loop-buf.r.end c.args.stop (sym c.goes_on.ensures ∙ c.loop-buf-test.true) in
    (g.sound, some, omega (arith, g.count, g.next, c.requires.1))

pub loop-buf-smaller : goal.loop-buf-smaller
loop-buf-smaller c = let t = c.turn-r.ensures in omega (arith, t.count, t.some)

pub loop-buf-preserved : goal.loop-buf-preserved
loop-buf-preserved c =
    let (some, room) = another c.loop-buf.r.left.0 c.loop-buf.r.end c.args.stop (sym c.goes_on.ensures ∙ c.loop-buf-test.true) in
    (search rules, going_on _ _ _ _ _ _ c.loop-buf.invariant.1 room c.turn-r.ensures)

pub returns : goal.returns
returns c = ran_out c.loop-buf.invariant.1 (sym c.goes_on.ensures ∙ c.loop-buf-test.false)
