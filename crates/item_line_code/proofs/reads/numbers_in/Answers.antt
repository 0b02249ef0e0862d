-- `item_line_code::reads::numbers_in` meets its contract. Assumes nothing.
use mathlib.Core.Path.{sym}
use lib.Seq.{length-take-le}
use native.Mathlib.Omega.{arith}
use Rattle.text.specs.OwnPart.{part}
use Rattle.item_line_code.proofs.PartLaws.{drop-take}
use Rattle.item_line_code.proofs.ReadLaws.{tally-part}
use Rattle.item_line_code.proofs.reads.numbers_in.Goals as goal

pub slice_bounds-tally-end : goal.slice_bounds-tally-end
slice_bounds-tally-end c = sym (length-take-le _ c.args.text.now c.requires.high)

pub tally-requires : goal.tally-requires
tally-requires c = omega (arith, length-take-le _ c.args.text.now c.requires.high, c.requires.ordered)

pub returns : goal.returns
unfolding part
returns c =
    let text = c.args.text.now in
    let rest = c.args.rest in
    let ends = rw (length-take-le rest.end text c.requires.high) at c.tally.ensures.ends in
    rw (← drop-take rest.start rest.end text c.requires.ordered, tally-part text rest.end _ c.requires.high ends) c.tally.ensures.tallies
