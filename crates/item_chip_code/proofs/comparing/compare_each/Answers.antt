-- `item_chip_code::comparing::compare_each` meets its contract. Assumes nothing.
use Prim.Native.Nat.{◌+◌}
use native.Mathlib.Nat.{add-zero}
use native.Mathlib.Omega.{arith}
use mathlib.Core.Path.{◌≡◌, ◌∙◌, ap}
use Rattle.text.specs.OwnPart.{part}
use Rattle.item_line.specs.Reading.{four_digits}
use Rattle.item_chip_code.proofs.Comparisons.{left-start, four-left, counts-left, left-on, left_end}
use Rattle.item_chip_code.proofs.comparing.compare_each.Goals as goal

pub loop-i-init : goal.loop-i-init
loop-i-init c = rw add-zero (left-start _ _ _ _ _ c.requires.0 c.requires.1 c.requires.2)

pub next_word-word-requires : goal.next_word-word-requires
next_word-word-requires c = c.loop-i.invariant.within

pub four_digits-digits-requires : goal.four_digits-digits-requires
unfolding part
four_digits-digits-requires c = rw c.part_of.ensures (four-left c.loop-i.invariant c.loop-i-test.true c.next_word-word.ensures)

pub judge-c-requires : goal.judge-c-requires
judge-c-requires c = counts-left c.loop-i.invariant c.loop-i-test.true c.next_word-word.ensures

pub loop-i-preserved : goal.loop-i-preserved
unfolding part
loop-i-preserved c =
    let next : c.args.a + c.loop-i.i + 1 ≡ c.args.a + (c.loop-i.i + 1) = omega arith in
    rw next at (left-on c.loop-i.invariant c.loop-i-test.true c.next_word-word.ensures (c.four_digits-digits.ensures ∙ ap four_digits c.part_of.ensures) c.judge-c.ensures)

pub returns : goal.returns
returns c = left_end c.loop-i.invariant c.loop-i-test.false
