-- `item_words_code::register_lines::put_eight` meets its contract: a word more in each turn.
-- Assumes nothing.
use Prim.Native.Nat.{◌+◌, ◌-◌}
use mathlib.Core.Path.{◌≡◌}
use native.Mathlib.Omega.{arith}
use Rattle.numeral.specs.Ascii.{ascii}
use Rattle.text.proofs.Putting.{puts, puts-last}
use Rattle.item_words_code.proofs.Turns.{leads-on, leads-end, words-on, words-end}
use Rattle.item_words_code.proofs.register_lines.put_eight.Goals as goal

pub loop-address-init : goal.loop-address-init
loop-address-init c = let eight : c.args.a + 8 - c.args.a ≡ 8 = omega arith in rw eight (λ r l' p. p)

pub loop-address-preserved : goal.loop-address-preserved
unfolding ascii
loop-address-preserved c = leads-on (words-on c.args.m c.loop-address.address (c.args.a + 8) c.loop-address-test.true) (puts-last (puts c.put_text-blank.ensures) (rw c.register_word.ensures at c.put_hex-place.ensures)) c.loop-address.invariant

pub returns : goal.returns
returns c = leads-end (words-end c.args.m c.loop-address.address (c.args.a + 8) c.loop-address-test.false) c.loop-address.invariant
