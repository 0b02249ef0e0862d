-- `registers::write::setup_after` meets its contract.
use Prim.Native.Nat.{ℕ, ◌+◌, ◌≤◌, ◌<◌, ◌-◌}
use native.Mathlib.Omega.{arith}
use native.Mathlib.Numerals.{add-one}
use mathlib.Core.Path.{◌≡◌, refl, ◌∙◌, ap}
use mathlib.Core.List.{List}
use lib.ListN.{set}
use borrow.Author.Tests.{lt-ltb, le-ltb}
use Rattle.frame.specs.Frame.{word_at}
use Rattle.device.specs.Write.{setup_after, with_word}
use Rattle.registers.proofs.write.setup_after.Goals as goal
use Rattle.registers.proofs.write.setup_after.Goals.{then-a-ge52, else-a-ge52}

-- a word of the calendar more
passed :
    (bytes : List ℕ) (op i : ℕ) (start s next : List ℕ) →
    s ≡ setup_after bytes op start i →
    op + i < 0x34 →
    next ≡ s →
    next ≡ setup_after bytes op start (i + 1)
unfolding setup_after with_word
passed bytes op i start s next e low x = rw (add-one i, lt-ltb (op + i) 0x34 low) (cc)

-- a word of the set-up more
extended :
    (bytes : List ℕ) (op i w : ℕ) (start s next : List ℕ) →
    s ≡ setup_after bytes op start i →
    w ≡ word_at bytes i →
    0x34 ≤ op + i →
    next ≡ set s (op + i - 0x34) w →
    next ≡ setup_after bytes op start (i + 1)
unfolding setup_after with_word
extended bytes op i w start s next e r high x = rw (add-one i, le-ltb (op + i) 0x34 high) (cc)

pub loop-i-init : goal.loop-i-init
unfolding setup_after
loop-i-init c = refl

pub loop-i-preserved : goal.loop-i-preserved
loop-i-preserved c =
    let start = c.args in
    let head = c.loop-i in
    elim c.if-a-ge52.branch [
      | then-a-ge52 w ↦
          extended start.words.now start.op head.i w.word_at.result start.setup head.s c.if-a-ge52.s
          head.invariant w.word_at.ensures.0 w.if-a-ge52.true w.s-is
      | else-a-ge52 w ↦
          passed start.words.now start.op head.i start.setup head.s c.if-a-ge52.s head.invariant w.if-a-ge52.false w.s-is
    ]

pub returns : goal.returns
returns c =
    let start = c.args in
    c.loop-i.invariant ∙ ap (setup_after start.words.now start.op start.setup) (omega arith)
