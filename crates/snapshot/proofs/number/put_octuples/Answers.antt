-- `snapshot::number::put_octuples` meets its contract.
use Prim.Native.Nat.{◌+◌, ◌*◌}
use native.Mathlib.Omega.{arith}
use mathlib.Core.Path.{refl, ◌∙◌}
use lib.ListN.{get_or}
use mir.Syntax.{w64}
use borrow.Author.Rules.{rules}
use Rattle.layout.specs.Number.{bound}
use Rattle.layout.proofs.Meaning.{below-fit}
use Rattle.layout.proofs.Loops.{writing-starts, writing-on, writing-ends}
use Rattle.snapshot.proofs.Bytes.{written, copied}
use Rattle.snapshot.proofs.number.put_octuples.Goals as goal

pub loop-i-init : goal.loop-i-init
loop-i-init c = writing-starts _ _ _ _ _

pub loop-i-preserved : goal.loop-i-preserved
loop-i-preserved c =
    let i = c.loop-i.i in
    let x = get_or c.args.o i 0 in
    writing-on _ _ _ _ _ _ _ _ (omega arith) (omega arith)
    (copied 8 (193 + 8 * i) x c.loop-i.bytes (omega arith) (c.copy_from_slice.ensures.after ∙ c.to_le_bytes.ensures ∙ written 8 x))
    c.loop-i.invariant

pub returns : goal.returns
unfolding bound
returns c = (
  writing-ends _ _ _ _ _ _ _ (omega arith) (omega arith) c.loop-i.invariant,
  below-fit w64 _ _ refl (λ i. search rules),
)
