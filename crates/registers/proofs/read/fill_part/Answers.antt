-- `registers::read::fill_part` meets its contract.
use native.Mathlib.Omega.{arith}
use mathlib.Core.Path.{refl, ◌∙◌}
use borrow.Author.Rules.{rules}
use Rattle.registers.proofs.Parts.{filled_more, filled-between}
use Rattle.registers.proofs.read.fill_part.Goals as goal

pub loop-i-preserved : goal.loop-i-preserved
loop-i-preserved g c = (
  search rules ∙ c.loop-i.invariant.0,
  λ m h. filled_more _ _ _ _ _ _ _ _ (c.loop-i.invariant.1 m h) (h c.loop-i.i c.word.result (omega arith) (omega arith) c.word.ensures) c.put_word.ensures,
)

pub returns : goal.returns
returns g c = λ m h. filled-between _ _ _ _ _ _ _ _ (c.loop-i.invariant.1 m h) refl (omega arith)
