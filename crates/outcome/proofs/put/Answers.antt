-- `outcome::put` meets its contract.
use mathlib.Core.Path.{sym}
use lib.Seq.{set_out}
use Rattle.outcome.proofs.put.Goals as goal

pub returns-else-i-words : goal.returns-else-i-words
returns-else-i-words g c = sym (set_out _ _ _ c.if-i-words.false)
