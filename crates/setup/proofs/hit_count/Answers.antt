-- `setup::hit_count` meets its contract.
use borrow.Author.Rules.{rules}
use Rattle.setup.proofs.Rows.{hits-row}
use Rattle.setup.proofs.hit_count.Goals as goal

pub returns : goal.returns
returns c = simp (hits-row, ← c.word.ensures, ← c.stop_row.ensures)
