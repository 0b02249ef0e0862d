-- `show::row::put_line` meets its contract.
-- Assumes nothing.
use borrow.Author.Rules.{rules}
use Rattle.wording.proofs.Each.{put_one, put_first}
use Rattle.show.proofs.row.put_line.Goals as goal

pub returns : goal.returns
returns c = put_first c.put_text-a.ensures (put_one c.put_text.ensures)
