-- `show::row::put_binary` meets its contract.
-- Assumes nothing.
use borrow.Author.Rules.{rules}
use Rattle.wording.proofs.Each.{put_one, put_first}
use Rattle.numeral.specs.Ascii.{ascii}
use Rattle.page.specs.Row.{binary}
use Rattle.show.proofs.row.put_binary.Goals as goal

pub returns : goal.returns
unfolding ascii binary
returns c = put_first c.put_decimal-a.ensures (put_first c.put_decimal-b.ensures (put_one c.put_text.ensures))
