-- `show::times::put_difference_time` meets its contract.
-- Assumes nothing.
use borrow.Author.Rules.{rules}
use Rattle.numeral.specs.Ascii.{ascii}
use Rattle.wording.proofs.Each.{put_one}
use Rattle.page.specs.Results.{difference_texts}
use Rattle.show.proofs.times.put_difference_time.Goals as goal

pub returns-then-failed : goal.returns-then-failed
unfolding ascii difference_texts
returns-then-failed c = rw (← c.failed.ensures, c.if-failed.true) (put_one c.put_text.ensures)

pub returns : goal.returns
unfolding difference_texts
returns c = rw (← c.failed.ensures, c.if-failed.false) c.put_signed_time.ensures
