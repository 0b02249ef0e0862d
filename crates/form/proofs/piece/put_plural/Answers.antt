-- `form::piece::put_plural` meets its contract.
-- Assumes nothing.
use Rattle.form.specs.Form.{plural_texts}
use Rattle.numeral.specs.Ascii.{ascii}
use Rattle.wording.proofs.Each.{put_one, put_first}
use borrow.Author.Tests.{lt-ltb, le-ltb}
use Rattle.form.proofs.piece.put_plural.Goals as goal

pub returns-then-n-lt2 : goal.returns-then-n-lt2
unfolding ascii plural_texts
returns-then-n-lt2 c = rw (lt-ltb _ _ c.if-n-lt2.true) (put_first c.put_decimal-a.ensures (put_one c.put_text-b.ensures))

pub returns : goal.returns
unfolding ascii plural_texts
returns c = rw (le-ltb _ _ c.if-n-lt2.false) (put_first c.put_decimal-a.ensures (put_first c.put_text-b.ensures (put_one c.put_text.ensures)))
