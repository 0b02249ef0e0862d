-- `form::piece::put_where` meets its contract.
-- Assumes nothing.
use Rattle.wording.specs.Wording.{reported_where}
use Rattle.wording.proofs.Each.{put_one, put-none}
use Rattle.form.proofs.piece.put_where.Goals as goal

pub returns-then-holds : goal.returns-then-holds
unfolding reported_where
returns-then-holds c = rw c.if-holds.true (put_one c.put_text.ensures)

pub returns : goal.returns
unfolding reported_where
returns c = rw c.if-holds.false (put-none _ _)
