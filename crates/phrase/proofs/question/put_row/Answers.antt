-- `phrase::question::put_row` meets its contract.
-- Assumes nothing.
use Rattle.std.proofs.Common.{rules}
use Rattle.wording.specs.Wording.{row_texts}
use Rattle.wording.proofs.Each.{put_one, put_first, put_then}
use Rattle.phrase.proofs.question.put_row.Goals as goal

pub returns : goal.returns
unfolding row_texts
returns c = put_first c.put_hex-a.ensures (put_then c.put_words-b.ensures (put_one c.put_text.ensures))
