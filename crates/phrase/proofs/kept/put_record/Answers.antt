-- `phrase::kept::put_record` meets its contract.
-- Assumes nothing.
use Rattle.std.proofs.Common.{rules}
use Rattle.numeral.specs.Ascii.{ascii}
use Rattle.wording.specs.Wording.{record_texts}
use Rattle.wording.proofs.Each.{put_one, put_first, put_then}
use Rattle.phrase.proofs.kept.put_record.Goals as goal

pub returns : goal.returns
unfolding ascii record_texts
returns c = put_first c.put_text-a.ensures (put_then c.put_differences-b.ensures (put_one c.put_text.ensures))
