-- `phrase::end::put_calls` meets its contract.
-- Assumes nothing.
use Rattle.std.proofs.Common.{rules}
use Rattle.numeral.specs.Ascii.{ascii}
use Rattle.wording.specs.Wording.{calls}
use Rattle.wording.proofs.Each.{put_first, put_then}
use Rattle.phrase.proofs.end.put_calls.Goals as goal

pub returns : goal.returns
unfolding ascii calls
returns c = put_first c.put_text-a.ensures (put_then c.put_count-b.ensures (put_then c.put_count-c.ensures c.put_count.ensures))
