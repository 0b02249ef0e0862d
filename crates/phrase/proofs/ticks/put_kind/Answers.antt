-- `phrase::ticks::put_kind` meets its contract.
-- Assumes nothing.
use Rattle.std.proofs.Common.{rules}
use Rattle.wording.specs.Wording.{kind_reports}
use Rattle.wording.proofs.Each.{put_then}
use Rattle.phrase.proofs.ticks.put_kind.Goals as goal

pub returns : goal.returns
unfolding kind_reports
returns c = put_then c.put_where-a.ensures c.put_where.ensures
