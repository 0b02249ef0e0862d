-- `phrase::kept::put_probe` meets its contract.
-- Assumes nothing.
use Rattle.std.proofs.Common.{rules}
use Rattle.numeral.specs.Ascii.{ascii}
use Rattle.wording.specs.Wording.{probe}
use Rattle.wording.proofs.Each.{put_first}
use Rattle.phrase.proofs.kept.put_probe.Goals as goal

pub returns : goal.returns
unfolding ascii probe
returns c = put_first c.put_text-a.ensures c.put_count.ensures
