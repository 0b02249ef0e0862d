-- `form::pair::put_result` meets its contract.
-- Assumes nothing.
use Rattle.wording.proofs.Each.{put_then}
use Rattle.form.proofs.pair.put_result.Goals as goal

pub returns : goal.returns
returns c = put_then c.put_pair-a.ensures c.put_result_time.ensures
