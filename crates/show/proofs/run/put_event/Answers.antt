-- `show::run::put_event` meets its contract.
-- Assumes nothing.
use borrow.Author.Rules.{rules}
use Rattle.wording.proofs.Each.{put_one, put_first, put_then}
use Rattle.show.proofs.run.put_event.Goals as goal

pub returns : goal.returns
returns c = put_first c.put_text-a.ensures (put_then c.put_event_texts-b.ensures (put_one c.put_text.ensures))
