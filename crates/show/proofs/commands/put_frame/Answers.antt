-- `show::commands::put_frame` meets its contract.
-- Assumes nothing.
use borrow.Author.Rules.{rules}
use Rattle.wording.proofs.Each.{put_one, put_first, put_then}
use Rattle.page.specs.Commands.{frame_row}
use Rattle.show.proofs.commands.put_frame.Goals as goal

pub returns : goal.returns
unfolding frame_row
returns c = rw (← c.answer_to.ensures) (put_first c.put_text-a.ensures (put_then c.put_answer-b.ensures (put_one c.put_text.ensures)))
