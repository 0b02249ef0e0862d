-- `item_answer_code::calls::put_further` meets its contract. Assumes nothing.
use Rattle.text.proofs.Putting.{puts_none}
use Rattle.item_answer.specs.OwnView.{item_of}
use Rattle.item_answer_code.proofs.Firsts.{frames-further, listing-further, no-further}
use borrow.Enum.Refused.{opened}
use Rattle.item_answer_code.proofs.calls.put_further.Goals as goal

pub returns-in-Frames : goal.returns-in-Frames
returns-in-Frames c = rw c.in-Frames.is (frames-further c.args.c c.args.recorded.now c.put_frame_lines.ensures)

pub returns-in-Listing : goal.returns-in-Listing
returns-in-Listing c = rw c.in-Listing.is (listing-further c.args.c c.args.recorded.now _ _ c.put_listed.ensures c.first_items-kept.ensures)

pub returns-in_default : goal.returns-in_default
returns-in_default c = λ ns fs es. rw (no-further c.args.said ns (item_of c.args.c fs c.args.recorded.now es) (opened c.in_default.in_default-own.keys3)) (puts_none _ _)
