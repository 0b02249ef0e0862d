-- `max35101_questions::max35101_setup_frames` meets its contract.
use borrow.Author.Rules.{rules}
use Rattle.max35101_questions.proofs.max35101_setup_frames.Goals as goal

pub returns : goal.returns
returns c =
    let load = c.load in
    let frames = c.setup_frames-f in
    record {
      answer = rw (← load.ensures, ← frames.ensures.0.answer.same) c.framed.ensures;
      in_bytes = rw (← load.ensures) frames.ensures.0.in_bytes;
      in_lengths = rw (← load.ensures) frames.ensures.0.in_lengths;
    }
