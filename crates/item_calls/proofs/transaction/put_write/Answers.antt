-- `item_calls::transaction::put_write` meets its contract: a word more in each turn.
-- Assumes nothing.
use Rattle.wording.proofs.Each.{put_first}
use Rattle.item_calls.specs.Lines.{write_bytes}
use Rattle.item_calls.proofs.Steps.{bytes_on, bytes-end}
use Rattle.item_calls.proofs.transaction.put_write.Goals as goal

pub loop-word-preserved : goal.loop-word-preserved
loop-word-preserved c = bytes_on c.args.words.now c.loop-word.word-index c.loop-word-test.true c.put_low_bytes-place-in-loop-word.ensures c.loop-word.invariant

pub returns : goal.returns
unfolding write_bytes
returns c = put_first c.put_low_bytes-place.ensures (bytes-end c.args.words.now c.loop-word.word-index c.loop-word-test.false c.loop-word.invariant)
