-- `item_replay_code::ticks::begin_ticks` meets its contract.
-- Assumes nothing.
use Rattle.text.proofs.Putting.{puts, puts_then}
use Rattle.item_replay_code.proofs.ticks.begin_ticks.Goals as goal

pub returns : goal.returns
returns c = record {
  differs = c.differ-differs.ensures;
  mid = c.put_decimal-b.new.buf;
  place = c.put_decimal-b.result;
  head = puts_then (puts c.put_text-a.ensures) (puts c.put_decimal-b.ensures);
  rest = c.run_rest-rest.ensures;
}
