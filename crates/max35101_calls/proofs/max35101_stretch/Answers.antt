-- `max35101_calls::max35101_stretch` meets its contract.
use borrow.Author.Rules.{rules}
use Rattle.max35101_calls.proofs.Handed.{settled-by}
use Rattle.max35101_calls.proofs.max35101_stretch.Goals as goal

pub returns : goal.returns
returns c =
    settled-by (rw c.load-m.ensures at c.stretch-r.ensures.reply) c.settle.ensures
