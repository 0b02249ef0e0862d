-- `max35101_calls::max35101_temperature_delivery` meets its contract.
use borrow.Author.Rules.{rules}
use Rattle.max35101_calls.proofs.Handed.{settled-by}
use Rattle.max35101_calls.proofs.max35101_temperature_delivery.Goals as goal

pub returns : goal.returns
returns c =
    settled-by (rw c.load-m.ensures at c.temperature_delivery-r.ensures.reply) c.settle.ensures
