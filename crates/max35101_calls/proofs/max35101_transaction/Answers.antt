-- `max35101_calls::max35101_transaction` meets its contract.
use borrow.Author.Rules.{rules}
use Rattle.max35101_calls.proofs.max35101_transaction.Goals as goal

pub returns : goal.returns
returns c =
    let load = c.load-m in
    let call = c.transaction-r in (
      rw (← load.ensures, ← call.ensures.replied.reply) c.settle.ensures,
      rw (← load.ensures) call.ensures.output,
      rw (← load.ensures) call.ensures.memory,
    )
