-- `checker::close::insert` meets its contract.
-- Assumes nothing.
use native.Mathlib.Omega.{arith}
use Rattle.checker.proofs.CloseLaws.{first-early, in_order, inserted-short, inserted-long}
use Rattle.checker.proofs.close.insert.Goals as goal

pub returns-then-answers-last : goal.returns-then-answers-last
returns-then-answers-last c = inserted-short c.args.wanted.now c.args.counts.now c.args.answers.now c.put_expected-last.ensures c.put_expected-last.auto.out c.if-answers-last.true

pub rotate-requires : goal.rotate-requires
rotate-requires c = (
  rw c.first_end-end.ensures (first-early _),
  in_order c.args.wanted.now c.args.counts.now c.args.answers.now c.put_expected-last.ensures c.put_expected-last.auto.out (omega arith) c.if-answers-last.false,
  c.if-answers-last.false,
)

pub returns : goal.returns
returns c =
    inserted-long c.args.wanted.now c.args.counts.now c.args.answers.now c.put_expected-last.ensures c.put_expected-last.auto.out (omega arith) c.if-answers-last.false
    (rw (← c.first_end-end.ensures) c.rotate.ensures)
