use borrow.Author.Tests.{le-ltb, lt-ltb, eq-eqb, ne_eqb}
use Rattle.item_calls.specs.Buffer.{buffer_size}
use borrow.Author.Rules.{rules}
use Rattle.item_calls.proofs.transaction.buffer_size.Goals as goal

pub returns-then-n-eq0 : goal.returns-then-n-eq0
unfolding buffer_size
returns-then-n-eq0 c = search (rules, le-ltb, lt-ltb, eq-eqb, ne_eqb)

pub returns-then-first-eq144 : goal.returns-then-first-eq144
unfolding buffer_size
returns-then-first-eq144 c = search (rules, le-ltb, lt-ltb, eq-eqb, ne_eqb)

pub returns-then-first-lt176 : goal.returns-then-first-lt176
unfolding buffer_size
returns-then-first-lt176 c = search (rules, le-ltb, lt-ltb, eq-eqb, ne_eqb)

pub returns : goal.returns
unfolding buffer_size
returns c = search (rules, le-ltb, lt-ltb, eq-eqb, ne_eqb)
