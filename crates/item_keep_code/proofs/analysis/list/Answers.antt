-- `item_keep_code::analysis::list` meets its contract.
-- Assumes nothing.
use Prim.Native.Nat.{ℕ}
use mathlib.Core.List.{List}
use mathlib.Core.Path.{ap}
use borrow.Author.Tests.{le-leb, lt-leb}
use Rattle.item_keep_code.specs.OwnListed.{listed_at}
use Rattle.item_keep_code.proofs.Listed.{rest-whole, rest-kept}
use Rattle.item_keep_code.proofs.analysis.list.Goals as goal

pub returns-then-at-buf : goal.returns-then-at-buf
unfolding listed_at
returns-then-at-buf c = let wrote = rw (rest-whole c.args.at c.args.buf.now) at c.write_listing_as.ensures.same in rw (le-leb _ _ c.if-at-buf.true, ← wrote) (ap (λ (b : List ℕ). record { answer = c.write_listing_as.result; bytes = b }) (rest-kept c.args.at c.args.buf.now _))

pub returns : goal.returns
unfolding listed_at
returns c = rw (lt-leb _ _ c.if-at-buf.false)
