-- `session::feed::place_after` meets its contract.
-- Assumes nothing.
use native.Mathlib.Omega.{arith}
use borrow.Author.Tests.{eq-eqb, ne_eqb}
use Rattle.session.proofs.feed.place_after.Goals as goal

pub returns-then-counts-ne0 : goal.returns-then-counts-ne0
returns-then-counts-ne0 c = (rw (ne_eqb _ 0 c.if-counts-ne0.true), λ low. omega arith)

pub returns : goal.returns
returns c = (rw (eq-eqb _ 0 c.if-counts-ne0.false), λ low. omega arith)
