-- `item_line_code::wanted::is_digit` meets its contract. Assumes nothing.
use Rattle.std.proofs.Common.{◌≡◌, ◌<◌, ℕ, ltb, SomeIff, is_some, arith}
use Rattle.std.specs.Prelude.{Option, Some, None}
use borrow.Author.Tests.{eq-eqb, ne_eqb, lt-ltb, le-ltb}
use Rattle.item_line.specs.Reading.{is_digit}
use Rattle.item_line_code.proofs.wanted.is_digit.Goals as goal

some-below : (n : ℕ) (o : Option ℕ) → SomeIff o (n < 16) n → is_some o ≡ ltb n 16
some-below n None h = rw (le-ltb n 16 (omega (arith, h)))
some-below n (Some d) h = rw (lt-ltb n 16 h.0)

pub returns-then-c-eq120 : goal.returns-then-c-eq120
unfolding is_digit
returns-then-c-eq120 c = rw (eq-eqb _ _ c.if-c-eq120.true)

pub returns-else-c-eq120 : goal.returns-else-c-eq120
unfolding is_digit
returns-else-c-eq120 c = rw (ne_eqb _ _ c.if-c-eq120.false, ← some-below _ _ c.hex_digit.ensures) c.is_some.ensures
