-- `item_words_code::expectation::capital` meets its contract.
-- Assumes nothing.
use Rattle.std.proofs.Common.{◌≡◌, ◌≤◌, ◌<◌, ℕ, SomeIff, ◌∙◌}
use Rattle.std.specs.Prelude.{Option, Some, None}
use Rattle.std.specs.Option.{unwrap_or}
use borrow.Author.Rules.{rules}
use native.Mathlib.Omega.{arith}
use borrow.Author.Tests.{lt-ltb, le-ltb, eq-eqb, ne_eqb}
use Rattle.numeral.specs.Digit.{digit_of, glyph}
use Rattle.numeral.proofs.DigitLaws.{digit-most}
use Rattle.item_line.specs.Reading.{capital}
use Rattle.item_words_code.proofs.expectation.capital.Goals as goal

or-16 : (n : ℕ) (o : Option ℕ) → n ≤ 16 → SomeIff o (n < 16) n → unwrap_or o 16 ≡ n
or-16 n None most h = omega (arith, h)
or-16 n (Some d) most h = h.1

-- The value of any byte.
known : (c : ℕ) (o : Option ℕ) (d : ℕ) → SomeIff o (digit_of c < 16) (digit_of c) → d ≡ unwrap_or o 16 → d ≡ digit_of c
known c o d h e = e ∙ or-16 _ o (digit-most c) h

pub returns-then-c-eq120 : goal.returns-then-c-eq120
unfolding capital
returns-then-c-eq120 c = search (rules, eq-eqb)

pub overflow_add-result-else-d-lt10 : goal.overflow_add-result-else-d-lt10
overflow_add-result-else-d-lt10 c = omega (arith, known c.args.c _ _ c.hex_digit.ensures c.unwrap_or-d.ensures, digit-most c.args.c)

pub overflow_cast-result-else-d-lt10 : goal.overflow_cast-result-else-d-lt10
overflow_cast-result-else-d-lt10 c = omega (arith, known c.args.c _ _ c.hex_digit.ensures c.unwrap_or-d.ensures, digit-most c.args.c)

pub returns-then-d-lt10 : goal.returns-then-d-lt10
unfolding capital glyph
returns-then-d-lt10 c = rw (ne_eqb _ _ c.if-c-eq120.false, ← known c.args.c _ _ c.hex_digit.ensures c.unwrap_or-d.ensures, lt-ltb _ _ c.if-d-lt10.true)

pub returns-else-d-lt10 : goal.returns-else-d-lt10
unfolding capital glyph
returns-else-d-lt10 c = rw (ne_eqb _ _ c.if-c-eq120.false, ← known c.args.c _ _ c.hex_digit.ensures c.unwrap_or-d.ensures, le-ltb _ _ c.if-d-lt10.false)
