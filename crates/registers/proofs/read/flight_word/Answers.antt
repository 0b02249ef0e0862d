-- `registers::read::flight_word` meets its contract.
use borrow.Author.Tests.{eq-eqb, le-ltb, lt-ltb, ne_eqb}
use Rattle.device.specs.Registers.{flight_word}
use borrow.Author.Rules.{rules}
use Rattle.registers.proofs.read.flight_word.Goals as goal

pub returns-then-a-lt197 : goal.returns-then-a-lt197
unfolding flight_word
returns-then-a-lt197 c = simp (lt-ltb _ _ c.if-a-lt197.true)

pub returns-then-a-lt211 : goal.returns-then-a-lt211
unfolding flight_word
returns-then-a-lt211 c = simp (← c.half.ensures, lt-ltb _ _ c.if-a-lt211.true, le-ltb _ _ c.if-a-lt197.false)

pub returns-then-a-lt212 : goal.returns-then-a-lt212
unfolding flight_word
returns-then-a-lt212 c = simp (lt-ltb _ _ c.if-a-lt212.true, le-ltb _ _ c.if-a-lt211.false, le-ltb _ _ c.if-a-lt197.false)

pub returns-then-a-lt226 : goal.returns-then-a-lt226
unfolding flight_word
returns-then-a-lt226 c = simp (← c.half-then-a-lt226.ensures, lt-ltb _ _ c.if-a-lt226.true, le-ltb _ _ c.if-a-lt212.false, le-ltb _ _ c.if-a-lt211.false, le-ltb _ _ c.if-a-lt197.false)

pub returns-then-a-lt228 : goal.returns-then-a-lt228
unfolding flight_word
returns-then-a-lt228 c = simp (← c.half-then-a-lt228.ensures, lt-ltb _ _ c.if-a-lt228.true, le-ltb _ _ c.if-a-lt226.false, le-ltb _ _ c.if-a-lt212.false, le-ltb _ _ c.if-a-lt211.false, le-ltb _ _ c.if-a-lt197.false)

pub returns-then-a-eq228 : goal.returns-then-a-eq228
unfolding flight_word
returns-then-a-eq228 c = simp (eq-eqb _ _ c.if-a-eq228.true, le-ltb _ _ c.if-a-lt228.false, le-ltb _ _ c.if-a-lt226.false, le-ltb _ _ c.if-a-lt212.false, le-ltb _ _ c.if-a-lt211.false, le-ltb _ _ c.if-a-lt197.false)

pub returns : goal.returns
unfolding flight_word
returns c = simp (← c.half-2.ensures, ← c.difference_mean.ensures, ne_eqb _ _ c.if-a-eq228.false, le-ltb _ _ c.if-a-lt228.false, le-ltb _ _ c.if-a-lt226.false, le-ltb _ _ c.if-a-lt212.false, le-ltb _ _ c.if-a-lt211.false, le-ltb _ _ c.if-a-lt197.false)
