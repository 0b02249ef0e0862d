-- `registers::read::valid_word` meets its contract.
use native.Mathlib.Omega.{arith}
use borrow.Author.Tests.{eq-eqb, ne_eqb}
use Rattle.calendar.proofs.Laws.{month-length}
use Rattle.device.specs.Registers.{calendar_word}
use Rattle.registers.proofs.Parts.{sound-clock}
use Rattle.registers.proofs.read.valid_word.Goals as goal

pub valid30-requires : goal.valid30-requires
valid30-requires c = let b = sound-clock _ c.requires in (omega (arith, b.ticks), omega (arith, b.second))

pub returns-then-a-eq176 : goal.returns-then-a-eq176
unfolding calendar_word
returns-then-a-eq176 c = rw (eq-eqb _ _ c.if-a-eq176.true) c.valid30.ensures

pub valid31-requires : goal.valid31-requires
valid31-requires c = let b = sound-clock _ c.requires in (omega (arith, b.minute), omega (arith, b.hour))

pub returns-then-a-eq177 : goal.returns-then-a-eq177
unfolding calendar_word
returns-then-a-eq177 c = rw (ne_eqb _ _ c.if-a-eq176.false, eq-eqb _ _ c.if-a-eq177.true) c.valid31.ensures

pub valid32-requires : goal.valid32-requires
valid32-requires c = let b = sound-clock _ c.requires in omega (arith, b.date, (month-length c.args.m.clock.year c.args.m.clock.month).1)

pub returns-then-a-eq178 : goal.returns-then-a-eq178
unfolding calendar_word
returns-then-a-eq178 c = rw (ne_eqb _ _ c.if-a-eq176.false, ne_eqb _ _ c.if-a-eq177.false, eq-eqb _ _ c.if-a-eq178.true) c.valid32.ensures

pub valid33-requires : goal.valid33-requires
valid33-requires c = let b = sound-clock _ c.requires in (omega (arith, b.month), omega (arith, b.year))

pub returns : goal.returns
unfolding calendar_word
returns c = rw (ne_eqb _ _ c.if-a-eq176.false, ne_eqb _ _ c.if-a-eq177.false, ne_eqb _ _ c.if-a-eq178.false) c.valid33.ensures
