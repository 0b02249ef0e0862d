-- `item_chip_code::comparing::judge` meets its contract. Assumes nothing.
use mathlib.Core.Path.{refl}
use Rattle.item_chip_code.proofs.Comparisons.{judges-fit, judges-differ}
use mathlib.Core.Bool.{not}
use native.Mathlib.Omega.{arith}
use Rattle.numeral.specs.Ascii.{ascii}
use Rattle.item_words_code.proofs.Flags.{flagged-not, at-most-one}
use Rattle.item_chip_code.proofs.comparing.judge.Goals as goal

pub overflow_add-expectations : goal.overflow_add-expectations
overflow_add-expectations c = omega (arith, c.requires, at-most-one (not c.wants_any.result) c.from.ensures)

pub returns-then-word_fits : goal.returns-then-word_fits
returns-then-word_fits c = judges-fit (rw c.if-word_fits.true at c.word_fits.ensures) (flagged-not c.from.ensures c.wants_any.ensures) refl refl refl

pub returns : goal.returns
unfolding ascii
returns c = judges-differ (rw c.if-word_fits.false at c.word_fits.ensures) (flagged-not c.from.ensures c.wants_any.ensures) c.put_where_none-head.ensures c.put_difference-end.ensures refl refl
