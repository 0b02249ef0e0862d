-- `item_chip_code::stretches::stretch` meets its contract. Assumes nothing.
use native.Mathlib.Omega.{arith}
use mathlib.Core.Path.{refl}
use Rattle.numeral.specs.Ascii.{ascii}
use Rattle.item_chip_code.proofs.Lines.{stretch-answers, stretch-refused}
use borrow.Enum.Refused.{opened}
use Rattle.item_chip_code.proofs.stretches.stretch.Goals as goal

pub overflow_add-moment : goal.overflow_add-moment
overflow_add-moment c = omega (arith, c.requires.1, c.wide.ensures.0)

pub returns-in-Stretched : goal.returns-in-Stretched
returns-in-Stretched c = stretch-answers _ c.sound_stretch-reply.ensures c.in-Stretched.is c.put_stretched-end.ensures (rw c.wide.ensures.0) refl

pub returns-in_default : goal.returns-in_default
unfolding ascii
returns-in_default c = stretch-refused _ c.sound_stretch-reply.ensures (opened c.in_default.in_default-own.keys2) c.tell.ensures
