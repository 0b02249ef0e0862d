-- `line_reader::calls::is_out` meets its contract.
-- Assumes nothing.
use mathlib.Core.Path.{sym}
use lib.Seq.{length-take-le}
use borrow.Author.Tests.{lt-ltb, le-ltb}
use Rattle.numeral.specs.Ascii.{ascii}
use Rattle.line.specs.Line.{is_out}
use Rattle.line_reader.proofs.calls.is_out.Goals as goal

pub returns-then-word-lt4 : goal.returns-then-word-lt4
unfolding is_out ascii
returns-then-word-lt4 c = rw (lt-ltb _ _ c.if-word-lt4.true)

pub slice_bounds-same-end : goal.slice_bounds-same-end
slice_bounds-same-end c = sym (length-take-le 4 c.args.word.now c.if-word-lt4.false)

pub returns : goal.returns
unfolding is_out ascii
returns c = rw (le-ltb _ _ c.if-word-lt4.false) c.same.ensures
