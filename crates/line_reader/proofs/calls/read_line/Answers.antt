-- `line_reader::calls::read_line` meets its contract.
-- Assumes nothing.
use mathlib.Core.Path.{sym}
use lib.Seq.{length-take-le}
use borrow.Author.Tests.{lt-ltb, le-ltb}
use Rattle.line.proofs.BoundLaws.{with-bounds}
use Rattle.line.specs.Line.{line_reading, line_expected}
use Rattle.line.proofs.MarkLaws.{expects-none}
use Rattle.line_reader.proofs.calls.read_line.Goals as goal

pub slice_bounds-words_call-end : goal.slice_bounds-words_call-end
slice_bounds-words_call-end c = sym (length-take-le _ _ c.content_length-n.ensures.1)

pub returns-then-n-gt1000 : goal.returns-then-n-gt1000
unfolding line_reading line_expected
returns-then-n-gt1000 c =
    let long = lt-ltb _ _ c.if-n-gt1000.true in
    let n = c.content_length-n.ensures.0 in
    record {
      numbers_after = rw (← n, long);
      expected = rw (← n, long) (expects-none _);
      bounded = tt;
    }

pub returns-else-n-gt1000 : goal.returns-else-n-gt1000
unfolding line_reading line_expected
returns-else-n-gt1000 c =
    let a = c.args in
    let short = le-ltb _ _ c.if-n-gt1000.false in
    let n = c.content_length-n.ensures.0 in
    let w = c.words_call.ensures in
    let all = with-bounds a.numbers.now a.line.now (rw (← n, short) w.0) (rw (← n, short) w.1) in
    record { numbers_after = all.0; expected = all.1.0; bounded = all.1.1 }
