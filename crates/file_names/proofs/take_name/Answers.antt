-- `file_names::take_name` meets its contract.
-- Assumes nothing.
use mathlib.Core.Bool.{true≢false}
use mathlib.Core.Path.{sym, ◌∙◌}
use lib.ListN.{drop_of_length-le}
use Rattle.file_names.proofs.Laws.{seek-first, seek-on, seek-name}
use Rattle.file_names.proofs.take_name.Goals as goal

pub loop-i-init : goal.loop-i-init
loop-i-init c = λ start begun. seek-first _ begun

pub returns-then-ends_name : goal.returns-then-ends_name
returns-then-ends_name c =
    let loop = c.loop-i in
    let ends = sym c.ends_name.ensures ∙ c.if-ends_name.true in
    record {
      name = λ whole start begun. rw (← loop.auto.path) (seek-name _ loop.i c.loop-i-test.true (loop.invariant start begun) ends);
      on = λ other. absurd (true≢false other);
    }

pub loop-i-preserved : goal.loop-i-preserved
loop-i-preserved c =
    let loop = c.loop-i in
    let on = sym c.ends_name.ensures ∙ c.if-ends_name.false in
    let add = c.add_byte-n.ensures in
    λ start begun. seek-on _ loop.i c.loop-i-test.true (loop.invariant start begun) on add.0 add.1

pub returns : goal.returns
returns c =
    let loop = c.loop-i in
    record {
      name = λ other. absurd (true≢false (sym other));
      on = λ whole start begun. rw (drop_of_length-le _ c.loop-i-test.false) at (loop.invariant start begun);
    }
