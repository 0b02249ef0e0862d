-- `line_buffer::end_from` meets its contract.
-- Assumes nothing.
use Rattle.std.proofs.Common.{◌≡◌, length, sym, ◌∙◌, arith}
use Rattle.line_buffer.proofs.LineLaws.{end-here, end_later, end-last}
use Rattle.line_buffer.proofs.end_from.Goals as goal

pub returns-then-bytes-i-eq10 : goal.returns-then-bytes-i-eq10
returns-then-bytes-i-eq10 c =
    (sym (c.loop-i.invariant ∙ end-here _ c.loop-i.i c.loop-i-test.true c.if-bytes-i-eq10.true), omega arith, omega arith)

pub loop-i-preserved : goal.loop-i-preserved
loop-i-preserved c = c.loop-i.invariant ∙ end_later _ c.loop-i.i c.loop-i-test.true c.if-bytes-i-eq10.false

pub returns : goal.returns
returns c =
    let k = c.loop-i in
    let all : k.i ≡ length c.args.bytes.now = omega arith in
    (sym (k.invariant ∙ end-last _ k.i c.loop-i-test.false ∙ all), omega arith, omega arith)
