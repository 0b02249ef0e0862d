-- `file_replay::names::seek` meets its contract.
-- Assumes nothing.
use borrow.Author.Rules.{rules}
use borrow.Author.Tests.{eqb-true, eqb-false}
use mathlib.Core.Path.{refl, sym, ◌∙◌}
use Rattle.file_replay.specs.Sources.{number_of}
use Rattle.file_replay.proofs.SourceLaws.{seek-begun, seek-step, seek-over}
use Rattle.file_replay.proofs.names.seek.Goals as goal

pub loop-reads-init : goal.loop-reads-init
loop-reads-init g c =
    let stands = c.in_list-it.ensures.0 in
    (refl, refl, stands.is, seek-begun _ _ record { list = stands.list; is = stands.is; place = refl; more = refl } c.in_list-it.ensures.3)

pub loop-reads-preserved : goal.loop-reads-preserved
loop-reads-preserved g c =
    let loop = c.loop-reads in
    (search rules, search rules, eqb-true (number_of c.step-it.result.state) 0 (sym c.is_seeking.ensures ∙ c.if-not-is_seeking.false), seek-step loop.invariant.3 loop.invariant.2 loop.invariant.1 c.step-it.ensures.0)

pub returns-then-not-is_seeking : goal.returns-then-not-is_seeking
returns-then-not-is_seeking g c =
    let loop = c.loop-reads in
    let begun = c.in_list-it.ensures in
    let over = eqb-false (number_of c.step-it.result.state) 0 (sym c.is_seeking.ensures ∙ c.if-not-is_seeking.true) in
    rw (begun.0.place, begun.0.more, begun.1, begun.2) at (seek-over (seek-step loop.invariant.3 loop.invariant.2 loop.invariant.1 c.step-it.ensures.0) over)
