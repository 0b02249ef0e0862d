-- `max35101_analysis::max35101_quietest` meets its contract.
use mathlib.Core.Path.{sym, ◌∙◌}
use Rattle.quietest.proofs.Inside.{place-within}
use Rattle.finding.specs.Finding.{place_run}
use borrow.Author.Rules.{rules}
use Rattle.max35101_analysis.proofs.max35101_quietest.Goals as goal

pub copy_run-requires : goal.copy_run-requires
copy_run-requires c =
    let start = c.args in
    place-within start.values.now start.width c.in-Ok.start (sym c.quietest_place-p.ensures.same ∙ c.in-Ok.is)

pub returns-in-Err : goal.returns-in-Err
unfolding place_run
returns-in-Err c =
    let e = sym c.quietest_place-p.ensures.same ∙ c.in-Err.is in (rw e c.number.ensures.0, rw e)

pub returns-in-Ok : goal.returns-in-Ok
unfolding place_run
returns-in-Ok c =
    let e = sym c.quietest_place-p.ensures.same ∙ c.in-Ok.is in (rw e, rw e c.copy_run.ensures)
