-- `item_keep_code::analysis::put_quietest` meets its contract.
-- Assumes nothing.
use borrow.Author.Rules.{rules}
use mathlib.Core.Path.{refl}
use Rattle.numeral.specs.Ascii.{ascii}
use Rattle.item_answer.specs.Answer.{quietest_told}
use Rattle.item_keep_code.proofs.Quietest.{place-fits, place_same, run-printed}
use Rattle.item_keep_code.proofs.analysis.put_quietest.Goals as goal

pub overflow_add-start : goal.overflow_add-start
overflow_add-start c = search (rules, place-fits _ _ c.quietest_place.ensures.same c.in-Ok.is)

pub offset_bounds-kept-start : goal.offset_bounds-kept-start
offset_bounds-kept-start c = search (rules, place-fits _ _ c.quietest_place.ensures.same c.in-Ok.is)

pub slice_bounds-run_spread-start : goal.slice_bounds-run_spread-start
slice_bounds-run_spread-start c = search (rules, place-fits _ _ c.quietest_place.ensures.same c.in-Ok.is)

pub slice_bounds-run_spread-end : goal.slice_bounds-run_spread-end
slice_bounds-run_spread-end c = place-fits _ _ c.quietest_place.ensures.same c.in-Ok.is

pub returns-in-Ok : goal.returns-in-Ok
unfolding quietest_told
returns-in-Ok c = λ i e. let found = place_same c.quietest_place.ensures.same c.in-Ok.is in rw (e, found) (record { line = rw (← run-printed _ _ c.quietest_place.ensures.same c.in-Ok.is c.run_spread-spread.ensures) c.put_run-end.ensures; refused = refl; item = refl })

pub returns-in-Err : goal.returns-in-Err
unfolding quietest_told ascii
returns-in-Err c = λ i e. rw (e, place_same c.quietest_place.ensures.same c.in-Err.is) (record { line = c.put_refused.ensures.0; refused = c.put_refused.ensures.1; item = refl })
