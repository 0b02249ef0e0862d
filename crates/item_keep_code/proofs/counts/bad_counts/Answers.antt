-- `item_keep_code::counts::bad_counts` meets its contract.
-- Assumes nothing.
use mathlib.Core.Path.{◌≡◌, ap}
use Rattle.item_answer.specs.Step.{Tally}
use Rattle.item_answer.specs.OwnView.{tally_of}
use Rattle.item_keep_code.proofs.counts.bad_counts.Goals as goal

pub returns : goal.returns
unfolding tally_of
returns c =
    let none = c.no_counts.ensures in
    let calls : c.no_counts.result.calls ≡ 0 = ap (λ (t : Tally). t.calls) none in
    let refused : c.no_counts.result.refused ≡ 0 = ap (λ (t : Tally). t.refused) none in
    let unannounced : c.no_counts.result.unannounced ≡ 0 = ap (λ (t : Tally). t.unannounced) none in
    let expectations : c.no_counts.result.expectations ≡ 0 = ap (λ (t : Tally). t.expectations) none in
    let differ : c.no_counts.result.differ ≡ 0 = ap (λ (t : Tally). t.differ) none in
    rw (calls, refused, unannounced, expectations, differ)
