-- `text_code::compare::begin_with` meets its contract. The invariant: what is left to compare decides.
use mathlib.Core.Path.{◌≡◌}
use lib.ListN.{drop}
use Rattle.text.specs.Text.{words, begin_with}
use Rattle.text_code.proofs.compare.begin_with.Given as goal

abbrev pub invariant-loop-want : goal.invariant-loop-want
invariant-loop-want l =
    begin_with (words l.want-iterator.rest.now) (words l.others.rest.now) ≡ begin_with (words l.wanted) (drop 1 (words l.line))
