-- `item_analysis::differences::store` meets its contract: a value more in each turn.
use mathlib.Core.Path.{◌≡◌}
use mathlib.Core.List.{map}
use lib.ListN.{drop}
use Rattle.difference.specs.Difference.{signed_of}
use Rattle.item_analysis.specs.Kept.{kept_each}
use Rattle.item_analysis.proofs.differences.store.Given as goal

abbrev pub invariant-loop-word : goal.invariant-loop-word
invariant-loop-word l = kept_each (map signed_of (drop l.word-index l.words)) record { values = l.kept; used = l.end } ≡ kept_each (map signed_of l.words) record { values = l.initial.kept; used = l.initial.end }
