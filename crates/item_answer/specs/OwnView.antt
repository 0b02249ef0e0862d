-- What code keeps of an item and of the counts, as the records that they are. Assumes nothing.
use Rattle.std.specs.Prelude.{ℕ, List, ℤ, take}
use Rattle.item_answer.specs.declared.Carried.{Carried}
use Rattle.item_answer.specs.declared.Counts.{Counts}
use Rattle.item_answer.specs.Answer.{Item}
use Rattle.item_answer.specs.Step.{Tally}

-- An item, by what is carried and the lent lists: the user flash, and the first places of the record and of the probe table.
unfoldable pub item_of : Carried → List ℕ → List ℤ → List ℕ → Item
item_of c flash differences entries = record {
  model = c.model;
  flash = flash;
  recorded = take c.recorded differences;
  probes = take c.probes entries;
  moment = c.moment;
}

unfoldable pub tally_of : Counts → Tally
tally_of c = record {
  calls = c.calls;
  refused = c.refused;
  unannounced = c.unannounced;
  bad = c.bad;
  expectations = c.expectations;
  differ = c.differ;
}
