-- What every line keeps of an item: a sound model, and the bounds of its record and its probe table. Assumes nothing.
use Rattle.std.specs.Prelude.{◌≤◌, true, ◌≡◌, length}
use Rattle.device.specs.Model.{is_sound}
use Rattle.item_line.specs.OwnBounds.{Quanta}
use Rattle.item_answer.specs.Answer.{Item}

pub record Kept (i : Item) : Type 0 where
  pub sound : is_sound i.model ≡ true
  pub recorded : length i.recorded ≤ 4096
  pub quanta : Quanta i.recorded
  pub probes : length i.probes ≤ 1024
