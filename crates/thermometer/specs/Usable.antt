-- What the code needs of a table: nothing that a reader of the contracts has to believe.
use Rattle.std.specs.Prelude.{ℕ, ◌≤◌, true, List, ◌≡◌, length}
use Rattle.thermometer.specs.Table.{is_rising}

pub record Usable (table : List ℕ) : Type 0 where
  pub some : 2 ≤ length table
  pub few : length table ≤ 512
  pub rises : is_rising table ≡ true
