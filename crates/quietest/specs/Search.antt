-- What the search holds on its way: nothing that a reader of the contract has to believe.
use Rattle.std.specs.Prelude.{ℕ, ◌+◌, ◌≤◌, List, ℤ, ◌-ℤ◌}
use Rattle.std.specs.Int.Signed.{lt_z}
use Rattle.unit.specs.Choice.{pick}
use Rattle.quietest.specs.declared.extremes.Extremes.{Extremes}
use Rattle.quietest.specs.declared.search.Found.{Found}
use Rattle.quietest.specs.Quietest.{larger, smaller, largest, smallest, spread}

abbrev pub extremes_of : List ℤ → ℕ → ℕ → Extremes
extremes_of values from n = record { high = largest values from n; low = smallest values from n }

-- of two runs together
abbrev pub joined : Extremes → Extremes → Extremes
joined a b = record { high = larger a.high b.high; low = smaller a.low b.low }

-- the largest less the smallest
abbrev pub spread_of : Extremes → ℤ
spread_of e = e.high -ℤ e.low

abbrev pub found : List ℤ → ℕ → ℕ → Found
found values w start = record { start = start; spread = spread values start w }

-- what was found, or a start whose run has a smaller spread
abbrev pub better : Found → ℕ → ℤ → Found
better best start spread = pick (lt_z spread best.spread) (record { start = start; spread = spread }) best

-- `count` starts from `from` whose runs of w neighbours lie within n values and share a part
pub record Within (n w from count : ℕ) : Type 0 where
  pub some : 1 ≤ count
  pub few : count ≤ w
  pub last : from + count + w ≤ n + 1
