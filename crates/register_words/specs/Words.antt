-- What the types of a model's fields say of the words that its registers read: how many there are, and their ranges. Soundness bounds
-- the clock, the counts and the sums, and none of these. Assumes nothing.
use Rattle.std.specs.Prelude.{ℕ, ◌<◌, List, ◌≡◌, length}
use Rattle.hit.specs.Mean.{All}
use Rattle.device.specs.declared.Model.{Model}
use Rattle.device.specs.Call.{Call, transaction, tick, flight, temperature, stretch}

-- each number of a list is below the bound
abbrev pub EachBelow : ℕ → List ℕ → Type 0
EachBelow bound ws = All (λ w. w < bound) ws

-- so many numbers, each below the bound
pub record Array (many bound : ℕ) (ws : List ℕ) : Type 0 where
  pub long : length ws ≡ many
  pub below : EachBelow bound ws

-- Registers 34h to 43h are sixteen words of 16 bits; the results are words of 32 bits, each read as two registers: six hits and AVG of
-- each direction, TOF_DIFF, and four ports.
pub record Words (m : Model) : Type 0 where
  pub setup : Array 16 65536 m.setup
  pub ups : Array 7 4294967296 m.flight.ups
  pub downs : Array 7 4294967296 m.flight.downs
  pub difference : m.flight.difference < 4294967296
  pub ports : Array 4 4294967296 m.temperature.ports

-- What a call brings: the bytes of a frame are below 256. Of delivered words nothing is asked, since those of 2^31 or more are late or
-- open and are not kept.
abbrev pub CallFits : Call → Type 0
CallFits (transaction f o x) = EachBelow 256 f
CallFits tick = Unit {0}
CallFits (flight u d) = Unit {0}
CallFits (temperature w) = Unit {0}
CallFits (stretch n) = Unit {0}
