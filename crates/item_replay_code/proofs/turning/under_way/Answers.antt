-- `item_replay_code::turning::under_way` meets its contract.
-- Assumes nothing.
use native.Mathlib.Omega.{arith}
use Rattle.item_replay_code.proofs.LineLaws.{under}
use Rattle.item_replay_code.proofs.turning.under_way.Goals as goal

pub go_on-requires : goal.go_on-requires
go_on-requires c = let entry = c in (under _ c.read_line-said.result c.expected_of-x.result c.requires.0 c.requires.1 c.requires.2 c.first_bytes-bytes.ensures c.read_line-said.ensures c.expected_of-x.ensures, omega (arith, c.requires.4))
