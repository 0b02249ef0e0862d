-- `refusal::Refusal::number` meets its contract.
use Prim.Native.Nat.{◌≤◌}
use Rattle.refusal.proofs.Number.{numbered, at_most}
use Rattle.refusal.proofs.Refusal.number.Goals as goal

pub returns : goal.returns
returns c = (numbered c.args.self, rw (numbered c.args.self) (at_most c.args.self))
