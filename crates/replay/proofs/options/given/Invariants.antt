-- `replay::options::given` meets its contract.
use mathlib.Core.Path.{◌≡◌}
use lib.ListN.{length}
use Rattle.replay.proofs.Handed.{Handed}
use Rattle.replay.proofs.options.given.Given as goal

abbrev pub invariant-loop-i : goal.invariant-loop-i
invariant-loop-i g l = (length l.word ≡ 4096) × Handed l.n l.i l.reading
