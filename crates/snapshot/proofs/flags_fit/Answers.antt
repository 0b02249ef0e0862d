-- `snapshot::flags_fit` meets its contract.
use Prim.Native.Nat.{◌<◌, ◌≤◌}
use lib.ListN.{take, drop}
use borrow.Author.Rules.{rules}
use borrow.Author.Tests.{tests}
use Rattle.std.proofs.lemmas.Iterator.{cases_from_all, YieldsList-from_slice}
use Rattle.snapshot.proofs.Bytes.{flags-answered}
use Rattle.snapshot.proofs.flags_fit.Goals as goal

pub returns : goal.returns
returns c =
    flags-answered c.args.bytes.now c.all.result c.requires
    (cases_from_all _ _ _ (λ x. x < 2) (λ x. 2 ≤ x) c.all.ensures.ran (YieldsList-from_slice (take 18 (drop 1 c.args.bytes.now)) cc) (λ x q k. search (rules, tests)) (λ x q k. search (rules, tests)))
