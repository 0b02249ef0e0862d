-- `file_replay::several::replay_named` meets its contract.
-- Assumes nothing.
use borrow.Author.Rules.{rules}
use mathlib.Core.Path.{◌≡◌}
use native.Mathlib.Omega.{arith}
use lib.ListN.{length-take}
use Rattle.file_replay.specs.Files.{unread}
use Rattle.file_replay.specs.declared.names.SourceState.TheVariants.{Broken}
use Rattle.file_replay.proofs.SourceLaws.{broken-is}
use Rattle.file_replay.proofs.several.replay_named.Goals as goal

pub returns-then-eq : goal.returns-then-eq
returns-then-eq g c = (unread c.not_read.ensures, λ broken. c.not_read.ensures)

pub replay_file-requires : goal.replay_file-requires
replay_file-requires g c =
    let start = c in
    rw c.first_bytes.ensures (omega (arith, c.requires, length-take c.args.source.length c.args.path.now))

pub returns : goal.returns
returns g c =
    let other : ¬ (c.args.source.state ≡ Broken) = search rules in
    (rw c.first_bytes.ensures at c.replay_file.ensures, λ e. absurd (other (broken-is _ e)))
