-- `file_replay::names::first` meets its contract.
-- Assumes nothing.
use Rattle.file_replay.proofs.SourceLaws.{from-unopened, from-opened}
use Rattle.file_replay.proofs.names.first.Goals as goal

pub returns-then-o-eq0 : goal.returns-then-o-eq0
returns-then-o-eq0 g c =
    let source = c.source_of.ensures in
    (λ e. rw (source.0, source.1) at c.argument.ensures, λ other. absurd (other c.if-o-eq0.true))

pub returns-in-None : goal.returns-in-None
returns-in-None g c =
    let source = c.source_of-in-None in
    (λ e. absurd (c.if-o-eq0.false e), λ other. from-unopened source.result source.ensures c.broken.ensures)

pub returns-in-Some : goal.returns-in-Some
returns-in-Some g c =
    let source = c.source_of-in-Some in
    (λ e. absurd (c.if-o-eq0.false e), λ other. from-opened source.result c.args.part.now source.ensures c.open_list.auto.path c.seek.ensures)
