-- `file_replay::names::step` meets its contract.
-- Assumes nothing.
use native.Mathlib.Omega.{arith}
use Rattle.file_replay.proofs.SourceLaws.{step-found, step-stopped, step-goes}
use Rattle.file_replay.proofs.names.step.Goals as goal

pub returns-then-got : goal.returns-then-got
returns-then-got g c =
    let args = c.args in
    let took = c.take_name-got.ensures in
    (λ start begun. step-found args.s args.part.now c.first_bytes.ensures c.in_list.ensures (took.name c.if-got.true start begun), λ none z. omega (arith, c.in_list.ensures.0.is, z))

pub returns-then-reads-eq0 : goal.returns-then-reads-eq0
returns-then-reads-eq0 g c =
    let args = c.args in
    let took = c.take_name-got in
    (λ start begun. step-stopped args.s args.part.now c.first_bytes.ensures (took.ensures.on c.if-got.false start begun) took.auto.path c.broken.ensures, λ none z. omega (arith, c.broken.ensures.is, z))

pub returns : goal.returns
returns g c =
    let args = c.args in
    let took = c.take_name-got in
    (λ start begun. step-goes args.s args.part.now c.first_bytes.ensures (took.ensures.on c.if-got.false start begun) took.auto.path c.read_on.ensures, λ none. absurd (c.if-reads-eq0.false none))
