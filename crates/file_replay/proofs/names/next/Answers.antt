-- `file_replay::names::next` meets its contract.
-- Assumes nothing.
use mathlib.Core.Bool.{true≢false}
use mathlib.Core.Path.{sym, ◌∙◌}
use Rattle.file_replay.proofs.names.next.Goals as goal

pub returns-then-s : goal.returns-then-s
returns-then-s g c =
    (λ none. absurd (true≢false (sym c.if-s.true ∙ none)), λ some. c.seek.ensures)

pub returns : goal.returns
returns g c =
    (λ none. c.argument.ensures, λ some. absurd (true≢false (sym some ∙ c.if-s.false)))
