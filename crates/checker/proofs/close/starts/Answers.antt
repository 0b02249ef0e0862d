-- `checker::close::starts` meets its contract.
-- Assumes nothing.
use mathlib.Core.Path.{sym, ◌∙◌}
use Rattle.checker.proofs.CloseLaws.{starts-not, starts-all, starts-stops}
use Rattle.checker.proofs.close.starts.Goals as goal

pub returns-then-not-starts_with : goal.returns-then-not-starts_with
returns-then-not-starts_with c = sym (starts-not _ _ (sym c.starts_with.ensures.value ∙ c.if-not-starts_with.true))

pub returns-then-bytes-wanted : goal.returns-then-bytes-wanted
returns-then-bytes-wanted c = sym (starts-all _ _ (sym c.starts_with.ensures.value ∙ c.if-not-starts_with.false) c.if-bytes-wanted.true)

pub returns : goal.returns
returns c = sym (starts-stops _ _ (sym c.starts_with.ensures.value ∙ c.if-not-starts_with.false) c.if-bytes-wanted.false)
