-- `line_reader::text::put_spaced` meets its contract.
-- Assumes nothing.
use mathlib.Core.Path.{◌∙◌}
use Rattle.line.proofs.SpacedLaws.{spaced-end, spaced-next}
use Rattle.line_reader.proofs.text.put_spaced.Goals as goal

pub returns-then-end-start : goal.returns-then-end-start
returns-then-end-start c = spaced-end _ _ (c.next_word-word.ensures.none c.if-end-start.true)

pub returns : goal.returns
returns c =
    c.put_blanked.ensures ∙ spaced-next _ _ (c.next_word-word.ensures.some c.if-end-start.false) c.put_text-next.ensures
