-- `item_line_code::parts::split` meets its contract. Assumes nothing.
use mathlib.Core.Path.{sym, ◌∙◌}
use Rattle.numeral.specs.Ascii.{ascii}
use Rattle.text.specs.OwnPart.{part}
use Rattle.item_line_code.proofs.PartLaws.{split-none, split-comment, split-mark}
use Rattle.item_line_code.proofs.parts.split.Goals as goal

pub returns-then-to-from : goal.returns-then-to-from
returns-then-to-from c = split-none _ _ c.requires.0 _ c.cut-found.ensures c.if-to-from.true

pub cut-after-requires : goal.cut-after-requires
cut-after-requires c = (
  record { ordered = c.cut-found.ensures.inside; high = c.requires.0.high; short = c.requires.0.short },
  c.cut-found.ensures.stops c.if-to-from.false,
)

pub returns-then-same : goal.returns-then-same
unfolding part ascii
returns-then-same c = split-mark _ _ c.requires.0 _ c.cut-found.ensures c.if-to-from.false (sym c.same.ensures ∙ c.if-same.true) c.cut-after.ensures

pub returns-else-same : goal.returns-else-same
unfolding part ascii
returns-else-same c = split-comment _ _ c.requires.0 _ c.cut-found.ensures c.if-to-from.false (sym c.same.ensures ∙ c.if-same.false)
