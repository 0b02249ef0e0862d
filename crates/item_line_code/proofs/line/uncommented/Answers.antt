-- `item_line_code::line::uncommented` meets its contract. Assumes nothing.
use mathlib.Core.Path.{◌∙◌}
use native.Mathlib.Omega.{arith}
use Rattle.item_line_code.proofs.PartLaws.{comment-cut}
use Rattle.item_line_code.proofs.line.uncommented.Goals as goal

pub returns : goal.returns
returns c = record {
  within = record { ordered = c.cut-found.ensures.low; high = omega (arith, c.cut-found.ensures.high, c.requires.0.high); short = omega (arith, c.cut-found.ensures.high, c.requires.0.short) };
  words = c.cut-found.ensures.before ∙ comment-cut _;
}
