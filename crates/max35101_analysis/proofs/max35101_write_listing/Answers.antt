-- `max35101_analysis::max35101_write_listing` meets its contract.
use Rattle.listing.specs.Listing.{Outcome, number_out, value_out}
use Rattle.layout.specs.Code.{code_in, filled}
use Rattle.max35101_analysis.specs.Listed.{listed_number, listed_out, listed_sizes}
use mathlib.Core.Path.{ap, ◌∙◌}
use borrow.Author.Rules.{rules}
use Rattle.max35101_analysis.proofs.max35101_write_listing.Goals as goal

pub returns : goal.returns
unfolding listed_number listed_out listed_sizes
returns c = (
  c.told.ensures.coded ∙ ap (λ (o : Outcome). code_in (number_out o)) c.write_listing-l.ensures.same,
  ap (λ (o : Outcome). o.bytes) c.write_listing-l.ensures.same,
  c.told.ensures.worded ∙ ap (λ (o : Outcome). filled c.args.answer.now (value_out o)) c.write_listing-l.ensures.same,
)
