-- `max35101_analysis::max35101_write_listing_as` meets its contract.
use Rattle.listing.specs.Listing.{Outcome, number_out, value_out}
use Rattle.layout.specs.Code.{code_in, filled}
use Rattle.max35101_analysis.specs.Listed.{listed_number, listed_out, listed_sizes}
use mathlib.Core.Path.{refl, ap, ◌∙◌}
use borrow.Author.Tests.{eq-eqb, ne_eqb}
use borrow.Author.Rules.{rules}
use Rattle.max35101_analysis.proofs.max35101_write_listing_as.Goals as goal

pub returns-then-digits-eq2 : goal.returns-then-digits-eq2
unfolding listed_number listed_out listed_sizes
returns-then-digits-eq2 c =
    rw (eq-eqb _ _ c.if-digits-eq2.true) (
      c.told.ensures.coded ∙ ap (λ (o : Outcome). code_in (number_out o)) c.write_listing_as-l.ensures.same,
      ap (λ (o : Outcome). o.bytes) c.write_listing_as-l.ensures.same,
      c.told.ensures.worded ∙ ap (λ (o : Outcome). filled c.args.answer.now (value_out o)) c.write_listing_as-l.ensures.same,
    )

pub returns-then-digits-eq8 : goal.returns-then-digits-eq8
unfolding listed_number listed_out listed_sizes
returns-then-digits-eq8 c =
    rw (ne_eqb _ _ c.if-digits-eq2.false, eq-eqb _ _ c.if-digits-eq8.true) (
      c.told-then-digits-eq8.ensures.coded ∙ ap (λ (o : Outcome). code_in (number_out o)) c.write_listing_as-l-then-digits-eq8.ensures.same,
      ap (λ (o : Outcome). o.bytes) c.write_listing_as-l-then-digits-eq8.ensures.same,
      c.told-then-digits-eq8.ensures.worded ∙ ap (λ (o : Outcome). filled c.args.answer.now (value_out o)) c.write_listing_as-l-then-digits-eq8.ensures.same,
    )

pub returns : goal.returns
unfolding listed_number listed_out listed_sizes
returns c = rw (ne_eqb _ _ c.if-digits-eq2.false, ne_eqb _ _ c.if-digits-eq8.false) (refl, refl, refl)
