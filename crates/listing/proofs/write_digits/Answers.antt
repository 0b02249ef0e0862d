-- `listing::write_digits` meets its contract.
-- Assumes nothing.
use mathlib.Core.Path.{sym, ◌∙◌}
use native.Mathlib.Omega.{arith}
use Rattle.listing.proofs.Sequence.{length-is}
use Rattle.listing.proofs.Outcome.{twenty, twenty-one, all-written, size_fits}
use Rattle.listing.proofs.write_digits.Goals as goal

pub returns-then-last_above : goal.returns-then-last_above
returns-then-last_above c = twenty _ _ _ _ (sym c.last_above.ensures ∙ c.if-last_above.true)

pub overflow_mul-size : goal.overflow_mul-size
overflow_mul-size c =
    let args = c.args in
    record { fits = omega (arith, size_fits args.digits args.differences.now args.first args.out.now (sym c.last_above.ensures ∙ c.if-last_above.false) c.requires) }

pub returns-then-out-size : goal.returns-then-out-size
returns-then-out-size c = twenty-one _ _ _ _ (sym c.last_above.ensures ∙ c.if-last_above.false) (omega arith)

pub put_lines-requires : goal.put_lines-requires
put_lines-requires c =
    record { digits_bound = c.requires; differences_value = sym c.last_above.ensures ∙ c.if-last_above.false; digits_in_bounds = rw (length-is c.args.digits) (omega arith) }

pub returns : goal.returns
returns c =
    all-written _ _ _ _ (sym c.last_above.ensures ∙ c.if-last_above.false) c.if-out-size.false c.put_lines.ensures.1 c.put_lines.ensures.0
