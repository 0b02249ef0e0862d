-- `thermometer::is_accepted` meets its contract.
use native.Mathlib.Omega.{arith}
use mathlib.Core.Path.{◌∙◌}
use Rattle.thermometer.proofs.Accepted.{too_short, too_long, too-high, rise-decides}
use Rattle.thermometer.proofs.is_accepted.Goals as goal

pub returns-then-n-lt-FEWEST : goal.returns-then-n-lt-FEWEST
returns-then-n-lt-FEWEST c = too_short c.args.table.now (omega arith)

pub returns-then-n-gt-MOST : goal.returns-then-n-gt-MOST
returns-then-n-gt-MOST c = too_long c.args.table.now (omega arith)

pub returns-then-table-n-gt-HIGHEST : goal.returns-then-table-n-gt-HIGHEST
returns-then-table-n-gt-HIGHEST c = too-high c.args.table.now (omega arith) (omega arith)

pub returns : goal.returns
returns c =
    let table = c.args.table.now in
    c.is_rising.ensures ∙ rise-decides table (omega arith) (omega arith) (omega arith)
