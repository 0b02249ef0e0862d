-- `item_page_code::state::low_count` meets its contract. Assumes nothing.
use Prim.Native.Nat.{◌%◌, ◌/◌}
use native.Mathlib.Omega.{arith}
use Rattle.item_page.specs.Registers.{low_names}
use Rattle.item_page_code.proofs.Rows.{one, ◌plus◌}
use borrow.Author.Rules.{rules}
use Rattle.item_page_code.proofs.state.low_count.Goals as goal

pub returns : goal.returns
unfolding low_names
returns c = let w = c.args.w in ((one (w / 128 % 2) "FLASH" (omega arith) plus one (w / 32 % 2) "HALT" (omega arith) plus one (w / 8 % 2) "INIT" (omega arith) plus one (w / 4 % 2) "POR" (omega arith)).same, omega arith)
