-- `item_page_code::state::high_count` meets its contract. Assumes nothing.
use Prim.Native.Nat.{◌%◌, ◌/◌}
use native.Mathlib.Omega.{arith}
use Rattle.item_page.specs.Registers.{high_names}
use Rattle.item_page_code.proofs.Rows.{one, ◌plus◌}
use borrow.Author.Rules.{rules}
use Rattle.item_page_code.proofs.state.high_count.Goals as goal

pub returns : goal.returns
unfolding high_names
returns c = let w = c.args.w in ((one (w / 32768 % 2) "TO" (omega arith) plus one (w / 16384 % 2) "AF" (omega arith) plus one (w / 4096 % 2) "TOF" (omega arith) plus one (w / 2048 % 2) "TE" (omega arith) plus one (w / 1024 % 2) "LDO" (omega arith) plus one (w / 512 % 2) "TOF_EVTMG" (omega arith) plus one (w / 256 % 2) "TEMP_EVTMG" (omega arith)).same, omega arith)
