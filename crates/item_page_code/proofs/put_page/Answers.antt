-- `item_page_code::put_page` meets its contract. Assumes nothing.
use borrow.Author.Rules.{rules}
use mathlib.Core.Path.{◌∙◌}
use mathlib.Core.List.{◌++◌}
use Rattle.item_page.specs.Registers.{register_rows}
use Rattle.item_page.specs.Page.{run_rows, command_rows, page}
use Rattle.item_page_code.proofs.Rows.{puts-rows}
use Rattle.item_page_code.proofs.PageWords.{page-length, put-page-rows}
use Rattle.item_page_code.proofs.put_page.Goals as goal

pub put_registers-a-requires : goal.put_registers-a-requires
put_registers-a-requires c = page-length c.args.m _ c.page_words-words.ensures

pub shape_of-buf : goal.shape_of-buf
shape_of-buf c = c.put_commands.auto.buf ∙ c.put_run-b.auto.buf ∙ c.put_registers-a.auto.buf

pub returns : goal.returns
unfolding page
returns c = let m = c.args.m in puts-rows (register_rows m ++ run_rows m) (command_rows m) (puts-rows (register_rows m) (run_rows m) (put-page-rows m _ c.page_words-words.ensures c.put_registers-a.ensures) c.put_run-b.ensures) c.put_commands.ensures
