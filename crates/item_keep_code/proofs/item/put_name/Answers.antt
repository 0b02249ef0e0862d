-- `item_keep_code::item::put_name` meets its contract.
-- Assumes nothing.
use mathlib.Core.Path.{sym, ◌∙◌}
use Rattle.numeral.specs.Ascii.{ascii}
use Rattle.text.specs.Text.{spaced_each, words}
use Rattle.text.proofs.Putting.{puts_none, puts_first}
use Rattle.item_keep_code.proofs.Adding.{length-zero}
use Rattle.item_keep_code.proofs.Judging.{spaced-each}
use Rattle.item_keep_code.proofs.item.put_name.Goals as goal

pub returns-then-count_words-eq0 : goal.returns-then-count_words-eq0
unfolding spaced_each
returns-then-count_words-eq0 c = rw (length-zero (words c.args.name.now) (sym c.count_words.ensures ∙ c.if-count_words-eq0.true)) (puts_none c.args.buf.now c.args.at)

pub returns : goal.returns
unfolding ascii
returns c = rw (spaced-each (words c.args.name.now) (λ e. c.if-count_words-eq0.false (c.count_words.ensures ∙ e))) (puts_first c.put_text-a.ensures c.put_spaced.ensures)
