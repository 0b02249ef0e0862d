-- `item_keep_code::judge::put_marked` meets its contract.
-- Assumes nothing.
use mathlib.Core.Path.{sym, ◌∙◌}
use Rattle.numeral.specs.Ascii.{ascii}
use Rattle.text.specs.Text.{words}
use Rattle.text.proofs.Putting.{puts}
use Rattle.item_keep_code.specs.OwnJudged.{line_at}
use Rattle.item_keep_code.proofs.Judging.{judged-agrees, judged-differs}
use Rattle.item_keep_code.proofs.judge.put_marked.Goals as goal

pub returns-then-begin_with : goal.returns-then-begin_with
returns-then-begin_with c = judged-agrees (words c.args.wanted.now) (line_at c.args.buf.now c.args.start c.args.end) (rw c.count_words-expects.ensures) (rw (← c.part_of.ensures) (sym c.begin_with.ensures ∙ c.if-begin_with.true)) (puts c.put_text.ensures)

pub returns : goal.returns
unfolding ascii
returns c = judged-differs (words c.args.wanted.now) (line_at c.args.buf.now c.args.start c.args.end) (rw c.count_words-expects.ensures) (rw (← c.part_of.ensures) (sym c.begin_with.ensures ∙ c.if-begin_with.false)) c.put_expected.ensures
