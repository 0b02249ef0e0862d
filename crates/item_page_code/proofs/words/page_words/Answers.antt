-- `item_page_code::words::page_words` meets its contract: a word more in each turn. Assumes nothing.
use mathlib.Core.Path.{◌∙◌}
use native.Mathlib.Omega.{arith}
use lib.ListN.{length-set}
use Rattle.item_page_code.proofs.PageWords.{words-on, words-end}
use Rattle.item_page_code.proofs.words.page_words.Goals as goal

pub loop-i-preserved : goal.loop-i-preserved
loop-i-preserved c = (length-set c.loop-i.words c.loop-i.i c.word.result ∙ c.loop-i.invariant.0, words-on c.args.m c.loop-i.words c.loop-i.i c.word.result (omega arith) c.word.ensures c.loop-i.invariant.1)

pub returns : goal.returns
returns c = words-end c.args.m c.loop-i.words c.loop-i.invariant.0 (λ k h. c.loop-i.invariant.1 k (omega arith))
