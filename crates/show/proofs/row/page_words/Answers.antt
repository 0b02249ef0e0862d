-- `show::row::page_words` meets its contract: a word more in each turn.
-- Assumes nothing.
use Rattle.std.proofs.Common.{arith, ◌∙◌}
use lib.ListN.{length-set}
use Rattle.show.proofs.Rows.{words-on, words-end}
use Rattle.show.proofs.row.page_words.Goals as goal

pub loop-i-preserved : goal.loop-i-preserved
loop-i-preserved c =
    let k = c.loop-i in
    (length-set k.words k.i c.word.result ∙ k.invariant.0, words-on c.args.m k.words k.i c.word.result (omega arith) c.word.ensures k.invariant.1)

pub returns : goal.returns
returns c = words-end c.args.m c.loop-i.words c.loop-i.invariant.0 (λ k h. c.loop-i.invariant.1 k (omega arith))
