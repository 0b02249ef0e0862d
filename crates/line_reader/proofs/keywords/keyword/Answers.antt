-- `line_reader::keywords::keyword` meets its contract.
-- Assumes nothing.
use Rattle.numeral.specs.Ascii.{ascii}
use Rattle.line.specs.Line.{keyword_of}
use Rattle.line.proofs.LineLaws.{here, below}
use Rattle.line_reader.proofs.keywords.keyword.Goals as goal

pub returns-then-same : goal.returns-then-same
unfolding keyword_of ascii
returns-then-same c =
    here _ c.same.ensures c.if-same.true

pub returns-then-same-2 : goal.returns-then-same-2
unfolding keyword_of ascii
returns-then-same-2 c =
    below _ c.same.ensures c.if-same.false
    (here _ c.same-2.ensures c.if-same-2.true)

pub returns-then-same-3 : goal.returns-then-same-3
unfolding keyword_of ascii
returns-then-same-3 c =
    below _ c.same.ensures c.if-same.false
    (below _ c.same-2.ensures c.if-same-2.false
    (here _ c.same-3.ensures c.if-same-3.true))

pub returns-then-same-4 : goal.returns-then-same-4
unfolding keyword_of ascii
returns-then-same-4 c =
    below _ c.same.ensures c.if-same.false
    (below _ c.same-2.ensures c.if-same-2.false
    (below _ c.same-3.ensures c.if-same-3.false
    (here _ c.same-4.ensures c.if-same-4.true)))

pub returns-then-same-5 : goal.returns-then-same-5
unfolding keyword_of ascii
returns-then-same-5 c =
    below _ c.same.ensures c.if-same.false
    (below _ c.same-2.ensures c.if-same-2.false
    (below _ c.same-3.ensures c.if-same-3.false
    (below _ c.same-4.ensures c.if-same-4.false
    (here _ c.same-5.ensures c.if-same-5.true))))

pub returns : goal.returns
unfolding keyword_of ascii
returns c =
    below _ c.same.ensures c.if-same.false
    (below _ c.same-2.ensures c.if-same-2.false
    (below _ c.same-3.ensures c.if-same-3.false
    (below _ c.same-4.ensures c.if-same-4.false
    (below _ c.same-5.ensures c.if-same-5.false
    c.other_keyword.ensures))))
