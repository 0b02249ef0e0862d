-- `line_reader::mark::marked_part` meets its contract. The invariant: no word before i is the mark; the measure is what is left of the bytes.
-- Assumes nothing.
use mathlib.Core.Path.{sym, ◌∙◌}
use native.Mathlib.Omega.{arith}
use Rattle.numeral.specs.Ascii.{ascii}
use Rattle.line.specs.Mark.{is_mark}
use Rattle.line.proofs.WordLaws.{words-end}
use Rattle.line.proofs.MarkLaws.{looked-first, looked-next, looked-mark, looked-all}
use Rattle.line_reader.proofs.mark.marked_part.Goals as goal

pub loop-i-init : goal.loop-i-init
loop-i-init c = looked-first _ _ c.requires.0 c.requires.1

pub next_word-word-requires : goal.next_word-word-requires
next_word-word-requires c = c.loop-i.invariant.high

pub returns-then-end-start : goal.returns-then-end-start
returns-then-end-start c = looked-all _ _ _ c.loop-i.invariant (c.next_word-word.ensures.none c.if-end-start.true)

pub returns-then-same : goal.returns-then-same
unfolding is_mark ascii
returns-then-same c =
    looked-mark _ _ _ _ _ c.loop-i.invariant c.next_word-word.ensures c.if-end-start.false (sym c.same.ensures ∙ c.if-same.true)

pub loop-i-smaller : goal.loop-i-smaller
loop-i-smaller c = omega (arith, c.next_word-word.ensures.low, c.next_word-word.ensures.high, c.if-end-start.false)

pub loop-i-preserved : goal.loop-i-preserved
unfolding is_mark ascii
loop-i-preserved c =
    looked-next _ _ _ _ _ c.loop-i.invariant c.next_word-word.ensures c.if-end-start.false (sym c.same.ensures ∙ c.if-same.false)

pub returns : goal.returns
returns c = looked-all _ _ _ c.loop-i.invariant (words-end _ _ c.loop-i-test.false)
