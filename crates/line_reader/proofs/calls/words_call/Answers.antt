-- `line_reader::calls::words_call` meets its contract.
-- Assumes nothing.
use Prim.Native.Nat.{ℕ, ◌≤◌}
use mathlib.Core.List.{List}
use mathlib.Core.Path.{sym}
use lib.ListN.{length, take}
use lib.Seq.{length-take-le}
use native.Mathlib.Omega.{arith}
use borrow.Author.Tests.{eq-eqb, ne_eqb}
use Rattle.line.specs.Line.{words_reading, words_expected}
use Rattle.line.proofs.LineLaws.{part-first}
use Rattle.line.proofs.MarkLaws.{expects-of, expects-none}
use Rattle.line_reader.proofs.calls.words_call.Goals as goal

long : (at i : ℕ) (s : List ℕ) → at ≤ i → i ≤ length s → at ≤ length (take i s)
long at i s low high = rw (length-take-le i s high) low

pub returns-then-end-start : goal.returns-then-end-start
unfolding words_reading words_expected
returns-then-end-start c =
    let none = c.next_word-word.ensures.none c.if-end-start.true in
    (rw none, rw none (expects-none _))

pub returns-then-s-start-eq35 : goal.returns-then-s-start-eq35
unfolding words_reading words_expected
returns-then-s-start-eq35 c =
    let word = c.if-end-start.false in
    let some = c.next_word-word.ensures.some word in
    let comment = eq-eqb _ _ c.if-s-start-eq35.true in
    (rw (some, part-first _ _ _ word, comment), rw (some, part-first _ _ _ word, comment) (expects-none _))

pub call_part-part-requires : goal.call_part-part-requires
call_part-part-requires c = (c.next_word-word.ensures.high, c.next_word-word.ensures.stops c.if-end-start.false)

pub slice_bounds-keyword_call-end : goal.slice_bounds-keyword_call-end
slice_bounds-keyword_call-end c =
    let k = c.call_part-part.ensures in
    sym (length-take-le _ _ (omega (arith, k.ordered, k.high)))

pub keyword_call-requires : goal.keyword_call-requires
keyword_call-requires c =
    let k = c.call_part-part.ensures in
    long _ _ _ k.low (omega (arith, k.ordered, k.high))

pub returns : goal.returns
unfolding words_reading words_expected
returns c =
    let word = c.if-end-start.false in
    let some = c.next_word-word.ensures.some word in
    let plain = ne_eqb _ _ c.if-s-start-eq35.false in
    let part = c.call_part-part.ensures in (
      rw (some, part-first _ _ _ word, plain, ← c.keyword-k.ensures, ← c.takes_mark.ensures, ← part.call) c.keyword_call.ensures,
      rw (some, part-first _ _ _ word, plain, ← c.keyword-k.ensures, ← c.takes_mark.ensures, c.behind_mark.ensures) (expects-of _ _ _ _ _ part),
    )
