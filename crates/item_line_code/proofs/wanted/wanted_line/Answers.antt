-- `item_line_code::wanted::wanted_line` meets its contract. Assumes nothing.
use Rattle.std.proofs.lemmas.Result.{err_from_is_err_and}
use Rattle.item_line_code.specs.OwnReads.{as_read}
use mathlib.Core.Bool.{true, false}
use Rattle.item_line.specs.OwnRead.{as_line}
use Rattle.item_line_code.specs.OwnReads.{wanted_of}
use Rattle.item_line_code.proofs.WantedLaws.{no_address, words-fault, words_count}
use Rattle.item_line_code.proofs.CallLaws.{rest-within}
use Rattle.item_line_code.proofs.wanted.wanted_line.Goals as goal

pub wanted_words-requires : goal.wanted_words-requires
wanted_words-requires c = rest-within c.args.text.now _ c.address_in.ensures.within c.in_ok-a.was

pub returns-in_err-a : goal.returns-in_err-a
unfolding as_read as_line
returns-in_err-a c = let p = err_from_is_err_and c.from_residual.result c.from_residual.ensures.1 in λ l. rw (p.1, p.2) (no_address c.args.text.now _ _ c.address_in.ensures.addressed_read _ c.in_err-a.was)

pub returns-in_err-wanted_words : goal.returns-in_err-wanted_words
unfolding as_read as_line
returns-in_err-wanted_words c = let p = err_from_is_err_and c.from_residual-in_err-wanted_words.result c.from_residual-in_err-wanted_words.ensures.1 in λ l. rw (p.1, p.2) (words-fault c.args.text.now _ _ c.address_in.ensures.addressed_read _ c.in_ok-a.was c.most_from.ensures _ c.wanted_words.ensures c.in_err-wanted_words.was)

pub returns-then-reads : goal.returns-then-reads
unfolding as_read as_line wanted_of
returns-then-reads c = λ l. rw c.if-reads.true (words_count c.args.text.now _ _ c.address_in.ensures.addressed_read (wanted_of true) c.in_ok-a.was c.most_from.ensures _ c.wanted_words.ensures c.in_ok-wanted_words.was)

pub returns-else-reads : goal.returns-else-reads
unfolding as_read as_line wanted_of
returns-else-reads c = λ l. rw c.if-reads.false (words_count c.args.text.now _ _ c.address_in.ensures.addressed_read (wanted_of false) c.in_ok-a.was c.most_from.ensures _ c.wanted_words.ensures c.in_ok-wanted_words.was)
