-- `item_keep_code::differences::put_added` meets its contract.
-- Assumes nothing.
use borrow.Author.Rules.{rules}
use mathlib.Core.Path.{◌≡◌, refl, sym}
use mathlib.Core.List.{map}
use native.Mathlib.Omega.{arith}
use lib.ListN.{length, take, length-map}
use lib.Seq.{length-take-le}
use Rattle.difference.specs.Difference.{signed_of}
use Rattle.item_answer.specs.Answer.{record_result}
use Rattle.item_keep_code.specs.OwnAdded.{with_recorded}
use Rattle.item_keep_code.proofs.Adding.{adds_none, adds-all}
use Rattle.item_keep_code.proofs.differences.put_added.Goals as goal

pub returns-then-used-words : goal.returns-then-used-words
unfolding record_result
returns-then-used-words c = λ i e. let same : length (take c.args.used c.args.kept.now) ≡ c.args.used = length-take-le c.args.used c.args.kept.now (search rules) in let many : length (map signed_of c.args.words.now) ≡ length c.args.words.now = length-map c.args.words.now signed_of in adds_none c.args.buf.now c.args.at i 4096 i.recorded (map signed_of c.args.words.now) _ (with_recorded i) refl (rw e (omega (arith, same, many, c.if-used-words.true, c.requires.0))) (sym e)

pub returns : goal.returns
unfolding record_result
returns c = λ i e. let same : length (take c.args.used c.args.kept.now) ≡ c.args.used = length-take-le c.args.used c.args.kept.now (search rules) in let many : length (map signed_of c.args.words.now) ≡ length c.args.words.now = length-map c.args.words.now signed_of in adds-all c.args.buf.now c.args.at i 4096 i.recorded (map signed_of c.args.words.now) _ (with_recorded i) refl (rw e (omega (arith, same, many, c.if-used-words.false, c.requires.0))) c.put_words-end.ensures (rw e c.add.ensures)
