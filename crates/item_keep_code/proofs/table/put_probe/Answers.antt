-- `item_keep_code::table::put_probe` meets its contract.
-- Assumes nothing.
use borrow.Author.Rules.{rules}
use mathlib.Core.Path.{◌≡◌, refl, sym, ◌∙◌}
use mathlib.Core.List.{◌++◌}
use Prim.Native.Nat.{◌+◌}
use native.Mathlib.Omega.{arith}
use lib.ListN.{length, take, length-append}
use lib.Seq.{length-take-le}
use Rattle.item_answer.specs.Answer.{probe_result}
use Rattle.item_keep_code.specs.OwnAdded.{with_probes}
use Rattle.item_keep_code.proofs.Adding.{adds_none, adds-all}
use Rattle.std.proofs.lemmas.Slice.{take-put_mid}
use Rattle.item_keep_code.proofs.table.put_probe.Goals as goal

pub returns-then-used-entries : goal.returns-then-used-entries
unfolding probe_result
returns-then-used-entries c = λ i e. let same : length (take c.args.used c.args.table.now) ≡ c.args.used = length-take-le c.args.used c.args.table.now (search rules) in adds_none c.args.buf.now c.args.at i 1024 i.probes c.args.entries.now _ (with_probes i) refl (rw e (omega (arith, same, c.if-used-entries.true, c.requires.0))) (sym e)

pub returns : goal.returns
unfolding probe_result
returns c = λ i e. let same : length (take c.args.used c.args.table.now) ≡ c.args.used = length-take-le c.args.used c.args.table.now (search rules) in let all : length (i.probes ++ c.args.entries.now) ≡ c.args.used + length c.args.entries.now = length-append i.probes c.args.entries.now ∙ rw (e, same) in adds-all c.args.buf.now c.args.at i 1024 i.probes c.args.entries.now _ (with_probes i) refl (rw e (omega (arith, same, c.if-used-entries.false, c.requires.0))) (rw all c.put_count-end.ensures) (rw (e, c.copy_from_slice.ensures.after) (take-put_mid c.args.used _ c.args.table.now c.args.entries.now _ refl (omega arith)))
