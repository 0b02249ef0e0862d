-- `item_keep_code::differences::add` meets its contract.
-- Assumes nothing.
use borrow.Author.Rules.{rules}
use mathlib.Core.List.{map}
use lib.ListN.{length-map, get_or-map}
use mathlib.Core.Path.{sym, ◌∙◌}
use mir.Syntax.{w32}
use mir.ValLaws.{to_z-of_z}
use Rattle.difference.specs.Difference.{signed_of}
use Rattle.item_keep_code.proofs.Adding.{added-on, added_none, added-all}
use Rattle.item_keep_code.proofs.differences.add.Goals as goal

pub loop-i-init : goal.loop-i-init
loop-i-init c = added_none (map signed_of c.args.words.now) c.args.kept.now c.args.kept.now c.args.used 0

pub loop-i-preserved : goal.loop-i-preserved
loop-i-preserved c = added-on (map signed_of c.args.words.now) c.args.kept.now c.loop-i.kept c.args.used c.loop-i.i (signed_of 0) (rw length-map c.loop-i-test.true) (search rules) (to_z-of_z w32 c.signed.result (search rules) ∙ (c.signed.ensures ∙ sym (get_or-map signed_of c.args.words.now c.loop-i.i 0))) c.loop-i.invariant

pub returns : goal.returns
returns c = let all = added-all (map signed_of c.args.words.now) c.args.kept.now c.loop-i.kept c.args.used c.loop-i.i (rw length-map c.loop-i-test.false) (rw length-map (search rules)) c.loop-i.invariant in rw (length-map c.args.words.now signed_of) at all
