-- `max35101_list::max35101_run` meets its contract.
use mathlib.Core.Path.{sym, ◌∙◌}
use borrow.Author.Rules.{rules}
use Rattle.max35101_list.proofs.Kept.{ran-sound, ran-unsound}
use Rattle.max35101_list.proofs.max35101_run.Goals as goal

pub returns-then-is_sound : goal.returns-then-is_sound
returns-then-is_sound c =
    ran-sound _ _ _ _ _ _ _ _ _ _ _ _ _ c.load-m.ensures c.run-p.ensures (sym c.is_sound.ensures ∙ c.if-is_sound.true) c.keep.ensures

pub returns : goal.returns
returns c =
    ran-unsound _ _ _ _ _ _ _ _ _ _ _ _ c.load-m.ensures c.run-p.ensures (sym c.is_sound.ensures ∙ c.if-is_sound.false)
