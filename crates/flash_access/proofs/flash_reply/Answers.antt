-- `flash_access::flash_reply` meets its contract.
use Rattle.device.specs.Parts.{flash_reply, flash_out, flash_left}
use Rattle.flash_access.specs.Work.{work_out, work_left}
use Rattle.flash_access.proofs.Numbered.{refused-is, done-is}
use mathlib.Core.Path.{refl, sym, ◌∙◌}
use Rattle.flash_access.proofs.flash_reply.Goals as goal

pub returns-then-is_busy : goal.returns-then-is_busy
unfolding flash_reply flash_out flash_left
returns-then-is_busy c = simp (← c.is_busy.ensures, c.if-is_busy.true) (c.refuse.ensures, refl, refl)

pub returns-in-Err : goal.returns-in-Err
unfolding flash_reply flash_out flash_left work_out work_left
returns-in-Err c =
    let w = c.work.ensures in
    simp (← c.is_busy.ensures, c.if-is_busy.false, c.if-m.true) (
      c.refuse-in-Err.ensures ∙ refused-is _ _ _ _ _ (sym w.0 ∙ c.in-Err.is),
      w.1,
      w.2,
    )

pub returns-in-Ok : goal.returns-in-Ok
unfolding flash_reply flash_out flash_left work_out work_left
returns-in-Ok c =
    let w = c.work.ensures in
    simp (← c.is_busy.ensures, c.if-is_busy.false, c.if-m.true) (
      c.done.ensures ∙ done-is _ _ _ _ _ (sym w.0 ∙ c.in-Ok.is),
      w.1,
      w.2,
    )

pub returns : goal.returns
unfolding flash_reply flash_out flash_left
returns c = simp (← c.is_busy.ensures, c.if-is_busy.false, c.if-m.false) (c.refuse-2.ensures, refl, refl)
