-- `bus::flash_frame_reply` meets its contract.
use Rattle.device.specs.Parts.{read_reply, read_output, flash_reply, flash_out, flash_left, flash_frame_reply, flash_frame_output, flash_frame_memory}
use Rattle.device.specs.declared.Model.{Model}
use Rattle.reply_parts.proofs.Decode.{flash-bounds}
use Rattle.frame.specs.contracts.Decoded.{the_type}
use Rattle.frame.specs.declared.Decoded.{Decoded}
use Rattle.frame.specs.declared.Decoded.TheVariants.{Command, Read, Write, Flash, Refused}
use types.Run.{OneOf, miss}
use denote.Enum.Declared.{tag_of}
use mathlib.Core.List.{List, [], ◌∷◌}
use lib.ListN.{length}
use mathlib.Core.Path.{◌≡◌, refl, ◌∙◌}
use Prim.Native.Nat.{ℕ}
use borrow.Enum.Refused.{opened}
use Rattle.bus.proofs.flash_frame_reply.Goals as goal

-- what decoding gives but a flash frame: what a read or a refusal gives, and the memory as it was
not-a-flash :
    (m : Model) (d : Decoded) (b o x : List ℕ) →
    OneOf (0 ∷ 1 ∷ 2 ∷ 4 ∷ []) (tag_of the_type d) →
    (read_reply m d ≡ flash_frame_reply m b x d) ×
    (read_output m d o ≡ flash_frame_output m b o x d) ×
    (x ≡ flash_frame_memory m b x d)
unfolding flash_frame_reply flash_frame_output flash_frame_memory
not-a-flash m (Command op) b o x h = (refl, refl, refl)
not-a-flash m (Read op n) b o x h = (refl, refl, refl)
not-a-flash m (Write op n) b o x h = (refl, refl, refl)
not-a-flash m (Flash op) b o x h = absurd (miss (0 ∷ 1 ∷ 2 ∷ 4 ∷ []) 3 tt h)
not-a-flash m (Refused r) b o x h = (refl, refl, refl)

a-flash :
    (m : Model) (d : Decoded) (op : ℕ) (b o x : List ℕ) →
    d ≡ Flash op →
    (flash_reply m op b x ≡ flash_frame_reply m b x d) ×
    (flash_out m op b o x ≡ flash_frame_output m b o x d) ×
    (flash_left m op b x ≡ flash_frame_memory m b x d)
unfolding flash_frame_reply flash_frame_output flash_frame_memory
a-flash m d op b o x e = (rw e, rw e, rw e)

pub returns-in_default : goal.returns-in_default
returns-in_default c =
    let start = c.args in
    let k = not-a-flash start.m start.d start.b.now start.out.now start.mem.now (opened c.in_default.in_default-own.keys2) in
    (c.read_reply.ensures.0 ∙ k.0, c.read_reply.ensures.1 ∙ k.1, k.2)

pub flash_reply-requires : goal.flash_reply-requires
flash_reply-requires c =
    let start = c.args in
    flash-bounds start.d c.in-Flash.op (length start.b.now) (length start.out.now)
    c.in-Flash.is c.requires.2

pub returns : goal.returns
returns c =
    let start = c.args in
    let k = a-flash start.m start.d c.in-Flash.op start.b.now start.out.now start.mem.now c.in-Flash.is in
    let f = c.flash_reply.ensures in
    (f.0 ∙ k.0, f.1 ∙ k.1, f.2 ∙ k.2)
