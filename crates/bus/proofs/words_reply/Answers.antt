-- `bus::words_reply` meets its contract.
use Rattle.device.specs.Parts.{write_reply, read_output, flash_frame_reply, flash_frame_output, flash_frame_memory, words_reply}
use Rattle.device.specs.declared.Model.{Model}
use Rattle.reply_parts.proofs.Decode.{write-bounds}
use Rattle.frame.specs.contracts.Decoded.{the_type}
use Rattle.frame.specs.declared.Decoded.{Decoded}
use Rattle.frame.specs.declared.Decoded.TheVariants.{Command, Read, Write, Flash, Refused}
use types.Run.{OneOf, miss}
use denote.Enum.Declared.{tag_of}
use mathlib.Core.List.{List, [], ◌∷◌}
use lib.ListN.{length}
use mathlib.Core.Path.{◌≡◌, refl, ◌∙◌}
use Prim.Native.Nat.{ℕ}
use borrow.Enum.Refused.{opened}
use Rattle.bus.proofs.words_reply.Goals as goal

not-a-write :
    (m : Model) (d : Decoded) (b x : List ℕ) →
    OneOf (0 ∷ 1 ∷ 3 ∷ 4 ∷ []) (tag_of the_type d) →
    flash_frame_reply m b x d ≡ words_reply m b x d
unfolding words_reply
not-a-write m (Command op) b x h = refl
not-a-write m (Read op n) b x h = refl
not-a-write m (Write op n) b x h = absurd (miss (0 ∷ 1 ∷ 3 ∷ 4 ∷ []) 2 tt h)
not-a-write m (Flash op) b x h = refl
not-a-write m (Refused r) b x h = refl

-- a write leaves the output and the memory
a_write :
    (m : Model) (d : Decoded) (op n : ℕ) (b o x : List ℕ) →
    d ≡ Write op n →
    (write_reply m b op n ≡ words_reply m b x d) ×
    (o ≡ flash_frame_output m b o x d) ×
    (x ≡ flash_frame_memory m b x d)
unfolding words_reply flash_frame_output flash_frame_memory read_output
a_write m d op n b o x e = (rw e, rw e, rw e)

pub returns-in_default : goal.returns-in_default
returns-in_default c =
    let start = c.args in
    let k = not-a-write start.m start.d start.b.now start.mem.now (opened c.in_default.in_default-own.keys2) in
    let f = c.flash_frame_reply.ensures in
    (f.0 ∙ k, f.1, f.2)

pub write_reply-requires : goal.write_reply-requires
write_reply-requires c =
    let start = c.args in
    let w = write-bounds start.d c.in-Write.op c.in-Write.n (length start.b.now) (length start.out.now) c.in-Write.is c.requires.2 in
    (c.requires.0, w.0, w.1, w.2)

pub returns : goal.returns
returns c =
    let start = c.args in
    let w = a_write start.m start.d c.in-Write.op c.in-Write.n start.b.now start.out.now start.mem.now c.in-Write.is in
    (c.write_reply.ensures ∙ w.0, w.1, w.2)
