-- `bus::read_reply` meets its contract.
use Rattle.reply_parts.proofs.Decode.{read-bounds}
use Rattle.device.specs.Reply.{refuse}
use Rattle.device.specs.Parts.{accept, refusal_of}
use Rattle.device.specs.Bus.{read_model}
use Rattle.device.specs.Registers.{fill_words}
use Rattle.device.specs.declared.Model.{Model}
use Rattle.refusal.specs.declared.Refusal.{Refusal}
use Rattle.frame.specs.contracts.Decoded.{the_type}
use Rattle.frame.specs.declared.Decoded.TheVariants.{Command, Read, Write, Flash, Refused}
use Rattle.frame.specs.declared.Decoded.{Decoded}
use types.Run.{OneOf, miss}
use denote.Enum.Declared.{tag_of}
use lib.ListN.{length}
use mathlib.Core.List.{List, [], ◌∷◌}
use mathlib.Core.Bool.{false}
use mathlib.Core.Path.{◌≡◌, refl, ◌∙◌, ap}
use Prim.Native.Nat.{ℕ}
use Rattle.device.specs.Parts.{read_reply, read_output}
use borrow.Enum.Refused.{opened}
use Rattle.bus.proofs.read_reply.Goals as goal

-- what decoding gives but a read: the refusal's number, and nothing written
not-a-read :
    (m : Model) (d : Decoded) (o : List ℕ) →
    OneOf (0 ∷ 2 ∷ 3 ∷ 4 ∷ []) (tag_of the_type d) →
    (refuse (refusal_of d) m ≡ read_reply m d) × (o ≡ read_output m d o)
unfolding read_reply read_output refusal_of
not-a-read m (Command op) o h = (refl, refl)
not-a-read m (Read op n) o h = absurd (miss (0 ∷ 2 ∷ 3 ∷ 4 ∷ []) 1 tt h)
not-a-read m (Write op n) o h = (refl, refl)
not-a-read m (Flash op) o h = (refl, refl)
not-a-read m (Refused r) o h = (refl, refl)

-- a read: the registers' words written
a_read :
    (m : Model) (d : Decoded) (op n : ℕ) (o : List ℕ) →
    d ≡ Read op n →
    (accept false false (read_model m op n) ≡ read_reply m d) × (fill_words m op o n ≡ read_output m d o)
unfolding read_reply read_output
a_read m d op n o e = (rw e, rw e)

pub returns-in_default : goal.returns-in_default
returns-in_default c =
    let start = c.args in
    let other = not-a-read start.m start.d start.out.now (opened c.in_default.in_default-own.keys2) in
    (c.refuse.ensures ∙ ap (λ (r : Refusal). refuse r start.m) c.refusal_of.ensures ∙ other.0, other.1)

pub fill_words-requires : goal.fill_words-requires
fill_words-requires c =
    let start = c.args in
    let b = read-bounds start.d c.in-Read.op c.in-Read.n (length start.out.now) c.in-Read.is c.requires.1 in
    (c.requires.0, b.0, b.1, b.2)

pub read_model-requires : goal.read_model-requires
read_model-requires c =
    let start = c.args in
    let b = read-bounds start.d c.in-Read.op c.in-Read.n (length start.out.now) c.in-Read.is c.requires.1 in
    b.1

pub returns : goal.returns
returns c =
    let start = c.args in
    let r = a_read start.m start.d c.in-Read.op c.in-Read.n start.out.now c.in-Read.is in
    (c.accept.ensures ∙ ap (accept false false) c.read_model.ensures ∙ r.0, c.fill_words.ensures ∙ r.1)
