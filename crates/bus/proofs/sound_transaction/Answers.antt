-- `bus::sound_transaction` meets its contract.
use Rattle.device.specs.Call.{transaction}
use Rattle.device.specs.Reply.{reply, output, memory}
use Rattle.device.specs.Parts.{words_reply, flash_frame_output, flash_frame_memory}
use Rattle.device.specs.Model.{is_sound}
use Rattle.device.specs.declared.Model.{Model}
use Rattle.frame.specs.Decoding.{decode_frame}
use Rattle.reply_parts.proofs.Decode.{tail-whole, read_fits_lem, frame-fits, reply-empty, reply-command, reply-other}
use Rattle.frame.specs.contracts.Decoded.{the_type}
use Rattle.frame.specs.declared.Decoded.{Decoded}
use Rattle.frame.specs.declared.Decoded.TheVariants.{Command, Read, Write, Flash, Refused}
use types.Run.{OneOf, miss}
use denote.Enum.Declared.{tag_of}
use mathlib.Core.List.{List, [], ◌∷◌}
use lib.ListN.{length, drop, length-drop}
use mathlib.Core.Bool.{true}
use mathlib.Core.Path.{◌≡◌, sym, ◌∙◌}
use native.Mathlib.Omega.{arith}
use Prim.Native.Nat.{ℕ}
use borrow.Author.Rules.{rules}
use borrow.Enum.Refused.{opened}
use Rattle.bus.proofs.sound_transaction.Goals as goal

-- a frame that is no command, with the bytes after its opcode as a slice has them
rest :
    (m : Model) (f o x : List ℕ) →
    is_sound m ≡ true →
    (d : Decoded) (b : List ℕ) →
    drop 1 f ≡ b →
    decode_frame f (length o) ≡ d →
    ((op : ℕ) → d ≡ Command op → ⊥) →
    (words_reply m b x d ≡ reply m (transaction f o x)) ×
    (flash_frame_output m b o x d ≡ output m (transaction f o x)) ×
    (flash_frame_memory m b x d ≡ memory m (transaction f o x))
rest m f o x s d b t e n = rw (← t) (reply-other m f o x s d e n)

not-a-command : (d : Decoded) → OneOf (1 ∷ 2 ∷ 3 ∷ 4 ∷ []) (tag_of the_type d) → (op : ℕ) → d ≡ Command op → ⊥
not-a-command (Command op) h o e = miss (1 ∷ 2 ∷ 3 ∷ 4 ∷ []) 0 tt h
not-a-command (Read op n) h o e = let z : ◌≡◌ {A = ℕ} 0 1 = cc in omega arith
not-a-command (Write op n) h o e = let z : ◌≡◌ {A = ℕ} 0 1 = cc in omega arith
not-a-command (Flash op) h o e = let z : ◌≡◌ {A = ℕ} 0 1 = cc in omega arith
not-a-command (Refused r) h o e = let z : ◌≡◌ {A = ℕ} 0 1 = cc in omega arith

pub returns-then-is_empty : goal.returns-then-is_empty
returns-then-is_empty c =
    let start = c.args in
    let s : is_sound start.m ≡ true = c.requires in
    let r = reply-empty start.m start.frame.now start.out.now start.mem.now s (search rules) in
    (c.refuse.ensures ∙ r.0, r.1, r.2)

pub words_reply-requires : goal.words_reply-requires
words_reply-requires c =
    let start = c.args in
    let f = start.frame.now in
    let room : ℕ = length start.out.now in (
      c.requires,
      rw c.decode_frame-d.ensures (read_fits_lem f room),
      rw (c.decode_frame-d.ensures, ← tail-whole f, length-drop) (frame-fits f room),
    )

pub returns-in_default : goal.returns-in_default
returns-in_default c =
    let start = c.args in
    let m = start.m in
    let f = start.frame.now in
    let o = start.out.now in
    let x = start.mem.now in
    let s : is_sound m ≡ true = c.requires in
    let d = c.decode_frame-d in
    let w = c.words_reply.ensures in
    let r = rest m f o x s _ _ (tail-whole f) (sym d.ensures) (not-a-command _ (opened c.in_default.in_default-own.keys2)) in
    (w.0 ∙ r.0, w.1 ∙ r.1, w.2 ∙ r.2)

pub returns : goal.returns
returns c =
    let start = c.args in
    let s : is_sound start.m ≡ true = c.requires in
    let r = reply-command start.m start.frame.now start.out.now start.mem.now s c.in-Command.op (sym c.decode_frame-d.ensures ∙ c.in-Command.is) in
    (c.command_reply.ensures ∙ r.0, r.1, r.2)
