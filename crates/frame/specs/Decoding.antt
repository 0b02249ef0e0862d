-- The code's own: rows 1 to 5 of the refusals once more, as a frame is taken apart. Nothing here is to be believed:
-- Decode.antt of reply_parts' proofs equates it with the table.
use Rattle.std.specs.Prelude.{ℕ, ◌-◌, ◌*◌, ◌/◌, List, length, get_or, ltb, eqb}
use Rattle.unit.specs.Choice.{pick}
use Rattle.frame.specs.declared.Decoded.{Decoded}
use Rattle.frame.specs.declared.Decoded.TheVariants.{Command, Read, Write, Flash, Refused}
use Rattle.frame.specs.Frame.{is_command, is_write, is_read, is_flash, flash_further, not_whole, past_end}
use Rattle.refusal.specs.declared.Refusal.{Refusal}

-- What decoding answers: numbers 1 to 5 of the refusals, or the request.
unfoldable pub write_frame : ℕ → ℕ → Decoded
write_frame op further =
    pick (not_whole further) (Refused Refusal.FrameLength) (pick (past_end op (further / 2) 0x44) (Refused Refusal.Address) (Write op (further / 2)))

unfoldable pub read_frame : ℕ → ℕ → ℕ → Decoded
read_frame op further room =
    pick (not_whole further) (Refused Refusal.FrameLength)
    (pick (past_end op (further / 2) 0x100) (Refused Refusal.Address)
    (pick (ltb room (2 * (further / 2))) (Refused Refusal.ShortOutput) (Read op (further / 2))))

-- "3 is given exactly for a length other than five bytes, for erase three"; "5 for a flash read with an output below two bytes"
-- (Note 8)
unfoldable pub flash_frame : ℕ → ℕ → ℕ → Decoded
flash_frame op further room =
    pick (eqb further (flash_further op)) (pick (eqb op 0x90) (pick (ltb room 2) (Refused Refusal.ShortOutput) (Flash op)) (Flash op)) (Refused Refusal.FrameLength)

unfoldable pub decode_frame : List ℕ → ℕ → Decoded
decode_frame f room =
    pick (eqb (length f) 0) (Refused Refusal.NoFrame)
    (pick (is_command (get_or f 0 0)) (pick (eqb (length f - 1) 0) (Command (get_or f 0 0)) (Refused Refusal.FrameLength))
    (pick (is_write (get_or f 0 0)) (write_frame (get_or f 0 0) (length f - 1))
    (pick (is_flash (get_or f 0 0)) (flash_frame (get_or f 0 0) (length f - 1) room)
    (pick (is_read (get_or f 0 0)) (read_frame (get_or f 0 0) (length f - 1) room) (Refused Refusal.Opcode)))))
