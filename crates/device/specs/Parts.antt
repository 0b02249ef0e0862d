-- The code's own: the parts of a sound model's replies, as the code takes them apart. Nothing here is to be believed: the laws of
-- `reply_parts` equate them with `reply`, `output` and `memory`.
use Rattle.std.specs.Prelude.{ℕ, ◌+◌, ◌*◌, Bool, true, false, List, length, leb, eqb}
use Rattle.device.specs.Base.{pick, both, negate, hit_count, Decoded}
use Rattle.device.specs.Base.{Command, Read, Write, Flash, Refused, Model, Reply, Accepted, flash_word, flash_written}
use Rattle.device.specs.Base.{flash_erased, first_word, address_refused, erase_refused, not_erased}
use Rattle.device.specs.Model.{is_sound, is_busy}
use Rattle.device.specs.Registers.{fill_words}
use Rattle.device.specs.Write.{write_invalid, write_model}
use Rattle.device.specs.Delivery.{flight_miscounted}
use Rattle.device.specs.FlashFrame.{flash_address, flash_data, flash_model}
use Rattle.device.specs.Bus.{starts_flight, starts_temperature, command_busy, before_initialize, command_unset, run_model, read_model}
use Rattle.device.specs.Call.{further, flight, temperature}
use Rattle.device.specs.Reply.{accepted_answer, accepted_model, refuse}
use Rattle.refusal.specs.declared.Refusal.{Refusal}

-- The parts of a sound model's replies, as the code has them.
abbrev pub accept : Bool → Bool → Model → Reply
accept f t m = record { answer = Accepted f t; model = m }

unfoldable pub command_reply : Model → ℕ → Reply
command_reply m op =
    pick (command_busy m op) (refuse Refusal.Busy m)
    (pick (before_initialize m op) (refuse Refusal.NotInitialised m)
    (pick (command_unset m op) (refuse Refusal.SetUp m) (accept (starts_flight op) (starts_temperature op) (run_model m op))))

unfoldable pub write_reply : Model → List ℕ → ℕ → ℕ → Reply
write_reply m bytes op n =
    pick (is_busy m) (refuse Refusal.Busy m)
    (pick (write_invalid bytes op n m) (refuse Refusal.Calendar m) (accept false false (write_model bytes op n m)))

-- A flash frame whose length and output are right: by its opcode, the bytes `b` after it, the output and the memory lent.
unfoldable pub erase_reply : Model → List ℕ → List ℕ → Reply
erase_reply m b x =
    pick (erase_refused (length x) (flash_address b)) (refuse Refusal.FlashAddress m) (accept false false (flash_model m 0x13))

unfoldable pub erase_left : List ℕ → List ℕ → List ℕ
erase_left b x = pick (erase_refused (length x) (flash_address b)) x (flash_erased x (flash_address b))

unfoldable pub program_reply : Model → List ℕ → List ℕ → Reply
program_reply m b x =
    pick (address_refused (length x) (flash_address b)) (refuse Refusal.FlashAddress m)
    (pick (not_erased x (flash_address b)) (refuse Refusal.NotErased m) (accept false false (flash_model m 0x10)))

unfoldable pub program_left : List ℕ → List ℕ → List ℕ
program_left b x =
    pick (address_refused (length x) (flash_address b)) x
    (pick (not_erased x (flash_address b)) x (flash_written x (flash_address b) (flash_data b)))

unfoldable pub load_reply : Model → List ℕ → List ℕ → Reply
load_reply m b x = pick (address_refused (length x) (flash_address b)) (refuse Refusal.FlashAddress m) (accept false false m)

unfoldable pub load_out : List ℕ → List ℕ → List ℕ → List ℕ
load_out b o x =
    pick (address_refused (length x) (flash_address b)) o (first_word o (flash_word x (flash_address b)))

unfoldable pub flash_reply : Model → ℕ → List ℕ → List ℕ → Reply
flash_reply m op b x =
    pick (is_busy m) (refuse Refusal.Busy m)
    (pick m.regulator
    (pick (eqb op 0x13) (erase_reply m b x) (pick (eqb op 0x10) (program_reply m b x) (load_reply m b x)))
    (refuse Refusal.SupplyOff m))

unfoldable pub flash_out : Model → ℕ → List ℕ → List ℕ → List ℕ → List ℕ
flash_out m op b o x =
    pick (is_busy m) o (pick m.regulator (pick (eqb op 0x13) o (pick (eqb op 0x10) o (load_out b o x))) o)

unfoldable pub flash_left : Model → ℕ → List ℕ → List ℕ → List ℕ
flash_left m op b x =
    pick (is_busy m) x
    (pick m.regulator (pick (eqb op 0x13) (erase_left b x) (pick (eqb op 0x10) (program_left b x) x)) x)

unfoldable pub flash_fits : ℕ → ℕ → ℕ → Bool
flash_fits op further room =
    pick (eqb op 0x13) (leb 2 further) (pick (eqb op 0x10) (leb 4 further) (both (leb 2 further) (leb 2 room)))

-- The refusal that decoding found. Of what is none it is asked for nothing; the opcode's stands there.
unfoldable pub refusal_of : Decoded → Refusal
refusal_of (Command op) = Refusal.Opcode
refusal_of (Read op n) = Refusal.Opcode
refusal_of (Write op n) = Refusal.Opcode
refusal_of (Flash op) = Refusal.Opcode
refusal_of (Refused r) = r

unfoldable pub read_fits : Decoded → ℕ → Bool
read_fits (Command op) room = true
read_fits (Read op n) room = both (leb 0xB0 op) (both (leb (op + n) 0x100) (leb (2 * n) room))
read_fits (Write op n) room = true
read_fits (Flash op) room = true
read_fits (Refused r) room = true

-- What the bytes after the opcode of a decoded write or flash frame have room for.
unfoldable pub frame_fits : Decoded → ℕ → ℕ → Bool
frame_fits (Command op) further room = true
frame_fits (Read op n) further room = true
frame_fits (Write op n) further room = both (leb 0x30 op) (both (leb (op + n) 0x44) (leb (2 * n) further))
frame_fits (Flash op) further room = flash_fits op further room
frame_fits (Refused r) further room = true

unfoldable pub read_reply : Model → Decoded → Reply
read_reply m (Command op) = refuse Refusal.Opcode m
read_reply m (Read op n) = accept false false (read_model m op n)
read_reply m (Write op n) = refuse Refusal.Opcode m
read_reply m (Flash op) = refuse Refusal.Opcode m
read_reply m (Refused r) = refuse r m

unfoldable pub read_output : Model → Decoded → List ℕ → List ℕ
read_output m (Command op) out = out
read_output m (Read op n) out = fill_words m op out n
read_output m (Write op n) out = out
read_output m (Flash op) out = out
read_output m (Refused r) out = out

-- What a frame that is no command asks for, as the code takes it apart: a write, else a flash frame, else a read or a refusal.
unfoldable pub flash_frame_reply : Model → List ℕ → List ℕ → Decoded → Reply
flash_frame_reply m b x (Command op) = read_reply m (Command op)
flash_frame_reply m b x (Read op n) = read_reply m (Read op n)
flash_frame_reply m b x (Write op n) = read_reply m (Write op n)
flash_frame_reply m b x (Flash op) = flash_reply m op b x
flash_frame_reply m b x (Refused r) = read_reply m (Refused r)

unfoldable pub flash_frame_output : Model → List ℕ → List ℕ → List ℕ → Decoded → List ℕ
flash_frame_output m b o x (Command op) = read_output m (Command op) o
flash_frame_output m b o x (Read op n) = read_output m (Read op n) o
flash_frame_output m b o x (Write op n) = read_output m (Write op n) o
flash_frame_output m b o x (Flash op) = flash_out m op b o x
flash_frame_output m b o x (Refused r) = read_output m (Refused r) o

unfoldable pub flash_frame_memory : Model → List ℕ → List ℕ → Decoded → List ℕ
flash_frame_memory m b x (Command op) = x
flash_frame_memory m b x (Read op n) = x
flash_frame_memory m b x (Write op n) = x
flash_frame_memory m b x (Flash op) = flash_left m op b x
flash_frame_memory m b x (Refused r) = x

unfoldable pub words_reply : Model → List ℕ → List ℕ → Decoded → Reply
words_reply m b x (Command op) = flash_frame_reply m b x (Command op)
words_reply m b x (Read op n) = flash_frame_reply m b x (Read op n)
words_reply m b x (Write op n) = write_reply m b op n
words_reply m b x (Flash op) = flash_frame_reply m b x (Flash op)
words_reply m b x (Refused r) = flash_frame_reply m b x (Refused r)

unfoldable pub flight_fits : Model → List ℕ → List ℕ → Bool
flight_fits m u d =
    both (is_sound m) (negate (flight_miscounted m.flight (hit_count m.setup) (length u) (length d)))

unfoldable pub flight_reply : Model → List ℕ → List ℕ → Reply
flight_reply m u d = record { answer = accepted_answer m (flight u d); model = accepted_model m (flight u d) }

unfoldable pub temperature_reply : Model → List ℕ → Reply
temperature_reply m w = record { answer = accepted_answer m (temperature w); model = accepted_model m (temperature w) }
