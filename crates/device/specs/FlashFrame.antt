-- The frames of the user flash. Quotations are from Note 8 of the change requests. `b` is the frame from its second byte, `x` the
-- memory that the call is lent.
use Rattle.std.specs.Prelude.{ℕ, Bool, List, eqb}
use Rattle.device.specs.Base.{pick, both, word_at, flash_word, flash_written, flash_erased, first_word}
use Rattle.device.specs.Base.{address_refused, erase_refused, not_erased, Model}
use Rattle.device.specs.Status.{joined, flash_bit}
use Rattle.device.specs.Model.{with_status}

-- "Each flash frame has a two-byte address, then one word for write or two filler bytes for read."
unfoldable pub flash_address : List ℕ → ℕ
flash_address b = word_at b 0

unfoldable pub flash_data : List ℕ → ℕ
flash_data b = word_at b 1

-- "16 flash address for a memory of another size, an odd address in a read or write, or one above 1FFFh"
unfoldable pub flash_unreachable : ℕ → ℕ → ℕ → Bool
flash_unreachable op size a = pick (eqb op 0x13) (erase_refused size a) (address_refused size a)

-- "17 not erased for a write on another word"; "A write lands only on FFFFh."
unfoldable pub flash_unerased : ℕ → List ℕ → ℕ → Bool
flash_unerased op x a = both (eqb op 0x10) (not_erased x a)

-- "a write or erase sets bit 7"
unfoldable pub flash_model : Model → ℕ → Model
flash_model m op = pick (eqb op 0x90) m (with_status m (joined m.status flash_bit))

-- "5 for a flash read with an output below two bytes, of which it fills the first two"
unfoldable pub flash_output : ℕ → List ℕ → List ℕ → List ℕ → List ℕ
flash_output op b o x = pick (eqb op 0x90) (first_word o (flash_word x (flash_address b))) o

-- "A write lands only on FFFFh. Erase sets the block holding the address to FFFFh"
unfoldable pub flash_memory : ℕ → List ℕ → List ℕ → List ℕ
flash_memory op b x =
    pick (eqb op 0x10) (flash_written x (flash_address b) (flash_data b))
    (pick (eqb op 0x13) (flash_erased x (flash_address b)) x)
