-- The call that makes a model.
use Rattle.std.specs.Prelude.{ℕ, List, length, eqb}
use Rattle.unit.specs.Choice.{pick}
use Rattle.device.specs.Model.{fresh_model}
use Rattle.layout.specs.Layout.{stored}
use Rattle.layout.specs.Code.{accepted}

-- A fresh model, in a buffer of 233 bytes and in no other.
unfoldable pub fresh_code : List ℕ → ℕ
fresh_code bytes = pick (eqb (length bytes) 233) accepted 0

unfoldable pub fresh_bytes : List ℕ → List ℕ
fresh_bytes bytes = pick (eqb (length bytes) 233) (stored fresh_model) bytes
