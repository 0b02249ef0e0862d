-- "reading it clears it after the word is taken": which reads take the interrupt status.
use Prim.Native.Nat.{ℕ, ◌+◌, ◌-◌, ◌≤◌, ◌<◌}
use native.Mathlib.Omega.{arith}
use mathlib.Core.Path.{◌≡◌}
use borrow.Author.Tests.{lt-ltb, le-ltb, le-leb, lt-leb}
use Rattle.device.specs.declared.Model.{Model}
use Rattle.device.specs.Status.{no_bits}
use Rattle.device.specs.Model.{with_status}
use Rattle.device.specs.Bus.{read_model}

-- "FEh is the interrupt status; reading it clears it": a read of n registers from a on, over FEh, before it and past it
pub read-clears : (m : Model) (a n : ℕ) → a ≤ 0xFE → 0xFE < a + n → read_model m a n ≡ with_status m no_bits
unfolding read_model
read-clears m a n h l = rw (le-ltb 0xFE a h, lt-leb (a + n) 0xFE l)

pub read-before : (m : Model) (a n : ℕ) → a + n ≤ 0xFE → read_model m a n ≡ m
unfolding read_model
read-before m a n h = rw (le-ltb 0xFE a (omega arith), le-leb (a + n) 0xFE h)

pub read_past : (m : Model) (a n : ℕ) → 0xFE < a → read_model m a n ≡ m
unfolding read_model
read_past m a n h = rw (lt-ltb 0xFE a h)
