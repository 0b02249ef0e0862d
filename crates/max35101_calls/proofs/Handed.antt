-- What a call hands over, for another text of its answer.
use Prim.Native.Nat.{ℕ}
use mathlib.Core.List.{List}
use mathlib.Core.Path.{◌≡◌, subst}
use Rattle.device.specs.declared.Reply.{Reply}
use Rattle.layout.specs.Code.{Settled}

pub settled-by :
    {r s : Reply} {bytes words bytes' words' : List ℕ} {code : ℕ} → r ≡ s → Settled r bytes words code bytes' words' → Settled s bytes words code bytes' words'
settled-by {bytes = b} {words = w} {bytes' = b'} {words' = w'} {code = n} e h =
    subst (λ (q : Reply). Settled q b w n b' w') e h
