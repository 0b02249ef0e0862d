-- Bytes that hold no sound model: every call on them is number 0, and changes nothing. Assumes nothing.
use Prim.Native.Nat.{ℕ}
use mathlib.Core.Bool.{false}
use mathlib.Core.List.{List}
use mathlib.Core.Path.{◌≡◌, refl, ◌∙◌}
use Rattle.device.specs.Model.{is_sound}
use Rattle.device.specs.Call.{Call, transaction, verdict, table, first_of}
use Rattle.device.specs.Reply.{reply, reply_by, output, output_by, buffer_of, memory, memory_by, memory_of}
use Rattle.layout.specs.Layout.{loaded}
use Rattle.layout.specs.Code.{Settled, code_of, words_of, model_after}

module _ (bytes : List ℕ) (unsound : is_sound (loaded bytes) ≡ false) where
  -- the code, the model's bytes and the words of the answer
  pub number-zero : (c : Call) {words words' bytes' : List ℕ} {code : ℕ} → Settled (reply (loaded bytes) c) bytes words code bytes' words'
      → (code ≡ 0) × (bytes' ≡ bytes) × (words' ≡ words)
  unfolding reply reply_by verdict table first_of code_of words_of model_after
  number-zero c s = (rw unsound at s.number, rw unsound at s.model, rw unsound at s.answer)

  -- and of a transaction the output and the user flash
  pub nothing-moved : (frame out flash : List ℕ)
      → (output (loaded bytes) (transaction frame out flash) ≡ out) × (memory (loaded bytes) (transaction frame out flash) ≡ flash)
  unfolding output output_by buffer_of memory memory_by memory_of verdict table first_of
  nothing-moved frame out flash = rw unsound (refl, refl)
