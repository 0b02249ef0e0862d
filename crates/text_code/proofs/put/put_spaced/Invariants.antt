-- `text_code::put::put_spaced` meets its contract. The invariant: what is put for the words that are left completes the text.
use Prim.Native.Nat.{ℕ}
use mathlib.Core.List.{List}
use Rattle.text.specs.Text.{words, spaced, spaced_each}
use Rattle.text.specs.OwnPut.{Puts}
use Rattle.text_code.proofs.put.put_spaced.Given as goal

abbrev pub invariant-loop-word : goal.invariant-loop-word
invariant-loop-word l =
    (r : ℕ) (t : List ℕ) → Puts l.buf l.place (spaced_each (words l.word-iterator.rest.now)) r t → Puts l.fn.buf l.at (spaced (words l.s)) r t
