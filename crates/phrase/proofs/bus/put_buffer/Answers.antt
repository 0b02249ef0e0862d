-- `phrase::bus::put_buffer` meets its contract.
-- Assumes nothing.
use Rattle.std.proofs.Common.{◌≡◌, ℕ, List, [], ◌∷◌, length, refl, arith, rules}
use Rattle.numeral.specs.Print.{hex_bytes}
use Rattle.numeral.specs.Ascii.{ascii}
use Rattle.wording.specs.Wording.{output_buffer}
use Rattle.wording.proofs.Each.{put-none, put_one, put_first}
use Rattle.phrase.proofs.bus.put_buffer.Goals as goal

empty : (bs : List ℕ) → length bs ≡ 0 → output_buffer bs ≡ []
unfolding output_buffer
empty [] h = refl
empty (b ∷ bs) h = absurd (omega arith)

full : (bs : List ℕ) → (length bs ≡ 0 → ⊥) → output_buffer bs ≡ ascii " out " ∷ hex_bytes bs ∷ []
unfolding output_buffer
full [] h = absurd (h refl)
full (b ∷ bs) h = refl

pub returns-then-buffer-eq0 : goal.returns-then-buffer-eq0
returns-then-buffer-eq0 c = rw (empty _ c.if-buffer-eq0.true) (put-none _ _)

pub returns : goal.returns
unfolding ascii
returns c = rw (full _ c.if-buffer-eq0.false) (put_first c.put_text-start.ensures (put_one c.put_hex_bytes.ensures))
