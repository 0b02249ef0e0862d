-- `phrase::frames::put_bytes` meets its contract: a byte more in each turn.
use Rattle.std.proofs.Common.{◌≡◌, length, drop}
use Rattle.numeral.specs.Place.{put_each}
use Rattle.wording.specs.Wording.{byte_texts}
use Rattle.phrase.proofs.frames.put_bytes.Given as goal

abbrev pub invariant-loop-byte : goal.invariant-loop-byte
invariant-loop-byte l =
    (length l.out ≡ length l.initial.out) × (put_each l.out l.place (byte_texts (drop l.byte-index l.bytes)) ≡ put_each l.initial.out l.initial.place (byte_texts l.bytes))
