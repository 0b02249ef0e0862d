-- The frames of lines, as they stand in their buffers. Assumes nothing.
use Prim.Native.Nat.{ℕ, zero, suc, ◌+◌, ◌*◌, ◌/◌, ◌%◌, ◌≤◌}
use mathlib.Core.Bool.{Bool, true, false}
use mathlib.Core.List.{List, [], ◌∷◌, ◌++◌}
use mathlib.Core.Path.{◌≡◌, refl, ap, ◌∙◌}
use native.Mathlib.Nat.{zero-add}
use native.Mathlib.Omega.{arith}
use lib.Dec.{leb, eqb}
use lib.ListN.{length, take, drop, replicate}
use lib.Seq.{take-append_seam}
use Rattle.unit.specs.Choice.{pick}
use Rattle.numeral.specs.Place.{overwrite, Put}
use Rattle.numeral.specs.Print.{low_bytes}
use Rattle.text.specs.OwnPut.{Puts}
use Rattle.text.proofs.Putting.{puts, puts_first}
use Rattle.item_line.specs.Line.{Output, Call}
use Rattle.item_line.specs.OwnBounds.{Below, OutputBound, CallBound}
use Rattle.item_answer.specs.Answer.{frame_size, size_of, word_bytes}
use Rattle.item_chip_code.specs.OwnFrame.{low_word_bytes}

-- What is put at a buffer's front are its first bytes.
front : (l bs : List ℕ) → take (0 + length bs) (overwrite l 0 bs) ≡ bs
unfolding overwrite
front l bs = rw zero-add (take-append_seam bs (drop (length bs) l))

pub frame-of : {l l' bs : List ℕ} {r : ℕ} → length bs ≤ length l → Puts l 0 bs r l' → take r l' ≡ bs
frame-of {l} {l'} {bs} {r} room put =
    let fits : 0 + length bs ≤ length l = omega arith in rw (put.next fits, put.bytes fits) (front l bs)

-- Bytes are their own low bytes.
pub low_same : {bs : List ℕ} → Below 256 bs → low_bytes bs ≡ bs
unfolding low_bytes
low_same Below.none = refl
low_same (Below.more {x} {xs} small below) = let same : x % 256 ≡ x = omega arith in rw (same, low_same below)

-- So are words of 16 bits.
words_same : {ws : List ℕ} → Below 65536 ws → low_word_bytes ws ≡ word_bytes ws
unfolding low_word_bytes word_bytes
words_same Below.none = refl
words_same (Below.more {x} {xs} small below) = let same : x / 256 % 256 ≡ x / 256 = omega arith in rw (same, words_same below)

length-words : (ws : List ℕ) → length (word_bytes ws) ≡ 2 * length ws
unfolding word_bytes
length-words [] = refl
length-words (w ∷ ws) = omega (arith, length-words ws)

-- The frame of a line `set`.
pub set-bytes : {a : ℕ} {ws : List ℕ} → CallBound (Call.set a ws)
    → (low_bytes (a ∷ []) ++ low_word_bytes ws ≡ a ∷ word_bytes ws) × (length (a ∷ word_bytes ws) ≤ 200)
unfolding low_bytes
set-bytes {a} {ws} (CallBound.set low high below some most) =
    let same : a % 256 ≡ a = omega arith in (rw (same, words_same below), omega (arith, length-words ws))

-- Places of a buffer that holds one value.
pub take-replicate : (n k v : ℕ) → n ≤ k → take n (replicate k v) ≡ replicate n v
take-replicate zero k v h = refl
take-replicate (suc n) zero v h = absurd (omega arith)
take-replicate (suc n) (suc k) v h = ap (λ (t : List ℕ). v ∷ t) (take-replicate n k v (omega arith))

pick-most : (b : Bool) {x y k : ℕ} → x ≤ k → y ≤ k → pick b x y ≤ k
pick-most true p q = p
pick-most false p q = q

frame-fits : (frame : List ℕ) → length frame ≤ 200 → frame_size frame ≤ 200
unfolding frame_size
frame-fits [] h = omega arith
frame-fits (op ∷ further) h =
    pick-most (leb 0xB0 op) (omega (arith, h)) (pick-most (eqb op 0x90) (omega arith) (omega arith))

-- The frame of a line `bus`, and its output buffer.
pub record BusFits (o : Output) (bytes : List ℕ) : Type 0 where
  pub same : low_bytes bytes ≡ bytes
  pub short : length bytes ≤ 200
  pub size : size_of o bytes ≤ 200

output-fits : {o : Output} (bytes : List ℕ) → length bytes ≤ 200 → OutputBound o → size_of o bytes ≤ 200
unfolding size_of
output-fits bytes h OutputBound.by_frame = frame-fits bytes h
output-fits bytes h (OutputBound.out_of most) = most

pub bus-fits : {o : Output} {bytes : List ℕ} → CallBound (Call.bus o bytes) → BusFits o bytes
bus-fits {o} {bytes} (CallBound.bus most below short) =
    record { same = low_same below; short = short; size = output-fits bytes short most }

-- The buffers of 200 bytes, before anything is put.
abbrev pub zeros : List ℕ
zeros = replicate 200 0

abbrev filled : List ℕ
filled = replicate 200 0xEE

-- In their buffers.
pub record BusSet (o : Output) (bytes frame : List ℕ) (size : ℕ) : Type 0 where
  pub frame_is : frame ≡ bytes
  pub short : size ≤ 200
  pub out : take size filled ≡ replicate (size_of o bytes) 0xEE

pub bus-set : {o : Output} {bytes words frame l' : List ℕ} {k size : ℕ} → CallBound (Call.bus o bytes) → words ≡ bytes
    → Put zeros 0 (low_bytes words) k l' → frame ≡ take k l' → size ≡ size_of o frame → BusSet o bytes frame size
bus-set {o} {bytes} {words} {frame} {l'} {k} {size} bound same put there long =
    let b = bus-fits bound in
    let all : low_bytes words ≡ bytes = rw same b.same in
    let room : length (low_bytes words) ≤ length zeros = rw all b.short in
    let is : frame ≡ bytes = there ∙ (frame-of room (puts put) ∙ all) in
    let fit : size ≡ size_of o bytes = long ∙ ap (size_of o) is in
    record { frame_is = is; short = rw fit b.size; out = rw fit (take-replicate (size_of o bytes) 200 0xEE b.size) }

pub set-frame : {a : ℕ} {ws words frame l l' : List ℕ} {first k : ℕ} → CallBound (Call.set a ws) → words ≡ ws
    → Put zeros 0 (low_bytes (a ∷ [])) first l → Puts l first (low_word_bytes words) k l' → frame ≡ take k l'
    → frame ≡ a ∷ word_bytes ws
set-frame {a} {ws} {words} {frame} {l} {l'} {first} {k} bound same address put there =
    let (all, short) = set-bytes bound in
    let rest : Puts l first (low_word_bytes ws) k l' = rw (← same) put in
    let text : low_bytes (a ∷ []) ++ low_word_bytes ws ≡ a ∷ word_bytes ws = all in
    let room : length (low_bytes (a ∷ []) ++ low_word_bytes ws) ≤ length zeros = rw text short in
    there ∙ (frame-of room (puts_first address rest) ∙ text)
