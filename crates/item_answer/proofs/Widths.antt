-- Every line keeps an item's registers words of 16 bits, its flash bytes, and its probe table's entries words of 32 bits. Assumes nothing.
use Prim.Native.Nat.{ℕ, zero, suc, ◌+◌, ◌<◌}
use native.Mathlib.Omega.{arith}
use mathlib.Core.List.{List, [], ◌∷◌, ◌++◌}
use lib.Dec.{eqb}
use lib.ListN.{drop, length-replicate}
use Rattle.unit.proofs.Cases.{by-test}
use Rattle.frame.specs.Frame.{is_command, is_write, is_flash}
use Rattle.flash.specs.Flash.{erased_from, flash_written, flash_erased}
use Rattle.device.specs.declared.Model.{Model}
use Rattle.device.specs.Registers.{register_word}
use Rattle.device.specs.FlashFrame.{flash_memory}
use Rattle.device.specs.Call.{Call as ChipCall, opcode, Verdict, accepted, refused, verdict}
use Rattle.device.specs.Reply.{accepted_memory, memory_of, memory_by, memory}
use Rattle.register_words.specs.Words.{EachBelow, Array, Words}
use Rattle.register_words.proofs.Arrays.{set-array}
use Rattle.register_words.proofs.Registers.{register-small}
use Rattle.register_words.proofs.Kept.{fresh-words, keeps-words}
use Rattle.text.specs.Text.{Text}
use Rattle.item_line.specs.OwnBounds.{Below}
use Rattle.item_answer.specs.Answer.{Item, fresh_item, transacted}
use Rattle.item_answer.specs.Step.{step}
use Rattle.item_answer.specs.OwnKept.{Kept}
use Rattle.item_answer.proofs.EachLine.{Keeps, same_bytes, step_keeps}

pub record Widths (i : Item) : Type 0 where
  pub words : Words i.model
  pub flash : Array 8192 256 i.flash
  pub entries : Below 4294967296 i.probes

-- So every register reads a word of 16 bits, as `read-words` asks.
pub registers-small : (i : Item) → Kept i → Widths i → (a : ℕ) → register_word i.model a < 65536
registers-small i k w a = register-small i.model w.words k.sound a

pub fresh-widths : Widths fresh_item
unfolding fresh_item
fresh-widths = record {
  words = fresh-words;
  flash = record { long = length-replicate {A = ℕ} 8192 0xFF; below = same_bytes 8192 0xFF (omega arith) };
  entries = Below.none;
}

-- ---- the flash

erase-bytes : (x : List ℕ) (start n : ℕ) → Array 8192 256 x → Array 8192 256 (erased_from x start n)
unfolding erased_from
erase-bytes x start zero a = a
erase-bytes x start (suc n) a = set-array 8192 256 (erased_from x start n) (start + n) 0xFF (omega arith) (erase-bytes x start n a)

flash-bytes : (op : ℕ) (b x : List ℕ) → Array 8192 256 x → Array 8192 256 (flash_memory op b x)
unfolding flash_memory flash_written flash_erased
flash-bytes op b x a =
    by-test (eqb op 0x10)
    (λ e. rw e (set-array 8192 256 _ _ _ (omega arith) (set-array 8192 256 x _ _ (omega arith) a)))
    (λ e. by-test (eqb op 0x13) (λ f. rw (e, f) (erase-bytes x _ _ a)) (λ f. rw (e, f) a))

memory-bytes : (m : Model) (f o x : List ℕ) → Array 8192 256 x → Array 8192 256 (memory m (ChipCall.transaction f o x))
unfolding memory memory_by memory_of accepted_memory
memory-bytes m f o x a = go (verdict m (ChipCall.transaction f o x))
  where
    go : (v : Verdict) → Array 8192 256 (memory_by v (ChipCall.transaction f o x))
    go accepted =
        by-test (is_command (opcode f)) (λ e. rw e a)
        (λ e. by-test (is_write (opcode f)) (λ g. rw (e, g) a)
        (λ g. by-test (is_flash (opcode f)) (λ h. rw (e, g, h) (flash-bytes (opcode f) (drop 1 f) x a)) (λ h. rw (e, g, h) a)))
    go (refused n) = a

-- ---- each line

frame-widths : (i : Item) (f o : List ℕ) → EachBelow 256 f → Widths i → Widths (transacted i (ChipCall.transaction f o i.flash))
unfolding transacted
frame-widths i f o b w = record {
  words = keeps-words i.model (ChipCall.transaction f o i.flash) b w.words;
  flash = memory-bytes i.model f o i.flash w.flash;
  entries = w.entries;
}

both_below : (n : ℕ) (xs ys : List ℕ) → Below n xs → Below n ys → Below n (xs ++ ys)
both_below n [] ys Below.none b = b
both_below n (x ∷ xs) ys (Below.more h hs) b = Below.more h (both_below n xs ys hs b)

keeps : Keeps Widths
keeps = record {
  fresh = fresh-widths;
  time = λ i moment w. record { words = w.words; flash = w.flash; entries = w.entries };
  call = λ i c f w. record { words = keeps-words i.model c f w.words; flash = w.flash; entries = w.entries };
  frame = frame-widths;
  entries = λ i ns below few w. record {
    words = w.words;
    flash = w.flash;
    entries = both_below 4294967296 i.probes ns w.entries below;
  };
  quanta = λ i ds small few w. record { words = w.words; flash = w.flash; entries = w.entries };
}

pub step-widths : (number : ℕ) (bytes : Text) (i : Item) → Widths i → Widths (step number bytes i).item
step-widths = step_keeps Widths keeps
