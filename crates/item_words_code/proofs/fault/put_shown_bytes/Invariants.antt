-- `item_words_code::fault::put_shown_bytes` meets its contract: a byte more in each turn.
use mathlib.Core.List.{map}
use lib.ListN.{drop}
use Rattle.item_answer.specs.Words.{shown_byte}
use Rattle.item_words_code.proofs.Turns.{Leads}
use Rattle.item_words_code.proofs.fault.put_shown_bytes.Given as goal

abbrev pub invariant-loop-byte : goal.invariant-loop-byte
invariant-loop-byte l = Leads l.buf l.place (map shown_byte (drop l.byte-index l.bytes)) l.initial.buf l.initial.place (map shown_byte l.bytes)
