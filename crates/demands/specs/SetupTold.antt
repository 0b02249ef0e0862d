-- The set-up, told from the calls and their answers: each register of 34h to 43h has the word last written to it since Reset.
use Rattle.std.specs.Prelude.{ℕ, ◌-◌, List, map, ◌≡◌, drop, eqb}
use Rattle.device.specs.Base.{pick, factory, word_of, word_at}
use Rattle.device.specs.Model.{fresh_model}
use Rattle.device.specs.Registers.{upwards}
use Rattle.device.specs.Write.{covers}
use Rattle.device.specs.Call.{Call, transaction, tick, flight, temperature, stretch, opcode, words, by_sort}
use Rattle.device.specs.History.{Entry, after, log}
use Rattle.demands.specs.EventHistory.{last_given}

-- The word of register a after an accepted call, by what it was: Reset gives "configuration at the factory values", a write that
-- covers a its own word; "n ≥ 1 words follow, to consecutive registers"; "Reserved bits are kept as written".
unfoldable pub word_given : ℕ → Call → ℕ → ℕ
word_given a (transaction f o x) w =
    by_sort f (pick (eqb (opcode f) 4) (word_of factory a) w)
    (pick (covers (opcode f) (words f) a) (word_at (drop 1 f) (a - opcode f)) w)
    w w
word_given a tick w = w
word_given a (flight u d) w = w
word_given a (temperature p) w = w
word_given a (stretch n) w = w

-- 34h to 43h after a list of calls on a fresh model
unfoldable pub setup_told : List Entry → List ℕ
setup_told es = map (λ (a : ℕ). last_given (word_given a) es (word_of factory a)) (upwards 0x34 16)

-- On a model that grew from a fresh one by any list of calls, refused ones among them, the set-up is the one told.
abbrev pub SetupClaim : Type 0
SetupClaim = (cs : List Call) → (after fresh_model cs).setup ≡ setup_told (log fresh_model cs)
