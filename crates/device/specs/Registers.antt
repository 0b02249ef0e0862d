-- What a read of each register gives, at the read addresses B0h to FFh.
use Rattle.std.specs.Prelude.{ℕ, zero, suc, ◌+◌, ◌-◌, ◌*◌, ◌/◌, ◌%◌, List, [], ◌∷◌, get_or, set, ltb, eqb}
use Rattle.device.specs.Base.{pick, word30, word31}
use Rattle.device.specs.Base.{word32, word33, no_quanta, difference_mean, port_mean, Flight, Temperature, Model}
use Rattle.device.specs.Status.{status_word}

-- "A result pair is an Int register (word ÷ 65,536) and a Frac register (the remainder)"; "Int before Frac as in every
-- pair"
unfoldable pub half : ℕ → ℕ → ℕ
half w place = pick (eqb (place % 2) 0) (w / 65536) (w % 65536)

-- 30h to 33h, read at B0h to B3h
unfoldable pub calendar_word : Model → ℕ → ℕ
calendar_word m a =
    pick (eqb a 0xB0) (word30 m.clock)
    (pick (eqb a 0xB1) (word31 m.clock) (pick (eqb a 0xB2) (word32 m.clock) (word33 m.clock)))

-- "Up results stand at C5h to D2h, down at D4h to E1h .., TOF_DIFF E2h, E3h"; "C4h, D3h .. read 0"; "cycle counts (E4h,
-- EFh) and averages (E5h, E6h; F0h to F7h)"
unfoldable pub flight_word : Flight → ℕ → ℕ
flight_word f a =
    pick (ltb a 0xC5) 0
    (pick (ltb a 0xD3) (half (get_or f.ups ((a - 0xC5) / 2) 0) (a - 0xC5))
    (pick (ltb a 0xD4) 0
    (pick (ltb a 0xE2) (half (get_or f.downs ((a - 0xD4) / 2) 0) (a - 0xD4))
    (pick (ltb a 0xE4) (half f.difference (a - 0xE2))
    (pick (eqb a 0xE4) f.schedule.good (half (difference_mean f.sum f.schedule.good) (a - 0xE5)))))))

-- "four words, T1 to T4 (E7h to EEh)"
unfoldable pub temperature_word : Temperature → ℕ → ℕ
temperature_word t a =
    pick (ltb a 0xEF) (half (get_or t.ports ((a - 0xE7) / 2) 0) (a - 0xE7))
    (pick (eqb a 0xEF) t.schedule.good
    (half (port_mean (get_or t.sums ((a - 0xF0) / 2) no_quanta) t.schedule.good) (a - 0xF0)))

-- "Register w is read at w + 80h"; "F8h to FDh and the Control register FFh read 0"; "FEh is the interrupt status"
unfoldable pub register_word : Model → ℕ → ℕ
register_word m a =
    pick (ltb a 0xB4) (calendar_word m a)
    (pick (ltb a 0xC4) (get_or m.setup (a - 0xB4) 0)
    (pick (ltb a 0xE7) (flight_word m.flight a)
    (pick (ltb a 0xF8) (temperature_word m.temperature a) (pick (eqb a 0xFE) (status_word m.status) 0))))

-- "the first 2n bytes of the output buffer are filled from consecutive registers, the rest of it stays"; "Words go high
-- byte first"
abbrev pub put_word : List ℕ → ℕ → ℕ → List ℕ
put_word out i w = set (set out (2 * i) (w / 256 % 256)) (2 * i + 1) (w % 256)

unfoldable pub fill_words : Model → ℕ → List ℕ → ℕ → List ℕ
fill_words m a out zero = out
fill_words m a out (suc n) = put_word (fill_words m a out n) n (register_word m (a + n))

-- the n addresses from a on
abbrev pub upwards : ℕ → ℕ → List ℕ
upwards a zero = []
upwards a (suc n) = a ∷ upwards (a + 1) n
