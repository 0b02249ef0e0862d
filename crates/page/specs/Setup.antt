-- The rows of the set-up. Assumes nothing.
use Rattle.std.specs.Prelude.{ℕ, ◌+◌, ◌*◌, ◌/◌, ◌%◌, min, cond, List, [], ◌∷◌, ◌++◌, eqb}
use Rattle.unit.specs.Bits.{bits, is_set}
use Rattle.setup.specs.Table11.{stop_row, timeout_row}
use Rattle.numeral.specs.Print.{decimal}
use Rattle.device.specs.declared.Model.{Model}
use Rattle.numeral.specs.Ascii.{ascii}
use Rattle.wording.specs.Wording.{Texts, counted, reported_where}
use Rattle.item_state.specs.Told.{read_word}
use Rattle.page.specs.Row.{register_row, stored_row, plural, binary}

-- "PL, pulses | 0 is refused"; at most 127 are launched
unfoldable pub pulses : ℕ → Texts
pulses pl = cond (eqb pl 0) (ascii " PL off" ∷ []) (ascii " PL " ∷ plural (min pl 127) (ascii " pulse"))

-- "DPL, frequency | 2 MHz ÷ (DPL + 1); 0 is refused"
unfoldable pub divider : ℕ → Texts
divider dpl = cond (eqb dpl 0) (ascii ", DPL reserved" ∷ []) (ascii ", DPL 2 MHz / " ∷ decimal (dpl + 1) ∷ [])

unfoldable pub tof1_row : ℕ → Texts
tof1_row w = register_row (ascii "B8     TOF1                     ") w (pulses (bits 15 8 w) ++ divider (bits 7 4 w))

-- "STOP, hits H in each direction", "TIMOUT k": the data sheet's tables
unfoldable pub tof2_row : ℕ → Texts
tof2_row w =
    register_row (ascii "B9     TOF2                     ") w
    (ascii " STOP "
    ∷ (plural (stop_row (bits 15 13 w)) (ascii " hit")
    ++ (ascii ", TIMOUT " ∷ counted (timeout_row (bits 2 0 w)) (ascii " us"))))

-- "differences of an event each P = 16,384 × (TDF + 1) ticks: 0.5 s to 8 s": half seconds
unfoldable pub half_seconds : ℕ → Texts
half_seconds n = decimal (n / 2) ∷ ascii "." ∷ decimal (n % 2 * 5) ∷ []

-- "N = TDM + 1 differences"; "temperatures each P = 32,768 × (TMF + 1) ticks: 1 s to 64 s"
unfoldable pub timing1_row : ℕ → Texts
timing1_row w =
    register_row (ascii "BF     Event Timing 1           ") w
    (ascii " TDF "
    ∷ (half_seconds (bits 15 12 w + 1)
    ++ (ascii " s, TDM "
    ∷ (plural (bits 11 7 w + 1) (ascii " cycle") ++ (ascii ", TMF " ∷ counted (bits 6 1 w + 1) (ascii " s"))))))

-- "N = TMM + 1 temperatures"; TP; "PORTCYC | .. 128 µs .., 256 µs .., 384 µs .., 512 µs"
unfoldable pub timing2_row : ℕ → Texts
timing2_row w =
    register_row (ascii "C0     Event Timing 2           ") w
    (ascii " TMM "
    ∷ (plural (bits 15 11 w + 1) (ascii " cycle")
    ++ (ascii ", TP "
    ∷ (binary (bits 6 5 w) ++ (ascii ", PORTCYC " ∷ counted (128 * (bits 1 0 w + 1)) (ascii " us"))))))

-- INT_EN, ET_CONT and CONT_INT by name, where they are set
unfoldable pub control_row : ℕ → Texts
control_row w =
    register_row (ascii "C2     Calibration and Control  ") w
    (reported_where (is_set 9 w) (ascii " INT_EN")
    ++ (reported_where (is_set 8 w) (ascii " ET_CONT")
    ++ (reported_where (is_set 7 w) (ascii " CONT_INT") ++ reported_where (eqb (bits 9 7 w) 0) (ascii " none"))))

-- "EOSC | 1: the clock stands"; AM
unfoldable pub clock_state : ℕ → List ℕ
clock_state eosc = cond (eqb eosc 1) (ascii " EOSC 1 clock stands, AM ") (ascii " EOSC 0 clock runs, AM ")

unfoldable pub oscillator_row : ℕ → Texts
oscillator_row w =
    register_row (ascii "C3     Real-Time Clock          ") w (clock_state (bits 4 4 w) ∷ binary (bits 3 2 w))

unfoldable pub setup_rows : Model → List Texts
setup_rows m =
    (ascii "CONFIGURATION REGISTERS" ∷ [])
    ∷ stored_row (ascii "B6     Reserved                 ") (read_word m 0xB6)
    ∷ stored_row (ascii "B7     Reserved                 ") (read_word m 0xB7)
    ∷ tof1_row (read_word m 0xB8)
    ∷ tof2_row (read_word m 0xB9)
    ∷ stored_row (ascii "BA     TOF3                     ") (read_word m 0xBA)
    ∷ stored_row (ascii "BB     TOF4                     ") (read_word m 0xBB)
    ∷ stored_row (ascii "BC     TOF5                     ") (read_word m 0xBC)
    ∷ []

unfoldable pub more_setup_rows : Model → List Texts
more_setup_rows m =
    stored_row (ascii "BD     TOF6                     ") (read_word m 0xBD)
    ∷ stored_row (ascii "BE     TOF7                     ") (read_word m 0xBE)
    ∷ timing1_row (read_word m 0xBF)
    ∷ timing2_row (read_word m 0xC0)
    ∷ stored_row (ascii "C1     TOF Measurement Delay    ") (read_word m 0xC1)
    ∷ control_row (read_word m 0xC2)
    ∷ oscillator_row (read_word m 0xC3)
    ∷ []
