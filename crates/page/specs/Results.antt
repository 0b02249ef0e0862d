-- The rows of the results and of the status. Assumes nothing.
use Rattle.std.specs.Prelude.{ℕ, ◌+◌, ◌*◌, ◌/◌, ◌%◌, Bool, false, cond, List, [], ◌∷◌, ◌++◌, leb, eqb}
use Rattle.unit.specs.Choice.{both}
use Rattle.unit.specs.Bits.{is_set}
use Rattle.numeral.specs.Print.{decimal, nanoseconds, signed_nanoseconds}
use Rattle.listing.specs.Listing.{right_justified}
use Rattle.device.specs.declared.Model.{Model}
use Rattle.device.specs.Question.{regulator_on}
use Rattle.numeral.specs.Ascii.{ascii}
use Rattle.wording.specs.Wording.{Texts, reported_where}
use Rattle.item_state.specs.Told.{told_value, read_word}
use Rattle.page.specs.Row.{register_row, pair_row, absent_row, absent_pair}

-- the word of 32 bits of a pair: "Int (whole periods) before Frac (65,536ths)"
unfoldable pub pair_word : Model → ℕ → ℕ
pair_word m a = read_word m a % 65536 * 65536 + read_word m (a + 1) % 65536

-- "Nanoseconds are quanta × 250 ÷ 65,536 to the nearest ten-thousandth", in 14 places; "A difference is a signed pair"
unfoldable pub time : ℕ → Texts
time w = right_justified 14 (nanoseconds w) ∷ ascii " ns" ∷ []

unfoldable pub signed_time : ℕ → Texts
signed_time w = right_justified 14 (signed_nanoseconds w) ∷ ascii " ns" ∷ []

-- FFFFh FFFFh
abbrev pub blanked : ℕ
blanked = 4294967295

-- "`no time` stands for a HIT, AVG or T pair of FFFFh FFFFh"
unfoldable pub result_texts : ℕ → Texts
result_texts w = cond (eqb w blanked) (ascii "no time" ∷ []) (time w)

-- "A pair of T1 to T4 that reads 0000h 0000h is no time either"
unfoldable pub port_texts : ℕ → Texts
port_texts w = cond (eqb w 0) (ascii "no time: short, or not measured" ∷ []) (result_texts w)

-- "A TOF_DIFF of FFFFh FFFFh is a good difference of −1 quantum .. unless AVGUP says that the measurement failed"
unfoldable pub difference_texts : ℕ → ℕ → Texts
difference_texts w average_up = cond (both (eqb average_up blanked) (eqb w blanked)) (ascii "no time" ∷ []) (signed_time w)

unfoldable pub result_row : List ℕ → ℕ → Texts
result_row label w = pair_row label w (result_texts w)

unfoldable pub port_row : List ℕ → ℕ → Texts
port_row label w = pair_row label w (port_texts w)

unfoldable pub difference_row : ℕ → ℕ → Texts
difference_row w average_up = pair_row (ascii "E2 E3  TOF_DIFFInt/Frac         ") w (difference_texts w average_up)

unfoldable pub mean_row : ℕ → Texts
mean_row w = pair_row (ascii "E5 E6  TOF_DIFF_AVGInt/Frac     ") w (signed_time w)

unfoldable pub count_row : List ℕ → ℕ → Texts
count_row label w = register_row label w (ascii " good cycles: " ∷ decimal w ∷ [])

unfoldable pub up_rows : Model → List Texts
up_rows m =
    (ascii "CONVERSION RESULTS REGISTERS" ∷ [])
    ∷ absent_row (ascii "C4     WVRUP                    ") (read_word m 0xC4)
    ∷ result_row (ascii "C5 C6  Hit1UpInt/Frac           ") (pair_word m 0xC5)
    ∷ result_row (ascii "C7 C8  Hit2UpInt/Frac           ") (pair_word m 0xC7)
    ∷ result_row (ascii "C9 CA  Hit3UpInt/Frac           ") (pair_word m 0xC9)
    ∷ result_row (ascii "CB CC  Hit4UpInt/Frac           ") (pair_word m 0xCB)
    ∷ result_row (ascii "CD CE  Hit5UpInt/Frac           ") (pair_word m 0xCD)
    ∷ result_row (ascii "CF D0  Hit6UpInt/Frac           ") (pair_word m 0xCF)
    ∷ result_row (ascii "D1 D2  AVGUPInt/Frac            ") (pair_word m 0xD1)
    ∷ []

unfoldable pub down_rows : Model → List Texts
down_rows m =
    absent_row (ascii "D3     WVRDN                    ") (read_word m 0xD3)
    ∷ result_row (ascii "D4 D5  Hit1DnInt/Frac           ") (pair_word m 0xD4)
    ∷ result_row (ascii "D6 D7  Hit2DnInt/Frac           ") (pair_word m 0xD6)
    ∷ result_row (ascii "D8 D9  Hit3DnInt/Frac           ") (pair_word m 0xD8)
    ∷ result_row (ascii "DA DB  Hit4DnInt/Frac           ") (pair_word m 0xDA)
    ∷ result_row (ascii "DC DD  Hit5DnInt/Frac           ") (pair_word m 0xDC)
    ∷ result_row (ascii "DE DF  Hit6DnInt/Frac           ") (pair_word m 0xDE)
    ∷ result_row (ascii "E0 E1  AVGDNInt/Frac            ") (pair_word m 0xE0)
    ∷ []

unfoldable pub difference_rows : Model → List Texts
difference_rows m =
    difference_row (pair_word m 0xE2) (pair_word m 0xD1)
    ∷ count_row (ascii "E4     TOF_Cycle_Count          ") (read_word m 0xE4)
    ∷ mean_row (pair_word m 0xE5)
    ∷ []

unfoldable pub port_rows : Model → List Texts
port_rows m =
    port_row (ascii "E7 E8  T1Int/Frac               ") (pair_word m 0xE7)
    ∷ port_row (ascii "E9 EA  T2Int/Frac               ") (pair_word m 0xE9)
    ∷ port_row (ascii "EB EC  T3Int/Frac               ") (pair_word m 0xEB)
    ∷ port_row (ascii "ED EE  T4Int/Frac               ") (pair_word m 0xED)
    ∷ count_row (ascii "EF     Temp_Cycle_Count         ") (read_word m 0xEF)
    ∷ result_row (ascii "F0 F1  T1_AVGInt/Frac           ") (pair_word m 0xF0)
    ∷ result_row (ascii "F2 F3  T2_AVGInt/Frac           ") (pair_word m 0xF2)
    ∷ result_row (ascii "F4 F5  T3_AVGInt/Frac           ") (pair_word m 0xF4)
    ∷ result_row (ascii "F6 F7  T4_AVGInt/Frac           ") (pair_word m 0xF6)
    ∷ []

-- ---- the status

-- "The status is given by the names of its bits that are set, or `none`": those of the high byte, and those of the low one
unfoldable pub high_names : ℕ → Texts
high_names w =
    reported_where (is_set 15 w) (ascii " TO")
    ++ (reported_where (is_set 14 w) (ascii " AF")
    ++ (reported_where (is_set 12 w) (ascii " TOF")
    ++ (reported_where (is_set 11 w) (ascii " TE")
    ++ (reported_where (is_set 10 w) (ascii " LDO")
    ++ (reported_where (is_set 9 w) (ascii " TOF_EVTMG") ++ reported_where (is_set 8 w) (ascii " TEMP_EVTMG"))))))

unfoldable pub low_names : ℕ → Texts
low_names w =
    reported_where (is_set 7 w) (ascii " FLASH")
    ++ (reported_where (is_set 5 w) (ascii " HALT")
    ++ (reported_where (is_set 3 w) (ascii " INIT") ++ reported_where (is_set 2 w) (ascii " POR")))

-- both bytes have bits: the names take two rows
unfoldable pub takes_two : ℕ → Bool
takes_two w = cond (eqb (w % 256) 0) false (leb 256 w)

abbrev pub status_label : List ℕ
status_label = ascii "FE     Interrupt Status         "

unfoldable pub status_rows : ℕ → List Texts
status_rows w =
    cond (takes_two w)
    (register_row status_label w (high_names w) ∷ (ascii "                                          " ∷ low_names w) ∷ [])
    (register_row status_label w (high_names w ++ (low_names w ++ reported_where (eqb w 0) (ascii " none"))) ∷ [])

-- "The row `Flash supply` tells whether the regulator of the user flash is on"
unfoldable pub supply_row : ℕ → Texts
supply_row on =
    cond (eqb on 0) (ascii "       Flash supply                        off") (ascii "       Flash supply                        on") ∷ []

unfoldable pub last_rows : Model → List Texts
last_rows m =
    absent_pair (ascii "F8 F9  CalibrationInt/Frac      ") (pair_word m 0xF8)
    ∷ absent_pair (ascii "FA FB  Reserved                 ") (pair_word m 0xFA)
    ∷ absent_pair (ascii "FC FD  Reserved                 ") (pair_word m 0xFC)
    ∷ (ascii "STATUS REGISTERS" ∷ [])
    ∷ (status_rows (read_word m 0xFE)
    ++ (supply_row (told_value (regulator_on m)) ∷ absent_row (ascii "FF     Control                  ") (read_word m 0xFF) ∷ []))
