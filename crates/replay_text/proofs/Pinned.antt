-- What a replay starts with, in plain numbers. Assumes nothing.
use mathlib.Core.Bool.{false}
use mathlib.Core.Path.{◌≡◌, refl}
use lib.IntN.{pos}
use lib.ListN.{length, get_or}
use Rattle.numeral.specs.Ascii.{ascii}
use Rattle.numeral.specs.Place.{overwrite, written}
use Rattle.session.specs.Line.{State}
use Rattle.session.specs.Ends.{names_begun}
use Rattle.replay_text.specs.Replay.{Page, first_page}

abbrev first : Page
first = first_page (ascii "f") false

abbrev kept : State
kept = first.replay.state

-- "a user flash of 8,192 bytes of its own, all FFh at its start, a record of at most 4,096 differences and a probe table of at most 1,024
-- entries": the first of each, the last, and none behind it
first-flash : (length kept.flash ≡ 8192) × (get_or kept.flash 0 9 ≡ 255) × (get_or kept.flash 8191 9 ≡ 255)
unfolding first_page
first-flash = (refl, refl, refl)

first-record : (length kept.differences ≡ 4096) × (get_or kept.differences 0 (pos 9) ≡ pos 0) × (get_or kept.differences 4095 (pos 9) ≡ pos 0)
unfolding first_page
first-record = (refl, refl, refl)

first-table : (length kept.probes ≡ 1024) × (get_or kept.probes 0 9 ≡ 0) × (get_or kept.probes 1023 9 ≡ 0)
unfolding first_page
first-table = (refl, refl, refl)

-- Room for 512 numbers of a line, and for 5,120 bytes of names behind the file's.
first-numbers : (length first.numbers ≡ 512) × (get_or first.numbers 0 9 ≡ 0) × (get_or first.numbers 511 9 ≡ 0)
unfolding first_page
first-numbers = (refl, refl, refl)

first-names : (length first.replay.names ≡ 5120) × (get_or first.replay.names 0 9 ≡ 102) × (get_or first.replay.names 1 9 ≡ 0)
    × (get_or first.replay.names 5119 9 ≡ 0)
unfolding first_page names_begun written overwrite ascii
first-names = (refl, refl, refl, refl)
