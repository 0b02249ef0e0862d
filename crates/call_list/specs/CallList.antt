-- A list of calls, done one after the other on one model.
use Rattle.std.specs.Prelude.{ℕ, zero, suc, ◌+◌, ◌-◌, ◌*◌, Bool, true, List, ◌++◌, length, get_or, set, take, drop, leb, eqb}
use Rattle.unit.specs.Choice.{pick, both}
use Rattle.device.specs.declared.Model.{Model}
use Rattle.device.specs.declared.Answer.{Answer}
use Rattle.device.specs.Call.{Call, transaction, tick, flight, temperature, stretch}
use Rattle.device.specs.Reply.{reply, output, memory}
use Rattle.layout.specs.Code.{code_of, words_of, filled}
use Rattle.call_list.specs.declared.Entry.{Entry}
use Rattle.call_list.specs.declared.Place.{Place}
use Rattle.call_list.specs.declared.Progress.{Progress}

-- A call of a list is three of its words: the kind, and two sizes.
--
-- | kind | call | first | second |
-- | 0 | a transaction | bytes of its frame | bytes of its output |
-- | 1 | a tick | | |
-- | 2 | a stretch | ticks | |
-- | 3 | a delivery of flight | words up | words down |
-- | 4 | a delivery of temperature | words | |
unfoldable pub entry_at : List ℕ → ℕ → Entry
entry_at calls k =
    record { kind = get_or calls (3 * k) 0; first = get_or calls (3 * k + 1) 0; second = get_or calls (3 * k + 2) 0 }

-- the n elements of a list from a place on
abbrev pub part : ℕ → ℕ → List ℕ → List ℕ
part at n l = take n (drop at l)

-- the list with these n replaced
abbrev pub within : ℕ → ℕ → List ℕ → List ℕ → List ℕ
within at n l ys = take at l ++ (ys ++ drop n (drop at l))

-- The frames, the hit words and the outputs lie one behind the other, each in a buffer of its own. Whether a call is one, and
-- what is left of the frames, the hit words and the output is enough for it:
unfoldable pub entry_fits : Entry → ℕ → ℕ → ℕ → Bool
entry_fits e frames hits out =
    pick (eqb e.kind 0) (both (leb e.first frames) (leb e.second out))
    (pick (eqb e.kind 3) (both (leb e.first hits) (leb e.second (hits - e.first)))
    (pick (eqb e.kind 4) (leb e.first hits) (pick (eqb e.kind 1) true (eqb e.kind 2))))

-- .. and there is room for its answer, five words.
unfoldable pub call_fits : Entry → Place → ℕ → ℕ → ℕ → ℕ → Bool
call_fits e p frames hits out answers =
    both (leb 5 (answers - 5 * p.calls)) (entry_fits e (frames - p.frames) (hits - p.hits) (out - p.output))

-- The call itself, with the output and the user flash as they are before it.
unfoldable pub call_of : Entry → Place → List ℕ → List ℕ → List ℕ → List ℕ → Call
call_of e p frames hits out flash =
    pick (eqb e.kind 0)
    (transaction (part p.frames e.first frames) (part p.output e.second out) flash)
    (pick (eqb e.kind 1) tick
    (pick (eqb e.kind 2) (stretch e.first)
    (pick (eqb e.kind 3)
    (flight (part p.hits e.first hits) (part (p.hits + e.first) e.second hits))
    (temperature (part p.hits e.first hits)))))

-- A transaction may change its part of the output and the user flash, and no other call does.
unfoldable pub output_after : Entry → Place → Model → Call → List ℕ → List ℕ
output_after e p m c out = pick (eqb e.kind 0) (within p.output e.second out (output m c)) out

unfoldable pub flash_after : Entry → Model → Call → List ℕ → List ℕ
flash_after e m c flash = pick (eqb e.kind 0) (memory m c) flash

-- Where the next call finds its part of each buffer.
unfoldable pub place_after : Entry → Place → Place
place_after e p =
    pick (eqb e.kind 0)
    record { calls = p.calls + 1; frames = p.frames + e.first; hits = p.hits; output = p.output + e.second }
    (pick (eqb e.kind 3)
    record { calls = p.calls + 1; frames = p.frames; hits = p.hits + e.first + e.second; output = p.output }
    (pick (eqb e.kind 4)
    record { calls = p.calls + 1; frames = p.frames; hits = p.hits + e.first; output = p.output }
    record { calls = p.calls + 1; frames = p.frames; hits = p.hits; output = p.output }))

-- A call's answer: its code, and behind it four words, filled as those of a single call are.
unfoldable pub answers_after : Answer → ℕ → List ℕ → List ℕ
answers_after a at l = set (within (at + 1) 4 l (filled (part (at + 1) 4 l) (words_of a))) at (code_of a)

-- A list that is done so far: the model and the places, and the buffers.
pub record Run : Type 0 where
  pub progress : Progress
  pub output : List ℕ
  pub flash : List ℕ
  pub answers : List ℕ

unfoldable pub beginning : Model → Progress
beginning m =
    record { model = m; place = record { calls = 0; frames = 0; hits = 0; output = 0 } }

-- One call.
unfoldable pub step_by : Entry → Call → Run → Run
step_by e c s =
    record {
      progress =
          record {
            model = (reply s.progress.model c).model;
            place = place_after e s.progress.place;
          };
      output = output_after e s.progress.place s.progress.model c s.output;
      flash = flash_after e s.progress.model c s.flash;
      answers = answers_after (reply s.progress.model c).answer (5 * s.progress.place.calls) s.answers;
    }

unfoldable pub step : List ℕ → List ℕ → Entry → Run → Run
step frames hits e s = step_by e (call_of e s.progress.place frames hits s.output s.flash) s

unfoldable pub fits : List ℕ → List ℕ → Entry → Run → Bool
fits frames hits e s =
    call_fits e s.progress.place (length frames) (length hits) (length s.output) (length s.answers)

-- n calls, up to the first that does not fit: that one and those behind it are not done.
unfoldable pub runs : ℕ → List ℕ → List ℕ → List ℕ → Run → Run
runs zero calls frames hits s = s
runs (suc n) calls frames hits s =
    pick (fits frames hits (entry_at calls s.progress.place.calls) s)
    (runs n calls frames hits (step frames hits (entry_at calls s.progress.place.calls) s))
    s
