-- What the code of a call asks of its list: the code's own, and nothing that a reader has to believe.
use Rattle.std.specs.Prelude.{ℕ, zero, suc, ◌+◌, ◌-◌, ◌*◌, ◌/◌, ◌<◌, ◌≤◌, true, false, List, ◌≡◌, length, get_or}
use Rattle.device.specs.declared.Answer.{Answer}
use Rattle.device.specs.Model.{is_sound}
use Rattle.device.specs.Call.{Call}
use Rattle.device.specs.Reply.{reply}
use Rattle.device.specs.Stretch.{model_ticked}
use Rattle.call_list.specs.declared.Entry.{Entry}
use Rattle.call_list.specs.declared.Place.{Place}
use Rattle.call_list.specs.declared.Progress.{Progress}
use Rattle.call_list.specs.CallList.{Run, answers_after, call_fits, place_after, runs}

-- The places lie within the buffers, and the call fits.
pub record Room (e : Entry) (p : Place) (frames hits out answers : ℕ) : Type 0 where
  pub in_frames : p.frames ≤ frames
  pub in_hits : p.hits ≤ hits
  pub in_output : p.output ≤ out
  pub in_answers : 5 * p.calls ≤ answers
  pub enough : call_fits e p frames hits out answers ≡ true

-- The places are small enough to count on, and there is room for one more answer.
pub record Near (p : Place) (answers : ℕ) : Type 0 where
  pub frames : p.frames < 9223372036854775808
  pub hits : p.hits < 9223372036854775808
  pub output : p.output < 9223372036854775808
  pub told : 5 * p.calls + 5 ≤ answers

-- A call is done and told.
pub record Told (e : Entry) (c : Call) (p r : Progress) (before after : List ℕ) : Type 0 where
  pub left : r ≡ record { model = (reply p.model c).model; place = place_after e p.place }
  pub answers : after ≡ answers_after (reply p.model c).answer (5 * p.place.calls) before

-- The calls k, k + 1 and so on, n in all, are ticks.
pub record AllTicks (calls : List ℕ) (k n : ℕ) : Type 0 where
  pub each : (i : ℕ) → i < n → get_or calls (3 * (k + i)) 0 ≡ 1

-- The answers to n ticks, the first of them call k, in which nothing happens; and what such ticks leave.
unfoldable pub quiet_answer : Answer
quiet_answer = Answer.Ticked record { started = false; failed = false } record { started = false; failed = false }

unfoldable pub quiet_answers : ℕ → ℕ → List ℕ → List ℕ
quiet_answers zero k l = l
quiet_answers (suc n) k l = answers_after quiet_answer (5 * (k + n)) (quiet_answers n k l)

unfoldable pub quiet_progress : ℕ → Progress → Progress
quiet_progress n p =
    record {
      model = model_ticked n p.model;
      place =
          record {
            calls = p.place.calls + n;
            frames = p.place.frames;
            hits = p.place.hits;
            output = p.place.output;
          };
    }

-- One or more calls are done.
pub record Moved (calls frames hits : List ℕ) (s t : Run) : Type 0 where
  pub farther : s.progress.place.calls < t.progress.place.calls
  pub within : t.progress.place.calls ≤ length calls / 3
  pub same : t ≡ runs (t.progress.place.calls - s.progress.place.calls) calls frames hits s
  pub judged : is_sound s.progress.model ≡ is_sound t.progress.model
  pub in_frames : t.progress.place.frames ≤ length frames
  pub in_hits : t.progress.place.hits ≤ length hits
  pub in_output : t.progress.place.output ≤ length s.output
  pub in_answers : 5 * t.progress.place.calls ≤ length s.answers
