-- A model that is not sound: every question is number 0, and tells no word. Assumes nothing.
use Prim.Native.Nat.{ℕ}
use mathlib.Core.Bool.{false}
use mathlib.Core.List.{List, []}
use mathlib.Core.Path.{◌≡◌, refl}
use Rattle.device.specs.declared.Model.{Model}
use Rattle.device.specs.declared.Schedule.{Schedule}
use Rattle.device.specs.Model.{is_sound}
use Rattle.device.specs.Call.{first_of}
use Rattle.device.specs.Question.{interrupt_pending, awaited_told, regulator_on, peek}
use Rattle.run_state.specs.State.{initialised_told, left_told, values_left}
use Rattle.run_state.specs.Event.{place_told, values_placed}
use Rattle.setup_frames.specs.Frames.{frames_verdict, answer_by, bytes_by, lengths_by}
use Rattle.layout.specs.Code.{code_in}
use Rattle.max35101_questions.specs.Frames.{SetUp}
use Rattle.std.specs.Prelude.{Result, Option}
use Rattle.refusal.specs.declared.Refusal.{Refusal}
use Rattle.refusal.specs.Number.{number_told, value_told}
use Rattle.unit.specs.declared.Ticks.{Ticks}
use Rattle.run_state.specs.declared.Place.{Place}

abbrev pub NotTold : Result ℕ Refusal → Type 0
NotTold t = (code_in (number_told t) ≡ 0) × (value_told t ≡ [])

abbrev pub NotLeft : Result Ticks Refusal → Type 0
NotLeft l = (code_in (number_told l) ≡ 0) × (values_left l ≡ [])

abbrev pub NotPlaced : Result (Option Place) Refusal → Type 0
NotPlaced p = (code_in (number_told p) ≡ 0) × (values_placed p ≡ [])

module _ (m : Model) (unsound : is_sound m ≡ false) where
  pub questions-zero : (k : Schedule) (a : ℕ)
      → NotTold (interrupt_pending m) × NotTold (awaited_told m k) × NotTold (regulator_on m) × NotTold (peek m a) × NotTold (initialised_told m)
      × NotLeft (left_told m k) × NotPlaced (place_told m k)
  unfolding interrupt_pending awaited_told regulator_on peek initialised_told left_told place_told
  questions-zero k a = rw unsound ((refl, refl), (refl, refl), (refl, refl), (refl, refl), (refl, refl), (refl, refl), (refl, refl))

  -- set-up frames: nor is a byte or a length put
  pub frames-zero : {bytes lengths sizes bytes' lengths' sizes' : List ℕ} {code : ℕ} → SetUp m bytes lengths sizes code bytes' lengths' sizes'
      → (code ≡ 0) × (sizes' ≡ sizes) × (bytes' ≡ bytes) × (lengths' ≡ lengths)
  unfolding frames_verdict first_of answer_by bytes_by lengths_by
  frames-zero s = (rw unsound at s.answer.coded, rw unsound at s.answer.worded, rw unsound at s.in_bytes, rw unsound at s.in_lengths)
