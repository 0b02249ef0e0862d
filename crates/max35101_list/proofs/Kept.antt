-- What a list of calls hands over.
use Prim.Native.Nat.{ℕ, ◌/◌}
use mathlib.Core.Bool.{true, false}
use mathlib.Core.List.{List}
use mathlib.Core.Path.{◌≡◌, refl, sym, ap, ◌∙◌}
use lib.ListN.{length}
use Rattle.device.specs.declared.Model.{Model}
use Rattle.device.specs.Model.{is_sound}
use Rattle.layout.specs.Layout.{loaded}
use Rattle.call_list.specs.declared.Progress.{Progress}
use Rattle.call_list.specs.CallList.{Run, beginning, runs}
use Rattle.layout.specs.Code.{kept}
use Rattle.max35101_list.specs.ListRun.{Ran, list_run, list_bytes}

-- The bytes after a list, on a sound model and on another.
kept-sound : (bytes : List ℕ) (s : Run) → is_sound (loaded bytes) ≡ true → kept s.progress.model bytes ≡ list_bytes bytes s
unfolding list_bytes
kept-sound bytes s t = rw t refl

kept-unsound : (bytes : List ℕ) (s : Run) → is_sound (loaded bytes) ≡ false → bytes ≡ list_bytes bytes s
unfolding list_bytes
kept-unsound bytes s t = rw t refl

module _ (bytes calls frames hits out flash answers : List ℕ) (m : Model) (p : Progress) (out' flash' answers' : List ℕ) where
  abbrev Done : Type 0
  Done =
      ◌≡◌ {A = Run} record { progress = p; output = out'; flash = flash'; answers = answers' }
      (runs (length calls / 3) calls frames hits record { progress = beginning m; output = out; flash = flash; answers = answers })

  whole :
      m ≡ loaded bytes →
      Done →
      ◌≡◌ {A = Run} record { progress = p; output = out'; flash = flash'; answers = answers' } (list_run bytes calls frames hits out flash answers)
  unfolding list_run
  whole e d =
      d
      ∙ ap
      (λ (q : Model). runs (length calls / 3) calls frames hits record { progress = beginning q; output = out; flash = flash; answers = answers })
      e

  ran : (bytes' : List ℕ) → m ≡ loaded bytes → Done → bytes' ≡ list_bytes bytes (list_run bytes calls frames hits out flash answers) →
      Ran bytes calls frames hits out flash answers p.place.calls bytes' out' flash' answers'
  ran bytes' e d b =
      let w = whole e d in
      record {
        count = ap (λ (r : Run). r.progress.place.calls) w;
        model = b;
        output = ap (λ (r : Run). r.output) w;
        memory = ap (λ (r : Run). r.flash) w;
        told = ap (λ (r : Run). r.answers) w;
      }

  pub ran-sound :
      (bytes' : List ℕ) →
      m ≡ loaded bytes →
      Done →
      is_sound m ≡ true →
      bytes' ≡ kept p.model bytes →
      Ran bytes calls frames hits out flash answers p.place.calls bytes' out' flash' answers'
  ran-sound bytes' e d s b =
      ran bytes' e d
      (b
      ∙ ap (λ (r : Run). kept r.progress.model bytes) (whole e d)
      ∙ kept-sound bytes (list_run bytes calls frames hits out flash answers) (ap is_sound (sym e) ∙ s))

  pub ran-unsound :
      m ≡ loaded bytes →
      Done →
      is_sound m ≡ false →
      Ran bytes calls frames hits out flash answers p.place.calls bytes out' flash' answers'
  ran-unsound e d s =
      ran bytes e d (kept-unsound bytes (list_run bytes calls frames hits out flash answers) (ap is_sound (sym e) ∙ s))
