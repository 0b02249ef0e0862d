-- The table of refusals: which number is given, and what is known where none is.
use Prim.Native.Nat.{ℕ}
use native.Mathlib.Omega.{arith}
use mathlib.Core.Bool.{Bool, true, false}
use mathlib.Core.List.{List, [], ◌∷◌}
use mathlib.Core.Logic.{◌↔◌, ◌⊎◌, inl, inr, ⊎_elim}
use mathlib.Core.Path.{◌≡◌, refl, ap, sym, ◌∙◌}
use Rattle.unit.specs.Choice.{pick, negate}
use Rattle.unit.proofs.Cases.{by-test}
use Rattle.hit.specs.Mean.{All}
use Rattle.device.specs.declared.Model.{Model}
use Rattle.device.specs.declared.Reply.{Reply}
use Rattle.device.specs.Model.{is_sound}
use Rattle.refusal.specs.declared.Refusal.{Refusal}
use Rattle.refusal.specs.Number.{number}
use Rattle.device.specs.Call.{Call, Row, Verdict, accepted, refused, verdict, first_of, table}
use Rattle.device.specs.Reply.{reply, reply_by, output, output_by, buffer_of, memory, memory_by, memory_of}
use Rattle.device.specs.Call.{no_frame, not_carried, wrong_length, past_registers, short_output, while_busy, supply_off, unreachable, unerased, bad_calendar}
use Rattle.device.specs.Call.{not_initialised, bad_setup, not_awaited, miscounted, too_long}
use Rattle.device.specs.Call.{transaction, tick, flight, temperature, stretch}
use Rattle.device.specs.Reply.{any_late, port_fault, accepted_answer, number_in, values_in, number_of, Replied}
use Rattle.frame.specs.Frame.{is_command, is_write, is_flash}
use lib.ListN.{get_or}

-- Whichever is picked, with what the test showed.
pub picked : {A : Type 0} (P : A → Type 0) (t : Bool) {x y : A} → (t ≡ true → P x) → (t ≡ false → P y) → P (pick t x y)
picked P true p q = p refl
picked P false p q = q refl

pub negated : (b : Bool) → negate b ≡ false → b ≡ true
negated true e = refl
negated false e = sym e

-- the first row that holds has this refusal; no row holds
abbrev pub FirstRow : List Row → Refusal → Type 0
FirstRow [] n = ⊥
FirstRow (r ∷ rs) n = ((r.holds ≡ true) × (r.refusal ≡ n)) ⊎ ((r.holds ≡ false) × FirstRow rs n)

abbrev pub NoRow : List Row → Type 0
NoRow rs = All (λ (r : Row). r.holds ≡ false) rs

-- "the first whose condition holds is given"
pub refused-means : (rs : List Row) (n : Refusal) → (first_of rs ≡ refused n) ↔ FirstRow rs n
unfolding first_of
refused-means [] n = (λ e. let z : ◌≡◌ {A = ℕ} 0 1 = cc in absurd (omega arith), absurd)
refused-means (r ∷ rs) n =
    by-test r.holds
    (λ h. rw h (λ e. inl (refl, cc), ⊎_elim (λ f. cc) (λ l. cc)))
    (λ h. rw h (λ e. inr (refl, (refused-means rs n).0 e), ⊎_elim (λ f. cc) (λ l. (refused-means rs n).1 l.1)))

-- "none when none holds"
pub accepted-means : (rs : List Row) → (first_of rs ≡ accepted) ↔ NoRow rs
unfolding first_of
accepted-means [] = (λ e. tt, λ n. refl)
accepted-means (r ∷ rs) =
    by-test r.holds
    (λ h. rw h (λ e. let z : ◌≡◌ {A = ℕ} 0 1 = cc in absurd (omega arith), λ n. cc))
    (λ h. rw h (λ e. (refl, (accepted-means rs).0 e), λ n. (accepted-means rs).1 n.1))

-- The conditions of the table, by number, none of which holds.
pub record NoneHolds (m : Model) (c : Call) : Type 0 where
  pub row0 : is_sound m ≡ true
  pub row1 : no_frame c ≡ false
  pub row2 : not_carried c ≡ false
  pub row3 : wrong_length c ≡ false
  pub row4 : past_registers c ≡ false
  pub row5 : short_output c ≡ false
  pub row6 : while_busy m c ≡ false
  pub row15 : supply_off m c ≡ false
  pub row16 : unreachable c ≡ false
  pub row17 : unerased c ≡ false
  pub row7 : bad_calendar m c ≡ false
  pub row8 : not_initialised m c ≡ false
  pub row9 : bad_setup m c ≡ false
  pub row10 : not_awaited m c ≡ false
  pub row11 : miscounted m c ≡ false
  pub row12 : too_long c ≡ false

pub none-holds : (m : Model) (c : Call) → verdict m c ≡ accepted → NoneHolds m c
unfolding verdict table
none-holds m c e =
    let n : NoRow (table m c) = (accepted-means (table m c)).0 e in
    record {
      row0 = negated (is_sound m) (search);
      row1 = search;
      row2 = search;
      row3 = search;
      row4 = search;
      row5 = search;
      row6 = search;
      row15 = search;
      row16 = search;
      row17 = search;
      row7 = search;
      row8 = search;
      row9 = search;
      row10 = search;
      row11 = search;
      row12 = search;
    }

-- "A refusal answers its number; model and output buffer keep every value."
pub refused-same : (m : Model) (c : Call) (r : Refusal) → verdict m c ≡ refused r → (reply m c).model ≡ m
unfolding reply reply_by
refused-same m c r e = rw e

pub refused-buffer : (m : Model) (c : Call) (r : Refusal) → verdict m c ≡ refused r → output m c ≡ buffer_of c
unfolding output output_by
refused-buffer m c r e = rw e

-- "a refusal or any other frame leaves the whole memory as it was" (Note 8)
pub refused-memory : (m : Model) (c : Call) (r : Refusal) → verdict m c ≡ refused r → memory m c ≡ memory_of c
unfolding memory memory_by
refused-memory m c r e = rw e

-- "A refusal answers its number": the number in the answer is the verdict's.
pub accepted-number : (m : Model) (c : Call) → number_in (accepted_answer m c) ≡ []
unfolding number_in accepted_answer
accepted-number m (transaction f o x) =
    picked (λ a. number_in a ≡ []) (is_command (get_or f 0 0)) (λ _. refl)
    (λ _. picked (λ a. number_in a ≡ []) (is_write (get_or f 0 0)) (λ _. refl)
    (λ _. picked (λ a. number_in a ≡ []) (is_flash (get_or f 0 0)) (λ _. refl) (λ _. refl)))
accepted-number m tick = refl
accepted-number m (flight u d) = picked (λ a. number_in a ≡ []) (any_late m u d) (λ _. refl) (λ _. refl)
accepted-number m (temperature w) = picked (λ a. number_in a ≡ []) (port_fault m w) (λ _. refl) (λ _. refl)
accepted-number m (stretch n) = refl

pub number-refused : (m : Model) (c : Call) (r : Refusal) → verdict m c ≡ refused r → number_in (reply m c).answer ≡ number r ∷ []
unfolding reply reply_by number_in
number-refused m c r e = rw e

pub number-accepted : (m : Model) (c : Call) → verdict m c ≡ accepted → number_in (reply m c).answer ≡ []
unfolding reply reply_by
number-accepted m c e = rw e (accepted-number m c)

-- so is what each call states of its reply
pub replied : (m : Model) (c : Call) {r : Reply} → r ≡ reply m c → Replied m c r
replied m c e = record { number = ap (λ (s : Reply). number_in s.answer) e ∙ by-verdict (verdict m c) refl; values = ap (λ (s : Reply). values_in s.answer) e; reply = e }
  where
    by-verdict : (v : Verdict) → verdict m c ≡ v → number_in (reply m c).answer ≡ number_of v
    by-verdict accepted e = unfold number_of in number-accepted m c e
    by-verdict (refused r) e = unfold number_of in number-refused m c r e
