-- A line of at most 1,048,576 ticks is told and done as any other line is. Assumes nothing.
use Prim.Native.Nat.{ℕ, ◌-◌, ◌≤◌, ◌<◌, min}
use mathlib.Core.Bool.{Bool, true, false, cond}
use mathlib.Core.List.{List, [], ◌∷◌, ◌++◌}
use mathlib.Core.Path.{◌≡◌, refl, sym, ap, ◌∙◌}
use native.Mathlib.Omega.{arith}
use lib.Dec.{eqb}
use lib.ListN.{length, get_or, set}
use lib.Seq.{set-get_or}
use Rattle.item_state.specs.Log.{call_counted}
use Rattle.unit.proofs.Cases.{by_eqb}
use Rattle.line.specs.declared.Content.{Content}
use Rattle.wording.specs.Wording.{Texts, line_feed}
use Rattle.item_calls.specs.Lines.{ticked}
use Rattle.answer_text.specs.Texts.{Told, end_texts}
use Rattle.answer_text.specs.Line.{line_told}
use Rattle.session.specs.Line.{State, line_done}
use Rattle.line_text.specs.Text.{bare}
use Rattle.line_text.proofs.Kept.{Alike}
use Rattle.line_room.specs.Form.{ticks_of}
use Rattle.replay_text.specs.Replay.{TickLine, tick_lines, ticks_told, ticks_done, told_by, done_by}
use Rattle.replay_text.proofs.Runs.{called-ticks, called-long, first-told, Runs, tick-runs, at-runs, tick_run, at_run}

-- ---- lines of ticks

module _ {content : Content} {counts : List ℕ} {t : TickLine} {total : ℕ} (r : Runs content counts t total) (long : length counts ≡ 22)
    (none : get_or counts 21 0 ≡ 0) (few : t.ticks ≤ 1048576) where
  pub run-told : (numbers : List ℕ) (s : State) → ticks_told t s.model ≡ line_told content numbers (bare s counts) s.differences s.probes
  unfolding ticks_told end_texts
  run-told numbers s =
      let all : min t.ticks 1048576 ≡ t.ticks = omega arith in
      let over : t.ticks - t.ticks ≡ 0 = omega arith in
      let nothing : get_or (call_counted 0 t.counts) 21 0 ≡ 0 = called-ticks 0 t.counts ∙ (r.none ∙ none) in
      let same : set (call_counted 0 t.counts) 21 0 ≡ call_counted 0 t.counts =
      ap (set (call_counted 0 t.counts) 21) (sym nothing) ∙ set-get_or (call_counted 0 t.counts) 21 0 in
      rw (r.first numbers s, first-told t.head t.ticks total t.counts counts s.model r.low none (omega (arith, r.long, long)), all, over, same, r.before)

  pub run-done : (numbers : List ℕ) (s : State) → s.log.counts ≡ counts → Alike (ticks_done t s) (line_done content numbers s)
  unfolding ticks_done
  run-done numbers s same =
      let all : min t.ticks 1048576 ≡ t.ticks = omega arith in
      let others = r.others numbers s in
      record {
        model = sym (r.first_model numbers s same none (omega (arith, long)) ∙ rw all);
        flash = sym others.0;
        differences = sym others.1;
        probes = sym others.2;
      }

-- ---- every line

abbrev Told-short : Content → List ℕ → List ℕ → State → Type 0
Told-short content counts numbers s = told_by (tick_lines content counts) content numbers s counts ≡ line_told content numbers (bare s counts) s.differences s.probes

abbrev Done-short : Content → List ℕ → List ℕ → State → Type 0
Done-short content counts numbers s = Alike (done_by (tick_lines content counts) content numbers s) (line_done content numbers s)

alike_self : (s : State) → Alike s s
alike_self s = record { model = refl; flash = refl; differences = refl; probes = refl }

module _ (counts : List ℕ) (long : length counts ≡ 22) (none : get_or counts 21 0 ≡ 0) (numbers : List ℕ) (s : State) where
  tick-short : (n : ℕ) → ticks_of (Content.Tick n) counts ≤ 1048576 → Told-short (Content.Tick n) counts numbers s
  unfolding tick_lines told_by ticks_of
  tick-short n few =
      by_eqb n 1 (λ h e. rw e)
      (λ h e. rw e (run-told (tick-runs n h counts) long none (rw e at few) numbers s))

  at-short : (t : ℕ) → ticks_of (Content.At t) counts ≤ 1048576 → Told-short (Content.At t) counts numbers s
  unfolding tick_lines told_by ticks_of
  at-short t few = run-told (at-runs t counts) long none few numbers s

  pub told-short : (content : Content) → ticks_of content counts ≤ 1048576 → Told-short content counts numbers s
  unfolding tick_lines told_by
  told-short Content.Nothing few = refl
  told-short Content.TooLong few = refl
  told-short Content.UnknownWord few = refl
  told-short Content.BadNumber few = refl
  told-short Content.WrongCount few = refl
  told-short Content.Item few = refl
  told-short (Content.Bus n) few = refl
  told-short (Content.BusOut size n) few = refl
  told-short (Content.Tick n) few = tick-short n few
  told-short (Content.Flight up down) few = refl
  told-short (Content.Temperature n) few = refl
  told-short Content.Int few = refl
  told-short Content.Awaited few = refl
  told-short Content.Regs few = refl
  told-short (Content.Expect a n) few = refl
  told-short Content.Show few = refl
  told-short (Content.Set a n) few = refl
  told-short (Content.At t) few = at-short t few
  told-short (Content.Stretch n) few = refl
  told-short Content.Frames few = refl
  told-short (Content.Probe n) few = refl
  told-short Content.Degrees few = refl
  told-short (Content.Record n) few = refl
  told-short (Content.Listing old first) few = refl
  told-short (Content.Quietest n) few = refl

  module _ (same : s.log.counts ≡ counts) where
    tick-done : (n : ℕ) → ticks_of (Content.Tick n) counts ≤ 1048576 → Done-short (Content.Tick n) counts numbers s
    unfolding tick_lines done_by ticks_of
    tick-done n few =
        by_eqb n 1 (λ h e. rw e (alike_self (line_done (Content.Tick n) numbers s)))
        (λ h e. rw e (run-done (tick-runs n h counts) long none (rw e at few) numbers s same))

    at_done : (t : ℕ) → ticks_of (Content.At t) counts ≤ 1048576 → Done-short (Content.At t) counts numbers s
    unfolding tick_lines done_by ticks_of
    at_done t few = run-done (at-runs t counts) long none few numbers s same

    pub done-short : (content : Content) → ticks_of content counts ≤ 1048576 → Done-short content counts numbers s
    unfolding tick_lines done_by
    done-short Content.Nothing few = alike_self (line_done Content.Nothing numbers s)
    done-short Content.TooLong few = alike_self (line_done Content.TooLong numbers s)
    done-short Content.UnknownWord few = alike_self (line_done Content.UnknownWord numbers s)
    done-short Content.BadNumber few = alike_self (line_done Content.BadNumber numbers s)
    done-short Content.WrongCount few = alike_self (line_done Content.WrongCount numbers s)
    done-short Content.Item few = alike_self (line_done Content.Item numbers s)
    done-short (Content.Bus n) few = alike_self (line_done (Content.Bus n) numbers s)
    done-short (Content.BusOut size n) few = alike_self (line_done (Content.BusOut size n) numbers s)
    done-short (Content.Tick n) few = tick-done n few
    done-short (Content.Flight up down) few = alike_self (line_done (Content.Flight up down) numbers s)
    done-short (Content.Temperature n) few = alike_self (line_done (Content.Temperature n) numbers s)
    done-short Content.Int few = alike_self (line_done Content.Int numbers s)
    done-short Content.Awaited few = alike_self (line_done Content.Awaited numbers s)
    done-short Content.Regs few = alike_self (line_done Content.Regs numbers s)
    done-short (Content.Expect a n) few = alike_self (line_done (Content.Expect a n) numbers s)
    done-short Content.Show few = alike_self (line_done Content.Show numbers s)
    done-short (Content.Set a n) few = alike_self (line_done (Content.Set a n) numbers s)
    done-short (Content.At t) few = at_done t few
    done-short (Content.Stretch n) few = alike_self (line_done (Content.Stretch n) numbers s)
    done-short Content.Frames few = alike_self (line_done Content.Frames numbers s)
    done-short (Content.Probe n) few = alike_self (line_done (Content.Probe n) numbers s)
    done-short Content.Degrees few = alike_self (line_done Content.Degrees numbers s)
    done-short (Content.Record n) few = alike_self (line_done (Content.Record n) numbers s)
    done-short (Content.Listing old first) few = alike_self (line_done (Content.Listing old first) numbers s)
    done-short (Content.Quietest n) few = alike_self (line_done (Content.Quietest n) numbers s)
