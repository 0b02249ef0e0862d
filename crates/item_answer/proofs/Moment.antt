-- A line sets the moment back, or goes on by less than 2^32 ticks. Assumes nothing.
use Prim.Native.Nat.{ℕ, ◌+◌, ◌≤◌}
use native.Mathlib.Omega.{arith}
use mathlib.Core.List.{◌++◌}
use lib.Dec.{ltb}
use lib.ListN.{length}
use Rattle.unit.proofs.Cases.{by-test}
use Rattle.device.specs.Call.{Call as ChipCall}
use Rattle.device.specs.Reply.{reply}
use Rattle.quietest.specs.Quietest.{quietest_place}
use Rattle.listing.specs.Listing.{capture_digits, last_above}
use Rattle.text.specs.Text.{Text}
use Rattle.item_line.specs.Line.{Call, Ask, Keep, Expected, Line}
use Rattle.item_line.specs.Reading.{line_of}
use Rattle.item_line.specs.OwnBounds.{CallBound, LineBound}
use Rattle.item_line.proofs.Bounds.{line-bound}
use Rattle.item_answer.specs.Answer.{Item, fresh_item, is_refusal, starts, transacted, transaction_told, bus_told, set_told, ticks_told, at_result, stretch_told, delivery_told, frames_told, degrees_told, degrees_of, listing_told, quietest_told, call_result, ask_told, probe_result, added, record_result, keep_result}
use Rattle.item_answer.specs.Step.{bad_step, compared_step, told_step, result_step, line_step, step}
use Rattle.refusal.specs.declared.Refusal.{Refusal}
use Rattle.refusal.specs.Number.{number}
use Rattle.std.specs.Prelude.{Result, Ok, Err}

later : {a b : ℕ} → a ≤ b → a ≤ b + 4294967296
later h = omega (arith, h)

transacted-soon : (i : Item) (c : ChipCall) → (transacted i c).moment ≤ i.moment
unfolding transacted
transacted-soon i c = by-test (starts (reply i.model c).answer) (λ e. rw e (omega arith)) (λ e. rw e (omega arith))

degrees-soon : (d : Result ℕ Refusal) (i : Item) → (degrees_told d i).item.moment ≤ i.moment
unfolding degrees_told
degrees-soon (Ok n) i = omega arith
degrees-soon (Err r) i = omega arith

quietest-soon : (width : ℕ) (p : Result ℕ Refusal) (i : Item) → (quietest_told width p i).item.moment ≤ i.moment
unfolding quietest_told
quietest-soon width (Ok start) i = omega arith
quietest-soon width (Err r) i = omega arith

call-soon : (number : ℕ) (c : Call) (x : Expected) (i : Item) → CallBound c → (result_step number 1 x (call_result c i) i).item.moment ≤ i.moment + 4294967296
unfolding result_step told_step bad_step call_result bus_told set_told transaction_told ticks_told at_result stretch_told delivery_told frames_told listing_told
call-soon number (Call.bus o bytes) x i b = later (transacted-soon i _)
call-soon number (Call.set a ws) x i b = later (transacted-soon i _)
call-soon number (Call.tick n) x i (CallBound.tick h) = omega (arith, h)
call-soon number (Call.at t) x i (CallBound.at h) = by-test (ltb t i.moment) (λ e. rw e (omega arith)) (λ e. rw e (omega (arith, h)))
call-soon number (Call.stretch n) x i (CallBound.stretch h) =
    by-test (is_refusal (reply i.model (ChipCall.stretch n)).answer) (λ e. rw e (omega arith)) (λ e. rw e (omega (arith, h)))
call-soon number (Call.flight up down) x i b = omega arith
call-soon number (Call.temperature ws) x i b = omega arith
call-soon number Call.frames x i b = omega arith
call-soon number (Call.degrees a c) x i b = later (degrees-soon (degrees_of i.probes a c) i)
call-soon number (Call.listing w first) x i b =
    by-test (last_above (capture_digits w) first (length i.recorded)) (λ e. rw e (omega arith)) (λ e. rw e (omega arith))
call-soon number (Call.quietest n) x i b = later (quietest-soon n (quietest_place i.recorded n) i)

keep-soon : (number : ℕ) (k : Keep) (x : Expected) (i : Item) → (result_step number 0 x (keep_result k i) i).item.moment ≤ i.moment
unfolding result_step told_step bad_step keep_result probe_result record_result
keep-soon number (Keep.probe ns) x i = by-test (ltb 1024 (length (i.probes ++ ns))) (λ e. rw e (omega arith)) (λ e. rw e (omega arith))
keep-soon number (Keep.differences ds) x i =
    by-test (ltb 4096 (length (i.recorded ++ added ds i.model))) (λ e. rw e (omega arith)) (λ e. rw e (omega arith))

ask-soon : (a : Ask) (i : Item) → (ask_told a i).item.moment ≤ i.moment
unfolding ask_told
ask-soon Ask.int i = omega arith
ask-soon Ask.awaited i = omega arith
ask-soon Ask.regs i = omega arith

line-soon : (number : ℕ) (l : Line) (i : Item) → LineBound l → (line_step number l i).item.moment ≤ i.moment + 4294967296
unfolding line_step bad_step compared_step told_step fresh_item
line-soon number Line.silent i b = omega arith
line-soon number (Line.bad f) i b = omega arith
line-soon number (Line.item name) i b = omega arith
line-soon number Line.show i b = omega arith
line-soon number (Line.expect a ws) i b = omega arith
line-soon number (Line.read a ws) i b = later (transacted-soon i _)
line-soon number (Line.call c x) i (LineBound.call h _) = call-soon number c x i h
line-soon number (Line.ask a x) i b = later (ask-soon a i)
line-soon number (Line.keep k x) i b = later (keep-soon number k x i)

pub step-soon : (number : ℕ) (bytes : Text) (i : Item) → (step number bytes i).item.moment ≤ i.moment + 4294967296
unfolding step
step-soon number bytes i = line-soon number (line_of bytes) i (line-bound bytes)
