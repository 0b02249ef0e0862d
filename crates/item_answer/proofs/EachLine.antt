-- What a chip's call, a transaction and the lines `probe` and `record` each keep of an item, every line keeps. Assumes nothing.
use Prim.Native.Nat.{ℕ, zero, suc, ◌+◌, ◌-◌, ◌*◌, ◌≤◌, ◌<◌}
use native.Mathlib.Omega.{arith}
use mathlib.Core.List.{List, [], ◌∷◌, ◌++◌}
use lib.Dec.{ltb}
use lib.IntN.{ℤ}
use lib.ListN.{length, replicate}
use borrow.Author.Tests.{ltb-false}
use Rattle.unit.proofs.Cases.{by-test}
use Rattle.device.specs.declared.Model.{Model}
use Rattle.device.specs.Call.{Call as ChipCall}
use Rattle.device.specs.Reply.{reply}
use Rattle.register_words.specs.Words.{EachBelow, CallFits}
use Rattle.quietest.specs.Quietest.{quietest_place}
use Rattle.listing.specs.declared.Width.{Width}
use Rattle.listing.specs.Listing.{capture_digits, last_above}
use Rattle.text.specs.Text.{Text}
use Rattle.item_line.specs.Line.{Call, Ask, Keep, Line, Expected}
use Rattle.item_line.specs.Reading.{line_of}
use Rattle.item_line.specs.OwnBounds.{Below, Quanta, CallBound, KeepBound, LineBound}
use Rattle.item_line.proofs.Bounds.{signed-small, line-bound}
use Rattle.item_answer.specs.Answer.{Item, fresh_item, with_model, Result, told, fault, is_refusal, transacted, transaction_told, bus_told, word_bytes, set_told, ticked, ticks_told, at_result, stretch_told, delivery_told, frames_told, degrees_told, degrees_of, listing_told, quietest_told, call_result, ask_told, probe_result, added, record_result, keep_result}
use Rattle.item_answer.specs.Step.{bad_step, compared_step, told_step, result_step, line_step, step}
use Rattle.refusal.specs.declared.Refusal.{Refusal}
use Rattle.refusal.specs.Number.{number}
use Rattle.std.specs.Prelude.{Ok, Err}
use Rattle.std.specs.Prelude.{Result as ResultOf}

abbrev with_probes : Item → List ℕ → Item
with_probes i ns = record { model = i.model; flash = i.flash; recorded = i.recorded; probes = i.probes ++ ns; moment = i.moment }

abbrev with_differences : Item → List ℤ → Item
with_differences i ds = record { model = i.model; flash = i.flash; recorded = i.recorded ++ ds; probes = i.probes; moment = i.moment }

-- What has to be shown of each. The frame of a transaction is of bytes.
pub record Keeps (P : Item → Type 0) : Type 0 where
  pub fresh : P fresh_item
  pub time : (i : Item) (moment : ℕ) → P i → P (with_model i i.model moment)
  pub call : (i : Item) (c : ChipCall) → CallFits c → P i → P (with_model i (reply i.model c).model i.moment)
  pub frame : (i : Item) (f o : List ℕ) → EachBelow 256 f → P i → P (transacted i (ChipCall.transaction f o i.flash))
  pub entries : (i : Item) (ns : List ℕ) → Below 4294967296 ns → length (i.probes ++ ns) ≤ 1024 → P i → P (with_probes i ns)
  pub quanta : (i : Item) (ds : List ℤ) → Quanta ds → length (i.recorded ++ ds) ≤ 4096 → P i → P (with_differences i ds)

-- ---- the numbers of a line

pub same_bytes : (n b : ℕ) → b < 256 → EachBelow 256 (replicate n b)
same_bytes zero b h = tt
same_bytes (suc n) b h = (h, same_bytes n b h)

bytes_of : (bytes : List ℕ) → Below 256 bytes → EachBelow 256 bytes
bytes_of [] Below.none = tt
bytes_of (b ∷ bytes) (Below.more h hs) = (h, bytes_of bytes hs)

-- the words of a line `set`
word-bytes : (ws : List ℕ) → Below 65536 ws → EachBelow 256 (word_bytes ws)
unfolding word_bytes
word-bytes [] Below.none = tt
word-bytes (w ∷ ws) (Below.more h hs) = (omega arith, (omega arith, word-bytes ws hs))

added-quanta : (ds : List ℤ) (m : Model) → Quanta ds → Quanta (added ds m)
unfolding added
added-quanta [] m h = Quanta.more (signed-small _) Quanta.none
added-quanta (d ∷ ds) m h = h

-- ---- each line

module _ (P : Item → Type 0) (keeps : Keeps P) where
  -- what a result leaves; a fault leaves the item as it was
  abbrev Leaves : Result → Type 0
  Leaves (told a) = P a.item
  Leaves (fault f) = Unit

  -- ticks from a model that an item has at the moment which it gets
  from-model : (n first : ℕ) (i : Item) (m : Model) (moment : ℕ) → P (with_model i m moment) →
      P (with_model i (ticked n first m).model moment)
  unfolding ticked
  from-model zero first i m moment p = p
  from-model (suc n) first i m moment p =
      from-model n (first + 1) i (reply m ChipCall.tick).model moment (keeps.call (with_model i m moment) ChipCall.tick tt p)

  pub ticks-keep : (n first : ℕ) (i : Item) (moment : ℕ) → P i → P (with_model i (ticked n first i.model).model moment)
  ticks-keep n first i moment p = from-model n first i i.model moment (keeps.time i moment p)

  at-leaves : (t : ℕ) (i : Item) → P i → Leaves (at_result t i)
  unfolding at_result ticks_told
  at-leaves t i p =
      by-test (ltb t i.moment) (λ e. rw e tt) (λ e. rw e (ticks-keep (t - i.moment) (i.moment + 1) i _ p))

  stretch-keeps : (n : ℕ) (i : Item) → P i →
      P (stretch_told n (reply i.model (ChipCall.stretch n)).answer (reply i.model (ChipCall.stretch n)).model i).item
  unfolding stretch_told
  stretch-keeps n i p =
      by-test (is_refusal (reply i.model (ChipCall.stretch n)).answer) (λ e. rw e p)
      (λ e. rw e (keeps.time _ (i.moment + n) (keeps.call i (ChipCall.stretch n) tt p)))

  degrees-keeps : (d : ResultOf ℕ Refusal) (i : Item) → P i → P (degrees_told d i).item
  unfolding degrees_told
  degrees-keeps (Ok n) i p = p
  degrees-keeps (Err r) i p = p

  quietest-keeps : (width : ℕ) (place : ResultOf ℕ Refusal) (i : Item) → P i → P (quietest_told width place i).item
  unfolding quietest_told
  quietest-keeps width (Ok start) i p = p
  quietest-keeps width (Err r) i p = p

  listing-keeps : (width : Width) (first : ℕ) (i : Item) → P i → P (listing_told width first i).item
  unfolding listing_told
  listing-keeps width first i p =
      by-test (last_above (capture_digits width) first (length i.recorded)) (λ e. rw e p) (λ e. rw e p)

  call-leaves : (c : Call) (i : Item) → CallBound c → P i → Leaves (call_result c i)
  unfolding call_result bus_told set_told transaction_told ticks_told delivery_told frames_told
  call-leaves (Call.bus size frame) i (CallBound.bus o bytes few) p = keeps.frame i frame _ (bytes_of frame bytes) p
  call-leaves (Call.set a ws) i (CallBound.set low high ns some few) p =
      keeps.frame i (a ∷ word_bytes ws) _ (omega arith, word-bytes ws ns) p
  call-leaves (Call.tick n) i b p = ticks-keep n 1 i _ p
  call-leaves (Call.at t) i b p = at-leaves t i p
  call-leaves (Call.stretch n) i b p = stretch-keeps n i p
  call-leaves (Call.flight up down) i b p = keeps.call i (ChipCall.flight up down) tt p
  call-leaves (Call.temperature ws) i b p = keeps.call i (ChipCall.temperature ws) tt p
  call-leaves Call.frames i b p = p
  call-leaves (Call.degrees x y) i b p = degrees-keeps (degrees_of i.probes x y) i p
  call-leaves (Call.listing width first) i b p = listing-keeps width first i p
  call-leaves (Call.quietest width) i b p = quietest-keeps width (quietest_place i.recorded width) i p

  ask-keeps : (a : Ask) (i : Item) → P i → P (ask_told a i).item
  unfolding ask_told
  ask-keeps Ask.int i p = p
  ask-keeps Ask.awaited i p = p
  ask-keeps Ask.regs i p = p

  keep-leaves : (k : Keep) (i : Item) → KeepBound k → P i → Leaves (keep_result k i)
  unfolding keep_result probe_result record_result
  keep-leaves (Keep.probe ns) i (KeepBound.probe some few below) p =
      by-test (ltb 1024 (length (i.probes ++ ns))) (λ e. rw e tt)
      (λ e. rw e (keeps.entries i ns below (ltb-false 1024 (length (i.probes ++ ns)) e) p))
  keep-leaves (Keep.differences ds) i (KeepBound.differences few small) p =
      let all : List ℤ = i.recorded ++ added ds i.model in
      by-test (ltb 4096 (length all)) (λ e. rw e tt)
      (λ e. rw e (keeps.quanta i (added ds i.model) (added-quanta ds i.model small) (ltb-false 4096 (length all) e) p))

  result-keeps : (number calls : ℕ) (x : Expected) (r : Result) (i : Item) → P i → Leaves r →
      P (result_step number calls x r i).item
  unfolding result_step told_step bad_step
  result-keeps number calls x (told a) i p l = l
  result-keeps number calls x (fault f) i p l = p

  line-keeps : (number : ℕ) (l : Line) (i : Item) → LineBound l → P i → P (line_step number l i).item
  unfolding line_step compared_step told_step bad_step
  line-keeps number Line.silent i b p = p
  line-keeps number (Line.bad f) i b p = p
  line-keeps number (Line.item name) i b p = keeps.fresh
  line-keeps number Line.show i b p = p
  line-keeps number (Line.expect a ws) i b p = p
  line-keeps number (Line.read a ws) i (LineBound.read low high some four) p =
      keeps.frame i (a ∷ replicate (2 * length ws) 0) _ (omega arith, same_bytes (2 * length ws) 0 (omega arith)) p
  line-keeps number (Line.call c x) i (LineBound.call b e) p =
      result-keeps number 1 x (call_result c i) i p (call-leaves c i b p)
  line-keeps number (Line.ask a x) i b p = ask-keeps a i p
  line-keeps number (Line.keep k x) i (LineBound.keep b e) p =
      result-keeps number 0 x (keep_result k i) i p (keep-leaves k i b p)

  pub step_keeps : (number : ℕ) (bytes : Text) (i : Item) → P i → P (step number bytes i).item
  unfolding step
  step_keeps number bytes i p = line-keeps number (line_of bytes) i (line-bound bytes) p
