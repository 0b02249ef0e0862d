-- What the chip's replies come to, as lines. Assumes nothing.
use Prim.Native.Nat.{ℕ, ◌+◌}
use Prim.Native.String.{String}
use mathlib.Core.Bool.{true, false}
use mathlib.Core.List.{List, [], ◌∷◌, ◌++◌, append-nil, append_assoc}
use mathlib.Core.Path.{◌≡◌, refl, sym, ap, ◌∙◌}
use types.Run.{OneOf, miss}
use denote.Enum.Declared.{tag_of}
use lib.ListN.{length, replicate}
use Rattle.unit.specs.Choice.{pick}
use Rattle.numeral.specs.Ascii.{ascii}
use Rattle.numeral.specs.Print.{decimal}
use Rattle.device.specs.declared.Model.{Model}
use Rattle.device.specs.declared.Reply.{Reply}
use Rattle.device.specs.declared.StretchReport.{StretchReport}
use Rattle.device.specs.declared.Answer.TheVariants.{Stretched}
use Rattle.device.specs.Call.{Call as ChipCall, Verdict, verdict}
use Rattle.device.specs.Reply.{reply, reply_by, accepted_answer, number_in, output, memory}
use Rattle.device.specs.contracts.Answer.{the_type}
use Rattle.text.specs.Text.{Text}
use Rattle.text.specs.OwnPut.{Puts}
use Rattle.text.proofs.Putting.{puts_then}
use Rattle.item_line.specs.Line.{Output, Ask}
use Rattle.item_answer.specs.declared.Carried.{Carried}
use Rattle.item_answer.specs.Words.{answer_text, output_text, reports_to}
use Rattle.item_answer.specs.Answer.{Item, is_refusal, starts, transacted, transaction_told, size_of, bus_told, word_bytes, set_told, stretch_told, delivery_told, ask_told}
use Rattle.item_answer.specs.OwnView.{item_of}
use Rattle.item_chip_code.specs.declared.Answered.{Answered}
use Rattle.item_chip_code.specs.declared.Exchanged.{Exchanged}
use Rattle.item_chip_code.specs.OwnAnswered.{Answers, AnswersBeside, Exchanges, Tells, stretch_line, ask_line, ask_further}

-- The same text.
pub puts-as : {l l' : List ℕ} {at r : ℕ} {t s : Text} → t ≡ s → Puts l at t r l' → Puts l at s r l'
puts-as e p = rw (← e) p

-- A transaction.
pub exchanges : {c : Carried} {frame out flash out' flash' : List ℕ} {r : Reply} {moment : ℕ}
    → r ≡ reply c.model (ChipCall.transaction frame out flash) → out' ≡ output c.model (ChipCall.transaction frame out flash)
    → flash' ≡ memory c.model (ChipCall.transaction frame out flash) → moment ≡ pick (starts r.answer) 0 c.moment → length out' ≡ length out
    → Exchanges c frame out flash (record { carried = record { model = r.model; moment = moment; recorded = c.recorded; probes = c.probes }; answer = r.answer }) out' flash'
unfolding item_of transacted
exchanges same put stored since long = record { answer = rw same; output = put; long = long; item = λ ds es. rw (since, same, stored) }

module _ {c : Carried} {flash flash' out' : List ℕ} {e : Exchanged} {l : List ℕ} {at : ℕ} where
  -- `set`
  pub set-answers : (a : ℕ) (ws : List ℕ) {frame l' : List ℕ} {r : Answered} → frame ≡ a ∷ word_bytes ws
      → Exchanges c frame [] flash e out' flash' → Tells e.carried e.answer (ascii "set ") l at r l'
      → Answers (set_told a ws) c flash l at r flash' l'
  unfolding set_told transaction_told item_of ascii
  set-answers a ws {frame} {l'} {r} same x t =
      let y : Exchanges c (a ∷ word_bytes ws) [] flash e out' flash' = rw (← same) x in record {
        line = λ ds es. puts-as (ap (λ (s : Text). ascii "set " ++ s) (ap answer_text y.answer ∙ sym (append-nil _))) t.line;
        item = λ ds es. ap (λ (i : Carried). item_of i flash' ds es) t.carried ∙ y.item ds es;
        refused = λ ds es. t.refused ∙ ap is_refusal y.answer;
      }

  -- `bus`, whose output stands after its answer
  pub bus-answers : (o : Output) (bytes : List ℕ) {frame out k l' : List ℕ} {t r : Answered} → frame ≡ bytes → out ≡ replicate (size_of o bytes) 0xEE
      → Exchanges c frame out flash e out' flash' → Tells e.carried e.answer (ascii "bus ") l at t k
      → Puts k t.end (output_text out') r.end l' → r.carried ≡ e.carried → r.refused ≡ t.refused
      → Answers (bus_told o bytes) c flash l at r flash' l'
  unfolding bus_told transaction_told item_of ascii
  bus-answers o bytes {frame} {out} {k} {l'} {t} {r} same size x told put carried refused =
      let y : Exchanges c bytes (replicate (size_of o bytes) 0xEE) flash e out' flash' = rw (← size, ← same) x in
      let line = puts_then told.line put in
      let text : answer_text e.answer ++ output_text out' ≡ answer_text (reply c.model (ChipCall.transaction bytes (replicate (size_of o bytes) 0xEE) flash)).answer ++ output_text (output c.model (ChipCall.transaction bytes (replicate (size_of o bytes) 0xEE) flash)) = rw (y.answer, y.output) in record {
        line = λ ds es. puts-as (append_assoc (ascii "bus ") (answer_text e.answer) (output_text out') ∙ ap (λ (s : Text). ascii "bus " ++ s) text) line;
        item = λ ds es. ap (λ (i : Carried). item_of i flash' ds es) carried ∙ y.item ds es;
        refused = λ ds es. refused ∙ (told.refused ∙ ap is_refusal y.answer);
      }

-- ---- lines that do not reach the user flash

module _ {c : Carried} {l : List ℕ} {at : ℕ} {r : Answered} {l' : List ℕ} where
  -- `flight` and `temperature`
  pub delivery-answers : (keyword : String) (call : ChipCall) {p : Reply} → p ≡ reply c.model call
      → Tells (record { model = p.model; moment = c.moment; recorded = c.recorded; probes = c.probes }) p.answer (ascii keyword ++ ascii " ") l at r l'
      → AnswersBeside (delivery_told keyword call) c l at r l'
  unfolding delivery_told item_of
  delivery-answers keyword call {p} same t = record {
    any = λ flash. record {
      line = λ ds es. rw (← same) t.line;
      item = λ ds es. rw (t.carried, same);
      refused = λ ds es. rw (t.refused, same);
    };
  }

  -- `stretch`
  pub stretch-answers : (n : ℕ) {p : Reply} {f t : StretchReport} → p ≡ reply c.model (ChipCall.stretch n) → p.answer ≡ Stretched f t
      → Puts l at (ascii "stretch " ++ decimal n ++ reports_to n (Stretched f t)) r.end l'
      → r.carried ≡ record { model = p.model; moment = c.moment + n; recorded = c.recorded; probes = c.probes } → r.refused ≡ false
      → AnswersBeside (stretch_line n) c l at r l'
  unfolding stretch_line stretch_told is_refusal number_in item_of
  stretch-answers n {p} {f} {t} same is put carried refused =
      let told : (reply c.model (ChipCall.stretch n)).answer ≡ Stretched f t = rw (← same) is in record {
        any = λ flash. record {
          line = λ ds es. rw told put;
          item = λ ds es. rw (told, carried, same);
          refused = λ ds es. rw told refused;
        };
      }

-- A stretch is refused, or names its ticks.
stretch-sort : (m : Model) (n : ℕ) (v : Verdict) → OneOf (0 ∷ 1 ∷ 2 ∷ 4 ∷ 5 ∷ []) (tag_of the_type (reply_by v m (ChipCall.stretch n)).answer)
    → is_refusal (reply_by v m (ChipCall.stretch n)).answer ≡ true
unfolding is_refusal number_in reply_by accepted_answer
stretch-sort m n Verdict.accepted h = absurd (miss (0 ∷ 1 ∷ 2 ∷ 4 ∷ 5 ∷ []) 3 tt h)
stretch-sort m n (Verdict.refused number) h = refl

module _ {c : Carried} {l : List ℕ} {at : ℕ} {r : Answered} {l' : List ℕ} where
  pub stretch-refused : (n : ℕ) {p : Reply} → p ≡ reply c.model (ChipCall.stretch n) → OneOf (0 ∷ 1 ∷ 2 ∷ 4 ∷ 5 ∷ []) (tag_of the_type p.answer)
      → Tells c p.answer (ascii "stretch ") l at r l' → AnswersBeside (stretch_line n) c l at r l'
  unfolding stretch_line stretch_told item_of reply
  stretch-refused n {p} same sort t =
      let one : OneOf (0 ∷ 1 ∷ 2 ∷ 4 ∷ 5 ∷ []) (tag_of the_type (reply c.model (ChipCall.stretch n)).answer) = rw (← same) sort in
      let no : is_refusal (reply c.model (ChipCall.stretch n)).answer ≡ true = stretch-sort c.model n (verdict c.model (ChipCall.stretch n)) one in record {
        any = λ flash. record {
          line = λ ds es. rw (no, ← same) t.line;
          item = λ ds es. rw (no, t.carried);
          refused = λ ds es. rw (t.refused, same, no);
        };
      }

-- `int`, `awaited` and `regs`
ask-told : (a : Ask) (i : Item) → ((ask_told a i).line ≡ ask_line a i.model) × ((ask_told a i).item ≡ i) × ((ask_told a i).refused ≡ false)
unfolding ask_told ask_line
ask-told Ask.int i = (refl, refl, refl)
ask-told Ask.awaited i = (refl, refl, refl)
ask-told Ask.regs i = (refl, refl, refl)

pub ask-further : (a : Ask) (i : Item) → (ask_told a i).further ≡ ask_further a i.model
unfolding ask_told ask_further
ask-further Ask.int i = refl
ask-further Ask.awaited i = refl
ask-further Ask.regs i = refl

pub ask-answers : (a : Ask) {c : Carried} {l l' : List ℕ} {at end : ℕ} → Puts l at (ask_line a c.model) end l'
    → AnswersBeside (ask_told a) c l at (record { carried = c; end = end; refused = false }) l'
unfolding item_of
ask-answers a {c} {l} {l'} {at} {end} put = record {
  any = λ flash. record {
    line = λ ds es. puts-as (sym (ask-told a (item_of c flash ds es)).0) put;
    item = λ ds es. sym (ask-told a (item_of c flash ds es)).1;
    refused = λ ds es. sym (ask-told a (item_of c flash ds es)).2;
  };
}
