-- How long the answers of transactions, deliveries and stretches are at most. Assumes nothing.
use Prim.Native.Nat.{ℕ, ◌+◌, ◌-◌, ◌*◌, ◌/◌, ◌%◌, ◌≤◌}
use mathlib.Core.Bool.{Bool, true, false}
use mathlib.Core.List.{List, [], ◌∷◌}
use mathlib.Core.Path.{◌≡◌, refl, ◌∙◌}
use native.Mathlib.Omega.{arith}
use lib.Dec.{eqb, ltb}
use lib.ListN.{length, get_or, set, take, drop, replicate, length-set, length-replicate}
use Rattle.unit.specs.Choice.{pick}
use Rattle.flash.specs.Flash.{first_word}
use Rattle.numeral.proofs.PrintLaws.{length-hex-bytes}
use Rattle.device.specs.declared.Model.{Model}
use Rattle.device.specs.declared.Report.{Report}
use Rattle.device.specs.declared.StretchReport.{StretchReport}
use Rattle.device.specs.declared.Answer.{Answer}
use Rattle.device.specs.declared.Answer.TheVariants.{Refused, Accepted, Ticked, Stretched, Good, Failed}
use Rattle.frame.specs.Frame.{is_command, is_write, is_flash}
use Rattle.device.specs.Call.{Call, opcode, words, Verdict, accepted, refused, verdict}
use Rattle.device.specs.FlashFrame.{flash_output}
use Rattle.device.specs.Reply.{reply, accepted_output, buffer_of, output_by, output}
use Rattle.device.proofs.RegisterMeaning.{fill-length}
use Rattle.numeral.specs.Ascii.{ascii}
use Rattle.wording.specs.Wording.{started, bus_answer, output_buffer, bus, set as set_texts, delivery_answer, delivery, reported_where, kind_reports, quiet, ticked, single, report_at, tick_reports, next_named, later_named, named, stretched, stretch}
use Rattle.item_calls.specs.Lines.{WithFlash}
use Rattle.item_calls.specs.Buffer.{buffer_size}
use Rattle.answer_text.specs.Texts.{told_of_transaction, told_of_bus, told_of_set, told_of_single, told_of_stretch, told_of_delivery}
use Rattle.answer_length.proofs.Sizes.{size, size-append, cond-size, take-most, decimal-most, decimal-word, refusal-size}
use Rattle.refusal.specs.Number.{number}

-- ---- transactions

pick-long : (b : Bool) (x y : List ℕ) (n : ℕ) → length x ≡ n → length y ≡ n → length (pick b x y) ≡ n
pick-long true x y n h k = h
pick-long false x y n h k = k

-- A transaction leaves an output buffer as long as it was.
first-long : (o : List ℕ) (w : ℕ) → length (first_word o w) ≡ length o
unfolding first_word
first-long o w = length-set (set o 0 (w / 256 % 256)) 1 (w % 256) ∙ length-set o 0 (w / 256 % 256)

flash-long : (op : ℕ) (b o x : List ℕ) → length (flash_output op b o x) ≡ length o
unfolding flash_output
flash-long op b o x = pick-long (eqb op 0x90) _ o (length o) (first-long o _) refl

accepted-long : (m : Model) (f o x : List ℕ) → length (accepted_output m (Call.transaction f o x)) ≡ length o
unfolding accepted_output
accepted-long m f o x =
    pick-long (is_command (opcode f)) o _ (length o) refl
    (pick-long (is_write (opcode f)) o _ (length o) refl
    (pick-long (is_flash (opcode f)) _ _ (length o) (flash-long (opcode f) (drop 1 f) o x) (fill-length m (opcode f) o (words f))))

output-long : (m : Model) (f o x : List ℕ) → length (output m (Call.transaction f o x)) ≡ length o
unfolding output output_by buffer_of
output-long m f o x = go (verdict m (Call.transaction f o x))
  where
    go : (v : Verdict) → length (output_by v m (Call.transaction f o x)) ≡ length o
    go accepted = accepted-long m f o x
    go (refused n) = refl

started-size : (flight temperature : Bool) → size (started flight temperature) ≤ 22
unfolding size started ascii
started-size true true = omega arith
started-size true false = omega arith
started-size false true = omega arith
started-size false false = omega arith

bus-answer-size : (answer : Answer) → size (bus_answer answer) ≤ 40
unfolding size bus_answer
bus-answer-size (Refused r) = refusal-size (number r)
bus-answer-size (Accepted flight temperature) = omega (arith, started-size flight temperature)
bus-answer-size (Ticked flight temperature) = omega arith
bus-answer-size (Stretched flight temperature) = omega arith
bus-answer-size Good = omega arith
bus-answer-size Failed = omega arith

buffer-size : (bytes : List ℕ) → size (output_buffer bytes) ≤ 5 + 2 * length bytes
unfolding size output_buffer ascii
buffer-size [] = omega arith
buffer-size (b ∷ bs) = rw (length-hex-bytes (b ∷ bs)) (omega arith)

bus-size : (answer : Answer) (bytes : List ℕ) → size (bus answer bytes) ≤ 49 + 2 * length bytes
unfolding size bus ascii
bus-size answer bytes =
    rw (size-append, size-append) (omega (arith, bus-answer-size answer, buffer-size bytes))

pub told-bus-size : (bytes : List ℕ) (n : ℕ) (s : WithFlash) → n ≤ 202 → size (told_of_bus bytes n s).texts ≤ 453
unfolding told_of_bus told_of_transaction
told-bus-size bytes n s h =
    let call : Call = Call.transaction bytes (replicate n 0xEE) s.flash in
    omega (
      arith,
      bus-size (reply s.model call).answer (output s.model call),
      output-long s.model bytes (replicate n 0xEE) s.flash,
      length-replicate {A = ℕ} n 0xEE,
    )

-- the output buffer of a frame of at most 200 bytes
pub buffer-most : (n : ℕ) (numbers : List ℕ) → n ≤ 200 → buffer_size (take n numbers) ≤ 202
unfolding buffer_size
buffer-most n numbers h =
    let bs : List ℕ = take n numbers in
    pick-most (eqb (length bs) 0) 0 _ (omega arith)
    (pick-most (eqb (get_or bs 0 0) 144) 2 _ (omega arith)
    (pick-most (ltb (get_or bs 0 0) 176) 0 ((length bs - 1) / 2 * 2) (omega arith) (omega (arith, (take-most n numbers).0))))
  where
    pick-most : (b : Bool) (x y : ℕ) → x ≤ 202 → y ≤ 202 → pick b x y ≤ 202
    pick-most true x y p q = p
    pick-most false x y p q = q

set-size : (answer : Answer) → size (set_texts answer) ≤ 44
unfolding size set_texts ascii
set-size answer = rw size-append (omega (arith, bus-answer-size answer))

pub told-set-size : (a : ℕ) (ws : List ℕ) (s : WithFlash) → size (told_of_set a ws s).texts ≤ 44
unfolding told_of_set told_of_transaction
told-set-size a ws s = set-size _

-- ---- deliveries

delivery-answer-size : (answer : Answer) → size (delivery_answer answer) ≤ 40
unfolding size delivery_answer ascii
delivery-answer-size (Refused r) = refusal-size (number r)
delivery-answer-size (Accepted flight temperature) = omega arith
delivery-answer-size (Ticked flight temperature) = omega arith
delivery-answer-size (Stretched flight temperature) = omega arith
delivery-answer-size Good = omega arith
delivery-answer-size Failed = omega arith

pub told-delivery-size : (kind : List ℕ) (call : Call) (m : Model) (counts : List ℕ)
    → size (told_of_delivery kind call m counts).texts ≤ length kind + 41
unfolding size told_of_delivery delivery
told-delivery-size kind call m counts = rw size-append (omega (arith, delivery-answer-size (reply m call).answer))

-- ---- one tick

where-size : (b : Bool) (t : List ℕ) → size (reported_where b t) ≤ length t
unfolding size reported_where
where-size true t = omega arith
where-size false t = omega arith

kind-size : (report : Report) (failed started : List ℕ) → size (kind_reports report failed started) ≤ length failed + length started
unfolding kind_reports
kind-size report failed started =
    rw size-append (omega (arith, where-size report.failed failed, where-size report.started started))

ticked-size : (flight temperature : Report) → size (ticked flight temperature) ≤ 83
unfolding size ticked ascii
ticked-size flight temperature =
    rw (size-append, size-append)
    (omega (
      arith,
      kind-size flight (ascii " failed-flight@1") (ascii " started-flight@1"),
      kind-size temperature (ascii " failed-temperature@1") (ascii " started-temperature@1"),
    ))

single-size : (answer : Answer) → size (single answer) ≤ 83
unfolding size single ascii
single-size (Refused r) = omega arith
single-size (Accepted flight temperature) = omega arith
single-size (Ticked flight temperature) = cond-size (quiet flight temperature) (ascii "tick 1\n" ∷ []) _ 83 (omega arith) (ticked-size flight temperature)
single-size (Stretched flight temperature) = omega arith
single-size Good = omega arith
single-size Failed = omega arith

pub told-single-size : (m : Model) (counts : List ℕ) → size (told_of_single m counts).texts ≤ 83
unfolding told_of_single
told-single-size m counts = single-size _

-- ---- stretches

report-size : (b : Bool) (what : List ℕ) (n : ℕ) → size (report_at b what (n % 4294967296)) ≤ length what + 10
unfolding size report_at
report-size true what n = omega (arith, decimal-word (n % 4294967296) (omega arith))
report-size false what n = omega arith

reports-size : (flight temperature : StretchReport) (i done : ℕ) → size (tick_reports flight temperature i done) ≤ 112
unfolding tick_reports ascii
reports-size flight temperature i done =
    rw (size-append, size-append, size-append)
    (omega (
      arith,
      report-size (eqb flight.failed.0 i) (ascii " failed-flight@") (done + i),
      report-size (eqb flight.started.0 i) (ascii " started-flight@") (done + i),
      report-size (eqb temperature.failed.0 i) (ascii " failed-temperature@") (done + i),
      report-size (eqb temperature.started.0 i) (ascii " started-temperature@") (done + i),
    ))

pub named-size : (flight temperature : StretchReport) (done : ℕ) → size (named flight temperature done) ≤ 448
unfolding named later_named
named-size flight temperature done =
    let first : ℕ = next_named flight temperature 0 in
    let second : ℕ = next_named flight temperature first in
    let third : ℕ = next_named flight temperature second in
    rw (size-append, size-append, size-append)
    (omega (
      arith,
      reports-size flight temperature first done,
      reports-size flight temperature second done,
      reports-size flight temperature third done,
      reports-size flight temperature (next_named flight temperature third) done,
    ))

stretched-size : (answer : Answer) (n : ℕ) → size (stretched answer n) ≤ 469
unfolding size stretched ascii
stretched-size (Refused r) n = omega (arith, refusal-size (number r))
stretched-size (Accepted flight temperature) n = omega arith
stretched-size (Ticked flight temperature) n = omega arith
stretched-size (Stretched flight temperature) n = omega (arith, decimal-most n, named-size flight temperature 0)
stretched-size Good n = omega arith
stretched-size Failed n = omega arith

pub told-stretch-size : (n : ℕ) (m : Model) (counts : List ℕ) → size (told_of_stretch n m counts).texts ≤ 477
unfolding size told_of_stretch stretch ascii
told-stretch-size n m counts = rw size-append (omega (arith, stretched-size (reply m (Call.stretch n)).answer n))
