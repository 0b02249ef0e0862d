-- How long the answers of lines are at most. Assumes nothing.
use Prim.Native.Nat.{ℕ, zero, suc, ◌+◌, ◌-◌, ◌*◌, ◌/◌, ◌≤◌, ◌<◌}
use Prim.Native.String.{String}
use native.Mathlib.Omega.{arith}
use native.Mathlib.Nat.{mul-le-mul_left}
use mathlib.Core.Bool.{Bool, true, false}
use mathlib.Core.List.{List, [], ◌∷◌, ◌++◌, map}
use mathlib.Core.Path.{◌≡◌, refl, ◌∙◌}
use lib.Dec.{ltb, leb, eqb}
use borrow.Author.Tests.{le-leb, ne_eqb}
use lib.IntN.{ℤ, pos, nat_abs}
use lib.Signed.{lt_z}
use lib.ListN.{length, get_or, set, drop, replicate, length-append, length-set, length-take, length-map, length-replicate}
use Rattle.unit.specs.Choice.{pick}
use Rattle.unit.proofs.Cases.{by-test, by-leb, by_eqb}
use Rattle.frame.specs.Frame.{is_command, is_write, is_flash}
use Rattle.flash.specs.Flash.{first_word}
use Rattle.numeral.specs.Ascii.{ascii}
use Rattle.numeral.specs.Digit.{digits}
use Rattle.numeral.specs.Print.{decimal, thousandths}
use Rattle.numeral.proofs.DigitLaws.{length_digits}
use Rattle.numeral.proofs.PrintLaws.{length-hex-bytes}
use Rattle.device.specs.declared.Model.{Model}
use Rattle.device.specs.declared.StretchReport.{StretchReport}
use Rattle.device.specs.declared.Answer.{Answer}
use Rattle.device.specs.declared.Answer.TheVariants.{Refused, Accepted, Ticked, Stretched, Good, Failed}
use Rattle.device.specs.Stretch.{stretch_report}
use Rattle.device.specs.FlashFrame.{flash_output}
use Rattle.device.specs.Call.{Call as ChipCall, opcode, words as frame_words, Verdict, accepted, refused, verdict}
use Rattle.device.specs.Event.{is_awaited}
use Rattle.device.specs.Question.{interrupt_pending}
use Rattle.device.specs.Reply.{reply, reply_by, accepted_answer, accepted_output, buffer_of, output_by, output, number_in, flag}
use Rattle.device.proofs.RegisterMeaning.{fill-length}
use Rattle.setup_frames.specs.Frames.{differs, starts, run_length, bytes_of, frame_at, frames_from, frames}
use Rattle.quietest.specs.Quietest.{quietest_place, spread}
use Rattle.listing.specs.declared.Width.{Width}
use Rattle.listing.specs.declared.Width.TheVariants.{Two, Eight}
use Rattle.listing.specs.Listing.{capture_digits, line_length, last_above}
use Rattle.listing.proofs.Meaning.{lines-length}
use Rattle.text.specs.Text.{Text, ended, ended_each, spaced_each, spaced, text_where, fits}
use Rattle.text.proofs.Lengths.{decimal-most, pick-most, where-most, spaced-none, spaced-first, spaced-least, lines_none, lines-first}
use Rattle.item_page.specs.Row.{refusal, word}
use Rattle.item_page.proofs.Room.{refusal-most, page-most}
use Rattle.item_line.specs.Line.{Fault, Output, Call, Ask, Keep, Expected, Wanted, Line}
use Rattle.item_line.specs.Reading.{line_of}
use Rattle.item_line.specs.OwnBounds.{Fours, Quanta, OutputBound, CallBound, KeepBound, ExpectedBound, LineBound}
use Rattle.item_line.proofs.Bounds.{line-bound}
use Rattle.item_answer.specs.Words.{started, answer_text, output_text, report, reports, reports_at, reports_to, registers, register_line, register_lines, difference, differences, joined, verdict as verdict_text, quanta, frame_line, shown, fault_text, fault_line}
use Rattle.item_answer.specs.Answer.{Item, Told, Result, told, fault, is_refusal, transaction, transaction_told, word_bytes, frame_size, size_of, bus_told, set_told, stretch_told, delivery_told, frames_told, degrees_told, degrees_of, listing_told, quietest_told, call_result, int_text, awaited_text, ask_told, probe_result, added, record_result, keep_result}
use Rattle.item_answer.specs.Step.{bad_step, compared_step, disagrees, expected_text, told_step, result_step, line_step, step}
use Rattle.item_answer.specs.OwnRoom.{runs_ticks, is_ticks}
use Rattle.item_answer.specs.OwnKept.{Kept}
use Rattle.refusal.specs.declared.Refusal.{Refusal}
use Rattle.refusal.specs.Number.{number, value_told}
use Rattle.std.specs.Prelude.{Ok, Err}
use Rattle.std.specs.Prelude.{Result as ResultOf}

-- ---- bad lines

shown-most : (w : Text) → length (shown w) ≤ 34
unfolding shown ascii
shown-most w =
    simp (length-append, length-map)
    (omega (arith, length-take 32 w, where-most (ltb 32 (length w)) (ascii "..")))

fault-most : (f : Fault) → length (fault_text f) ≤ 50
unfolding fault_text ascii
fault-most Fault.too_long = omega arith
fault-most (Fault.unknown_word w) = omega (arith, shown-most w)
fault-most (Fault.bad_number w) = omega (arith, shown-most w)
fault-most Fault.wrong_count = omega arith
fault-most Fault.past = omega arith
fault-most Fault.no_room = omega arith

bad-most : (number : ℕ) (f : Fault) (i : Item) → length (bad_step number f i).text ≤ 98304
unfolding bad_step ended fault_line ascii
bad-most number f i = simp length-append (omega (arith, decimal-most number, fault-most f))

-- ---- ticks and stretches

report-most : (happened : Bool) (what : String) (i : ℕ) → length (report happened what i) ≤ length (ascii what) + 22
unfolding report ascii
report-most happened what i =
    let all : length (ascii " " ++ ascii what ++ ascii "@" ++ decimal i) ≤ length (ascii what) + 22 =
    simp length-append (omega (arith, decimal-most i)) in
    omega (arith, all, where-most happened (ascii " " ++ ascii what ++ ascii "@" ++ decimal i))

reports-most : (a b c d : Bool) (i : ℕ) → length (reports a b c d i) ≤ 200
unfolding reports ascii
reports-most a b c d i =
    simp length-append
    (omega (
      arith,
      report-most a "failed-flight" i,
      report-most b "started-flight" i,
      report-most c "failed-temperature" i,
      report-most d "started-temperature" i,
    ))

-- What one tick reports.
pub reports-room : (i : ℕ) (a : Answer) → length (reports_at i a) ≤ 200
unfolding reports_at
reports-room i (Refused r) = omega arith
reports-room i (Accepted flight temperature) = omega arith
reports-room i (Ticked flight temperature) =
    reports-most flight.failed flight.started temperature.failed temperature.started i
reports-room i (Stretched flight temperature) =
    reports-most (eqb flight.failed.0 i) (eqb flight.started.0 i) (eqb temperature.failed.0 i)
    (eqb temperature.started.0 i)
    i
reports-room i Good = omega arith
reports-room i Failed = omega arith

-- a stretch names each of its four ticks at most once: what is said of tick t, of those up to tick n
abbrev once : ℕ → ℕ → ℕ
once t n = pick (leb t n) 41 0

said-once : (t n : ℕ) (what : String) → length (ascii what) ≤ 19 → once t n + length (report (eqb t (suc n)) what (suc n)) ≤ once t (suc n)
unfolding report text_where
said-once t n what short =
    by-leb t n
    (λ h e. rw (e, le-leb t (suc n) (omega arith), ne_eqb t (suc n) (λ q. omega (arith, q))) (omega arith))
    (λ h e. by_eqb t (suc n)
    (λ p f. rw (e, f, le-leb t (suc n) (omega arith)) (omega (arith, most)))
    (λ p f. rw (e, f) (omega arith)))
  where
    most : length (pick true (ascii " " ++ ascii what ++ ascii "@" ++ decimal (suc n)) []) ≤ 41
    most = omega (arith, report-most true what (suc n))

said-least : (t n : ℕ) → once t n ≤ 41
said-least t n = by-leb t n (λ h e. rw e (omega arith)) (λ h e. rw e (omega arith))

said-to :
    (f t : StretchReport) (n : ℕ) →
    length (reports_to n (Stretched f t)) ≤ once f.failed.0 n + once f.started.0 n + once t.failed.0 n + once t.started.0 n
unfolding reports_to reports_at reports ascii
said-to f t zero = omega arith
said-to f t (suc n) =
    simp length-append
    (omega (
      arith,
      said-to f t n,
      said-once f.failed.0 n "failed-flight" (omega arith),
      said-once f.started.0 n "started-flight" (omega arith),
      said-once t.failed.0 n "failed-temperature" (omega arith),
      said-once t.started.0 n "started-temperature" (omega arith),
    ))

stretched-most : (f t : StretchReport) (n : ℕ) → length (reports_to n (Stretched f t)) ≤ 164
stretched-most f t n =
    omega (
      arith,
      said-to f t n,
      said-least f.failed.0 n,
      said-least f.started.0 n,
      said-least t.failed.0 n,
      said-least t.started.0 n,
    )

-- what a line answers, except what it expects
abbrev Fits : Told → Type 0
Fits t = length t.line + length t.further ≤ 97000

stretch-fits : (v : Verdict) (m after : Model) (n : ℕ) (i : Item) → Fits (stretch_told n (reply_by v m (ChipCall.stretch n)).answer after i)
unfolding reply_by accepted_answer stretch_told is_refusal number_in answer_text ascii
stretch-fits accepted m after n i =
    let f : StretchReport = stretch_report m.flight.schedule n in
    let t : StretchReport = stretch_report m.temperature.schedule n in
    simp length-append (omega (arith, decimal-most n, stretched-most f t n))
stretch-fits (refused r) m after n i = omega (arith, refusal-most (number r))

-- ---- transactions and deliveries

answer-most : (a : Answer) → length (answer_text a) ≤ 39
unfolding answer_text started ascii
answer-most (Refused r) = refusal-most (number r)
answer-most (Accepted true true) = omega arith
answer-most (Accepted true false) = omega arith
answer-most (Accepted false true) = omega arith
answer-most (Accepted false false) = omega arith
answer-most (Ticked flight temperature) = omega arith
answer-most (Stretched flight temperature) = omega arith
answer-most Good = omega arith
answer-most Failed = omega arith

-- a transaction leaves an output buffer as long as it was
flash-long : (op : ℕ) (b o x : List ℕ) → length (flash_output op b o x) ≡ length o
unfolding flash_output first_word
flash-long op b o x =
    by-test (eqb op 0x90) (λ e. rw e (length-set (set o 0 _) 1 _ ∙ length-set o 0 _)) (λ e. rw e refl)

accepted-long : (m : Model) (f o x : List ℕ) → length (accepted_output m (ChipCall.transaction f o x)) ≡ length o
unfolding accepted_output
accepted-long m f o x =
    by-test (is_command (opcode f)) (λ e. rw e refl)
    (λ e. by-test (is_write (opcode f)) (λ g. rw (e, g) refl)
    (λ g. by-test (is_flash (opcode f)) (λ h. rw (e, g, h) (flash-long (opcode f) (drop 1 f) o x))
    (λ h. rw (e, g, h) (fill-length m (opcode f) o (frame_words f)))))

output-long : (m : Model) (f o x : List ℕ) → length (output m (ChipCall.transaction f o x)) ≡ length o
unfolding output output_by buffer_of
output-long m f o x = go (verdict m (ChipCall.transaction f o x))
  where
    go : (v : Verdict) → length (output_by v m (ChipCall.transaction f o x)) ≡ length o
    go accepted = accepted-long m f o x
    go (refused n) = refl

output-most : (bytes : List ℕ) → length (output_text bytes) ≤ 5 + 2 * length bytes
unfolding output_text ascii
output-most [] = omega arith
output-most (b ∷ bs) = omega (arith, length-hex-bytes (b ∷ bs))

frame-size-most : (frame : List ℕ) → length frame ≤ 200 → frame_size frame ≤ 200
unfolding frame_size
frame-size-most [] h = omega arith
frame-size-most (op ∷ further) h =
    by-test (leb 0xB0 op) (λ e. rw e (omega arith))
    (λ e. by-test (eqb op 0x90) (λ f. rw (e, f) (omega arith)) (λ f. rw (e, f) (omega arith)))

size-most : (o : Output) (frame : List ℕ) → OutputBound o → length frame ≤ 200 → size_of o frame ≤ 200
unfolding size_of
size-most Output.by_frame frame b h = frame-size-most frame h
size-most (Output.out_of n) frame (OutputBound.out_of few) h = few

bus-fits : (o : Output) (frame : List ℕ) (i : Item) → OutputBound o → length frame ≤ 200 → Fits (bus_told o frame i)
unfolding bus_told transaction_told ascii
bus-fits o frame i b h =
    let n : ℕ = size_of o frame in
    let c : ChipCall = ChipCall.transaction frame (replicate n 0xEE) i.flash in
    simp length-append
    (omega (
      arith,
      answer-most (reply i.model c).answer,
      output-most (output i.model c),
      output-long i.model frame (replicate n 0xEE) i.flash,
      length-replicate {A = ℕ} n 0xEE,
      size-most o frame b h,
    ))

set-fits : (a : ℕ) (ws : List ℕ) (i : Item) → Fits (set_told a ws i)
unfolding set_told transaction_told ascii
set-fits a ws i =
    simp length-append (omega (arith, answer-most (reply i.model (transaction i (a ∷ word_bytes ws) 0)).answer))

delivery-fits : (keyword : String) (c : ChipCall) (i : Item) → length (ascii keyword) ≤ 11 → Fits (delivery_told keyword c i)
unfolding delivery_told ascii
delivery-fits keyword c i h = simp length-append (omega (arith, h, answer-most (reply i.model c).answer))

-- ---- registers and frames

-- numbers in k hexadecimal digits, each after a blank
digits-each : (k : ℕ) (ns : List ℕ) → length (spaced_each (map (digits 16 k) ns)) ≡ length ns * suc k
digits-each k [] = rw spaced-none (omega arith)
digits-each k (n ∷ ns) = rw (spaced-first, length_digits 16 k n) (omega (arith, digits-each k ns))

registers-many : (m : Model) (a n : ℕ) → length (registers m a n) ≡ n
unfolding registers
registers-many m a zero = refl
registers-many m a (suc n) = omega (arith, registers-many m (a + 1) n)

register-line : (m : Model) (a : ℕ) → length (register_line m a) ≡ 42
unfolding register_line
register-line m a =
    rw (length-append, length_digits 16 2 a, digits-each 4 (registers m a 8), registers-many m a 8) (omega arith)

register-lines : (m : Model) (a n : ℕ) → length (ended_each (register_lines m a n)) ≡ n * 43
unfolding register_lines
register-lines m a zero = rw lines_none (omega arith)
register-lines m a (suc n) = rw (lines-first, register-line m a) (omega (arith, register-lines m (a + 8) n))

run-most : (s : List ℕ) (i k : ℕ) → run_length s i k ≤ k
unfolding run_length
run-most s i zero = omega arith
run-most s i (suc k) =
    by-test (differs s i) (λ e. rw e (omega (arith, run-most s (suc i) k))) (λ e. rw e (omega arith))

bytes-many : (s : List ℕ) (i n : ℕ) → length (bytes_of s i n) ≡ 2 * n
unfolding bytes_of
bytes-many s i zero = omega arith
bytes-many s i (suc n) = omega (arith, bytes-many s (suc i) n)

frame-most : (s : List ℕ) (i : ℕ) → length (frame_line (frame_at s i)) ≤ 104
unfolding frame_line frame_at ascii
frame-most s i =
    let n : ℕ = run_length s i (16 - i) in
    omega (arith, digits-each 2 (frame_at s i), bytes-many s i n, run-most s i (16 - i))

frames-most : (s : List ℕ) (i k : ℕ) → length (ended_each (map frame_line (frames_from s i k))) ≤ k * 105
unfolding frames_from
frames-most s i zero = rw lines_none (omega arith)
frames-most s i (suc k) =
    by-test (starts s i)
    (λ e. rw (e, lines-first) (omega (arith, frame-most s i, frames-most s (suc i) k)))
    (λ e. rw e (omega (arith, frames-most s (suc i) k)))

frames-fits : (i : Item) → Fits (frames_told i)
unfolding frames_told frames ascii
frames-fits i =
    omega (arith, decimal-most (length (frames_from i.model.setup 0 16)), frames-most i.model.setup 0 16)

ask-fits : (a : Ask) (i : Item) → Fits (ask_told a i)
unfolding ask_told int_text awaited_text ascii
ask-fits Ask.int i =
    let pending : Bool = eqb (get_or (value_told (interrupt_pending i.model)) 0 0) 1 in
    omega (arith, pick-most pending (ascii "int yes") (ascii "int no") 7 (omega arith) (omega arith))
ask-fits Ask.awaited i =
    simp length-append
    (omega (
      arith,
      decimal-most (flag (is_awaited i.model.flight.schedule)),
      decimal-most (flag (is_awaited i.model.temperature.schedule)),
    ))
ask-fits Ask.regs i = omega (arith, register-line i.model 0xB0, register-lines i.model 0xB8 9)

-- ---- the record and the probe table

refusing-most : (keyword : String) (number : ℕ) → length (ascii keyword ++ ascii " " ++ refusal number) ≤ length (ascii keyword) + 40
unfolding ascii
refusing-most keyword number = simp length-append (omega (arith, refusal-most number))

degrees-fits : (d : ResultOf ℕ Refusal) (i : Item) → Fits (degrees_told d i)
unfolding degrees_told thousandths digits ascii
degrees-fits (Ok n) i = simp length-append (omega (arith, decimal-most (n / 1000)))
degrees-fits (Err r) i = omega (arith, refusing-most "degrees" (number r))

quietest-fits : (width : ℕ) (p : ResultOf ℕ Refusal) (i : Item) → Fits (quietest_told width p i)
unfolding quietest_told ascii
quietest-fits width (Ok start) i =
    simp length-append (omega (arith, decimal-most start, decimal-most (nat_abs (spread i.recorded start width))))
quietest-fits width (Err r) i = omega (arith, refusing-most "quietest" (number r))

quanta-fit : (ds : List ℤ) → Quanta ds → (k : ℕ) → k < length ds → nat_abs (get_or ds k (pos 0)) ≤ 2147483648
quanta-fit [] Quanta.none k h = absurd (omega (arith, h))
quanta-fit (d ∷ ds) (Quanta.more p ps) zero h = p
quanta-fit (d ∷ ds) (Quanta.more p ps) (suc k) h = quanta-fit ds ps k (omega arith)

line-wide : (w : Width) → line_length (capture_digits w) ≤ 23
unfolding line_length
line-wide Two = omega arith
line-wide Eight = omega arith

listing-fits : (w : Width) (first : ℕ) (i : Item) → Kept i → Fits (listing_told w first i)
unfolding listing_told ascii
listing-fits w first i k =
    let d : ℕ = capture_digits w in
    let long = lines-length d first i.recorded (quanta-fit i.recorded k.quanta) in
    let wide : length i.recorded * line_length d ≤ length i.recorded * 23 =
    mul-le-mul_left (length i.recorded) (line-wide w) in
    by-test (last_above d first (length i.recorded)) (λ e. rw e (omega (arith, refusing-most "listing" 20)))
    (λ e. rw e (omega (arith, decimal-most (length i.recorded), long, wide, k.recorded)))

-- a difference, with its sign
quanta-most : (z : ℤ) → length (quanta z) ≤ 21
unfolding quanta ascii
quanta-most z = simp length-append (omega (arith, where-most (lt_z z (pos 0)) (ascii "-"), decimal-most (nat_abs z)))

differences-each : (ds : List ℤ) → length (spaced_each (map quanta ds)) ≤ length ds * 22
differences-each [] = rw spaced-none (omega arith)
differences-each (d ∷ ds) = rw spaced-first (omega (arith, quanta-most d, differences-each ds))

added-few : (ds : List ℤ) (m : Model) → length ds ≤ 500 → length (added ds m) ≤ 500
unfolding added
added-few [] m h = omega arith
added-few (d ∷ ds) m h = h

abbrev ResultFits : Result → Type 0
ResultFits (told t) = Fits t
ResultFits (fault f) = Unit

keep-fits : (k : Keep) (i : Item) → KeepBound k → ResultFits (keep_result k i)
unfolding keep_result probe_result record_result ascii
keep-fits (Keep.probe ns) i b =
    let table : List ℕ = i.probes ++ ns in
    by-test (ltb 1024 (length table)) (λ e. rw e tt) (λ e. rw e (omega (arith, decimal-most (length table))))
keep-fits (Keep.differences ds) i (KeepBound.differences few small) =
    let more : List ℤ = added ds i.model in
    by-test (ltb 4096 (length (i.recorded ++ more))) (λ e. rw e tt)
    (λ e. rw e (omega (arith, differences-each more, added-few ds i.model few)))

-- ---- every call

ticks-not : {A : Type 0} → true ≡ false → A
ticks-not e = let z : ◌≡◌ {A = ℕ} 0 1 = cc in absurd (omega arith)

call_fits : (c : Call) (i : Item) → CallBound c → Kept i → runs_ticks c ≡ false → ResultFits (call_result c i)
unfolding call_result runs_ticks reply ascii
call_fits (Call.bus o bytes) i (CallBound.bus ob below few) k e = bus-fits o bytes i ob few
call_fits (Call.set a ws) i b k e = set-fits a ws i
call_fits (Call.tick n) i b k e = ticks-not e
call_fits (Call.at t) i b k e = ticks-not e
call_fits (Call.stretch n) i b k e = stretch-fits (verdict i.model (ChipCall.stretch n)) i.model _ n i
call_fits (Call.flight up down) i b k e = delivery-fits "flight" (ChipCall.flight up down) i (omega arith)
call_fits (Call.temperature ws) i b k e = delivery-fits "temperature" (ChipCall.temperature ws) i (omega arith)
call_fits Call.frames i b k e = frames-fits i
call_fits (Call.degrees x y) i b k e = degrees-fits (degrees_of i.probes x y) i
call_fits (Call.listing w first) i b k e = listing-fits w first i k
call_fits (Call.quietest w) i b k e = quietest-fits w (quietest_place i.recorded w) i

-- ---- what is expected

pub expected-most : (x : Expected) → ExpectedBound x → length (expected_text x) ≤ 1010
unfolding expected_text ascii
expected-most Expected.unmarked b = omega arith
expected-most (Expected.marked xs) (ExpectedBound.marked h) = omega (arith, h)

-- What stands after the words of the answer's first line, with the line feed.
pub ending-room : (x : Expected) (line : Text) → ExpectedBound x → length (ended (text_where (disagrees x line) (expected_text x))) ≤ 1011
unfolding ended
ending-room x line b =
    simp length-append (omega (arith, where-most (disagrees x line) (expected_text x), expected-most x b))

-- What stands before the reports of `tick` and `at`.
pub head-room : (keyword : String) (number : ℕ) → length (ascii keyword ++ ascii " " ++ decimal number) ≤ length (ascii keyword) + 21
unfolding ascii
head-room keyword number = simp length-append (omega (arith, decimal-most number))

told-most : (calls : ℕ) (x : Expected) (t : Told) → ExpectedBound x → Fits t → length (told_step calls x t).text ≤ 98304
unfolding told_step ended
told-most calls x t b h =
    simp length-append (omega (arith, h, where-most (disagrees x t.line) (expected_text x), expected-most x b))

result-most :
    (number calls : ℕ) (x : Expected) (r : Result) (i : Item) → ExpectedBound x → ResultFits r →
    length (result_step number calls x r i).text ≤ 98304
unfolding result_step
result-most number calls x (told t) i b h = told-most calls x t b h
result-most number calls x (fault f) i b h = bad-most number f i

-- ---- `expect` and `read`

joined-both : (ts us : List Text) → length (joined (ts ++ us)) ≡ length (joined ts) + length (joined us)
unfolding joined
joined-both [] us = omega arith
joined-both (t ∷ ts) us = simp length-append (omega (arith, joined-both ts us))

difference-most : (at has : ℕ) (w : Wanted) → length w ≡ 4 → length (joined (difference at has w)) ≤ 13
unfolding difference joined digits ascii
difference-most at has w four =
    by-test (fits w (word has)) (λ e. rw e (omega arith)) (λ e. rw e (simp length-append (omega (arith, four))))

differences-most : (at : ℕ) (has : List ℕ) (ws : List Wanted) → Fours ws → length (joined (differences at has ws)) ≤ length ws * 13
unfolding differences
differences-most at [] [] f = unfold joined in omega arith
differences-most at [] (w ∷ ws) f = unfold joined in omega arith
differences-most at (h ∷ hs) [] f = unfold joined in omega arith
differences-most at (h ∷ hs) (w ∷ ws) (Fours.more four f) =
    rw joined-both (omega (arith, difference-most at h w four, differences-most (at + 1) hs ws f))

verdict-most : (ds : List Text) → length (verdict_text ds) ≤ 8 + length (joined ds)
unfolding verdict_text ascii
verdict-most [] = omega arith
verdict-most (d ∷ ds) = omega arith

compared-most :
    (keyword : String) (calls a : ℕ) (has : List ℕ) (ws : List Wanted) (i : Item) → length (ascii keyword) ≤ 6 → length ws ≤ 80 →
    Fours ws → length (compared_step keyword calls a has ws i).text ≤ 98304
unfolding compared_step ended digits ascii
compared-most keyword calls a has ws i short few four =
    simp length-append
    (omega (arith, short, few, verdict-most (differences a has ws), differences-most a has ws four))

-- ---- every line

item-most : (name : List Text) → length (spaced name) ≤ 1000 → length (ended (spaced (ascii "item" ∷ name))) ≤ 98304
unfolding ended spaced ascii
item-most name h = simp length-append (omega (arith, h, spaced-least name))

line-room : (number : ℕ) (l : Line) (i : Item) → LineBound l → Kept i → is_ticks l ≡ false → length (line_step number l i).text ≤ 98304
unfolding line_step is_ticks ascii
line-room number Line.silent i b k e = omega arith
line-room number (Line.bad f) i b k e = bad-most number f i
line-room number (Line.item name) i (LineBound.item h) k e = item-most name h
line-room number Line.show i b k e = omega (arith, page-most i.model)
line-room number (Line.expect a ws) i (LineBound.expect low high some four) k e =
    compared-most "expect" 0 a _ ws i (omega arith) (omega arith) four
line-room number (Line.read a ws) i (LineBound.read low high some four) k e =
    compared-most "read" 1 a _ ws _ (omega arith) (omega arith) four
line-room number (Line.call c x) i (LineBound.call cb xb) k e =
    result-most number 1 x (call_result c i) i xb (call_fits c i cb k e)
line-room number (Line.ask a x) i (LineBound.ask xb) k e = told-most 0 x (ask_told a i) xb (ask-fits a i)
line-room number (Line.keep q x) i (LineBound.keep kb xb) k e =
    result-most number 0 x (keep_result q i) i xb (keep-fits q i kb)

-- Every line but `tick` and `at` has an answer of at most 98,304 bytes.
pub step_room :
    (number : ℕ) (bytes : Text) (i : Item) → Kept i → is_ticks (line_of bytes) ≡ false → length (step number bytes i).text ≤ 98304
unfolding step
step_room number bytes i k e = line-room number (line_of bytes) i (line-bound bytes) k e
