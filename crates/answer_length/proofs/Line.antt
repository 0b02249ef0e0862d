-- How long the answer of any line is at most. Assumes nothing.
use Prim.Native.Nat.{ℕ, ◌+◌, ◌≤◌}
use mathlib.Core.List.{List, ◌++◌}
use mathlib.Core.Path.{◌≡◌}
use native.Mathlib.Omega.{arith}
use lib.IntN.{ℤ}
use lib.ListN.{length, get_or, take, drop}
use Rattle.unit.proofs.Cases.{by-test}
use Rattle.numeral.specs.Place.{joined}
use Rattle.numeral.specs.Print.{low_bytes}
use Rattle.device.specs.declared.Model.{Model}
use Rattle.device.specs.Call.{Call}
use Rattle.line.specs.declared.Content.{Content}
use Rattle.line.specs.Line.{Bounded}
use Rattle.numeral.specs.Ascii.{ascii}
use Rattle.item_calls.specs.Lines.{WithFlash, call_line, timed_line, beside}
use Rattle.item_calls.specs.Buffer.{buffer_size}
use Rattle.answer_text.specs.Texts.{Told, on_page, HasRoom, is_listing, call_told, question_told, analysis_told}
use Rattle.answer_text.specs.Line.{line_left, told_of_kept, line_told}
use Rattle.answer_text.proofs.Analysis.{Listable}
use Rattle.answer_text.proofs.Line.{line-page, line-text}
use Rattle.answer_length.specs.Longest.{longest, Small, Roomy}
use Rattle.answer_length.proofs.Sizes.{size, size-joined, size-append}
use Rattle.answer_length.proofs.Calls.{told-bus-size, buffer-most, told-set-size, told-delivery-size, told-stretch-size}
use Rattle.answer_length.proofs.Ticks.{told-tick-size, told-at-size}
use Rattle.answer_length.proofs.Questions.{interrupt-size, awaited-size, registers-size, told-expect-size, told-frames-size}
use Rattle.answer_length.proofs.Page.{page-size}
use Rattle.answer_length.proofs.Analysis.{told-probe-size, told-degrees-size, told-record-size, told-listing-size, told-quietest-size}

-- a line that moves the model tells nothing else
call-size : (content : Content) (numbers : List ℕ) (s : WithFlash) → Bounded content → size (call_told content numbers s).texts ≤ 28700
unfolding size call_told ascii
call-size Content.Nothing numbers s b = omega arith
call-size Content.TooLong numbers s b = omega arith
call-size Content.UnknownWord numbers s b = omega arith
call-size Content.BadNumber numbers s b = omega arith
call-size Content.WrongCount numbers s b = omega arith
call-size Content.Item numbers s b = omega arith
call-size (Content.Bus n) numbers s b =
    omega (arith, told-bus-size (low_bytes (take n numbers)) (buffer_size (take n numbers)) s (buffer-most n numbers b))
call-size (Content.BusOut n k) numbers s b = omega (arith, told-bus-size (low_bytes (take k numbers)) n s (omega (arith, b.0)))
call-size (Content.Tick n) numbers s b = omega (arith, told-tick-size n s.model s.log.counts)
call-size (Content.Flight up down) numbers s b =
    let call : Call = Call.flight (take up numbers) (take down (drop up numbers)) in
    omega (arith, told-delivery-size (ascii "flight") call s.model s.log.counts)
call-size (Content.Temperature n) numbers s b =
    omega (arith, told-delivery-size (ascii "temperature") (Call.temperature (take n numbers)) s.model s.log.counts)
call-size Content.Int numbers s b = omega arith
call-size Content.Awaited numbers s b = omega arith
call-size Content.Regs numbers s b = omega arith
call-size (Content.Expect a n) numbers s b = omega arith
call-size Content.Show numbers s b = omega arith
call-size (Content.Set a n) numbers s b = omega (arith, told-set-size a (take n numbers) s)
call-size (Content.At t) numbers s b = omega (arith, told-at-size t s.model s.log.counts)
call-size (Content.Stretch n) numbers s b = omega (arith, told-stretch-size n s.model s.log.counts)
call-size Content.Frames numbers s b = omega arith
call-size (Content.Probe n) numbers s b = omega arith
call-size Content.Degrees numbers s b = omega arith
call-size (Content.Record n) numbers s b = omega arith
call-size (Content.Listing old first) numbers s b = omega arith
call-size (Content.Quietest n) numbers s b = omega arith

pub longest-most : (content : Content) → longest content ≤ 94240
unfolding longest
longest-most content = by-test (is_listing content) (λ e. rw e (omega arith)) (λ e. rw e (omega arith))

module _ (numbers : List ℕ) (s : WithFlash) (differences : List ℤ) (probes : List ℕ) (small : Small numbers s differences) where
  -- what a line of each sort tells, which is nothing but of one of them
  abbrev after : Content → Model
  after content = (call_line content numbers s).model

  abbrev second : Content → Told
  second content = question_told content numbers (after content) (call_told content numbers s).counts

  abbrev third : Content → Told
  third content = told_of_kept content numbers (after content) differences probes (second content).counts

  parts-size : (content : Content) → Bounded content
      → size (call_told content numbers s).texts + size (second content).texts + size (third content).texts ≤ longest content
  unfolding size longest is_listing call_told question_told analysis_told call_line timed_line beside
  parts-size Content.Nothing b = omega arith
  parts-size Content.TooLong b = omega arith
  parts-size Content.UnknownWord b = omega arith
  parts-size Content.BadNumber b = omega arith
  parts-size Content.WrongCount b = omega arith
  parts-size Content.Item b = omega arith
  parts-size (Content.Bus n) b = omega (arith, call-size (Content.Bus n) numbers s b)
  parts-size (Content.BusOut n k) b = omega (arith, call-size (Content.BusOut n k) numbers s b)
  parts-size (Content.Tick n) b = omega (arith, call-size (Content.Tick n) numbers s b)
  parts-size (Content.Flight up down) b = omega (arith, call-size (Content.Flight up down) numbers s b)
  parts-size (Content.Temperature n) b = omega (arith, call-size (Content.Temperature n) numbers s b)
  parts-size Content.Int b = omega (arith, interrupt-size s.model)
  parts-size Content.Awaited b = omega (arith, awaited-size s.model)
  parts-size Content.Regs b = omega (arith, registers-size s.model)
  parts-size (Content.Expect a n) b =
      omega (arith, told-expect-size s.model a n numbers s.log.counts (omega (arith, b.0, b.3)))
  parts-size Content.Show b = omega (arith, page-size s.model small.flight_wait small.temperature_wait)
  parts-size (Content.Set a n) b = omega (arith, call-size (Content.Set a n) numbers s b)
  parts-size (Content.At t) b = omega (arith, call-size (Content.At t) numbers s b)
  parts-size (Content.Stretch n) b = omega (arith, call-size (Content.Stretch n) numbers s b)
  parts-size Content.Frames b = omega (arith, told-frames-size s.model s.log.counts)
  parts-size (Content.Probe n) b = omega (arith, told-probe-size (take n numbers) probes s.log.counts)
  parts-size Content.Degrees b = omega (arith, told-degrees-size numbers probes s.log.counts)
  parts-size (Content.Record n) b =
      omega (arith, told-record-size s.model numbers n differences s.log.counts (omega (arith, small.numbers_few)))
  parts-size (Content.Listing old first) b =
      let used : ℕ = get_or s.log.counts 10 0 in
      omega (
        arith,
        told-listing-size old first used used differences s.log.counts small.differences_fit,
        small.differences_few,
      )
  parts-size (Content.Quietest n) b = omega (arith, told-quietest-size n (take (get_or s.log.counts 10 0) differences) s.log.counts)

  -- The answer of a line, whatever it holds, is at most so long.
  pub line-size : (content : Content) → Bounded content
      → length (joined (line_told content numbers s differences probes).texts) ≤ longest content
  unfolding line_told
  line-size content b = rw (size-joined, size-append, size-append) (parts-size content b)

  -- So a line has room for its answer, whatever it holds: the answers are those before it, and then its texts. No listing is cut or turned
  -- away with number 21.
  module _ (content : Content) (bounded : Bounded content) (roomy : Roomy s.log) where
    abbrev told : Told
    told = line_told content numbers s differences probes

    pub line-fits : HasRoom told s.log
    line-fits = omega (arith, roomy.used, roomy.places, line-size content bounded, longest-most content)

    can-list : Listable content told record { differences = differences; probes = probes; log = s.log }
    can-list = record { room = λ h. line-fits; small = λ h. omega (arith, roomy.places); fit = λ h. small.differences_fit }

    pub line-whole : (line_left content numbers s differences probes).log ≡ on_page told s.log
    line-whole = line-page content numbers s differences probes roomy.some can-list

    pub line-stands : take (get_or (line_left content numbers s differences probes).log.counts 0 0) (line_left content numbers s differences probes).log.answers
        ≡ take (get_or s.log.counts 0 0) s.log.answers ++ joined told.texts
    line-stands = line-text content numbers s differences probes roomy.some can-list line-fits
