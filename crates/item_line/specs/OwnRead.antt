-- What code has read of a line, as the line that it is. Assumes nothing.
use Rattle.std.specs.Prelude.{ℕ, Option, Some, None, List, map, get_or, take, drop}
use Rattle.difference.specs.Difference.{signed_of}
use Rattle.item_line.specs.declared.FaultRead.{FaultRead}
use Rattle.item_line.specs.declared.CallRead.{CallRead}
use Rattle.item_line.specs.declared.AskRead.{AskRead}
use Rattle.item_line.specs.declared.KeepRead.{KeepRead}
use Rattle.item_line.specs.declared.LineRead.{LineRead}
use Rattle.text.specs.declared.Span.{Span}
use Rattle.text.specs.Text.{Text, words}
use Rattle.text.specs.OwnPart.{part}
use Rattle.item_line.specs.Line.{Fault, Output, Call, Ask, Keep, Expected, Line}
use Rattle.item_line.specs.Reading.{four_digits}

unfoldable pub as_fault : Text → FaultRead → Fault
as_fault text FaultRead.TooLong = Fault.too_long
as_fault text (FaultRead.UnknownWord s) = Fault.unknown_word (part text s)
as_fault text (FaultRead.BadNumber s) = Fault.bad_number (part text s)
as_fault text FaultRead.WrongCount = Fault.wrong_count
as_fault text FaultRead.Past = Fault.past
as_fault text FaultRead.NoRoom = Fault.no_room

unfoldable pub as_output : Option ℕ → Output
as_output None = Output.by_frame
as_output (Some n) = Output.out_of n

unfoldable pub as_call : List ℕ → CallRead → Call
as_call numbers (CallRead.Bus output n) = Call.bus (as_output output) (take n numbers)
as_call numbers (CallRead.Set a n) = Call.set a (take n numbers)
as_call numbers (CallRead.Tick n) = Call.tick n.0
as_call numbers (CallRead.At t) = Call.at t.0
as_call numbers (CallRead.Stretch n) = Call.stretch n.0
as_call numbers (CallRead.Flight up down) = Call.flight (take up numbers) (take down (drop up numbers))
as_call numbers (CallRead.Temperature n) = Call.temperature (take n numbers)
as_call numbers CallRead.Frames = Call.frames
as_call numbers CallRead.Degrees = Call.degrees (get_or numbers 0 0) (get_or numbers 1 0)
as_call numbers (CallRead.Listing width first) = Call.listing width first
as_call numbers (CallRead.Quietest width) = Call.quietest width

unfoldable pub as_ask : AskRead → Ask
as_ask AskRead.Int = Ask.int
as_ask AskRead.Awaited = Ask.awaited
as_ask AskRead.Regs = Ask.regs

unfoldable pub as_keep : List ℕ → KeepRead → Keep
as_keep numbers (KeepRead.Probe n) = Keep.probe (take n numbers)
as_keep numbers (KeepRead.Differences n) = Keep.differences (map signed_of (take n numbers))

unfoldable pub as_expected : Text → Option Span → Expected
as_expected text None = Expected.unmarked
as_expected text (Some s) = Expected.marked (words (part text s))

unfoldable pub as_line : Text → List ℕ → LineRead → Line
as_line text numbers LineRead.Silent = Line.silent
as_line text numbers (LineRead.Bad f) = Line.bad (as_fault text f)
as_line text numbers (LineRead.Item s) = Line.item (words (part text s))
as_line text numbers LineRead.Show = Line.show
as_line text numbers (LineRead.Expect a s) = Line.expect a (map four_digits (words (part text s)))
as_line text numbers (LineRead.Read a s) = Line.read a (map four_digits (words (part text s)))
as_line text numbers (LineRead.Call c x) = Line.call (as_call numbers c) (as_expected text x)
as_line text numbers (LineRead.Ask a x) = Line.ask (as_ask a) (as_expected text x)
as_line text numbers (LineRead.Keep k x) = Line.keep (as_keep numbers k) (as_expected text x)
