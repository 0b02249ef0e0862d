-- `phrase::refusals::word` meets its contract.
-- Assumes nothing.
use Rattle.numeral.specs.Ascii.{ascii}
use Rattle.wording.specs.Wording.{refusal_words, refusal_word}
use Rattle.phrase.proofs.refusals.word.Goals as goal

pub returns-in-NotSound : goal.returns-in-NotSound
unfolding ascii refusal_words refusal_word
returns-in-NotSound c = rw c.in-NotSound.is

pub returns-in-NoFrame : goal.returns-in-NoFrame
unfolding ascii refusal_words refusal_word
returns-in-NoFrame c = rw c.in-NoFrame.is

pub returns-in-Opcode : goal.returns-in-Opcode
unfolding ascii refusal_words refusal_word
returns-in-Opcode c = rw c.in-Opcode.is

pub returns-in-FrameLength : goal.returns-in-FrameLength
unfolding ascii refusal_words refusal_word
returns-in-FrameLength c = rw c.in-FrameLength.is

pub returns-in-Address : goal.returns-in-Address
unfolding ascii refusal_words refusal_word
returns-in-Address c = rw c.in-Address.is

pub returns-in-ShortOutput : goal.returns-in-ShortOutput
unfolding ascii refusal_words refusal_word
returns-in-ShortOutput c = rw c.in-ShortOutput.is

pub returns-in-Busy : goal.returns-in-Busy
unfolding ascii refusal_words refusal_word
returns-in-Busy c = rw c.in-Busy.is

pub returns-in-Calendar : goal.returns-in-Calendar
unfolding ascii refusal_words refusal_word
returns-in-Calendar c = rw c.in-Calendar.is

pub returns-in-NotInitialised : goal.returns-in-NotInitialised
unfolding ascii refusal_words refusal_word
returns-in-NotInitialised c = rw c.in-NotInitialised.is

pub returns-in-SetUp : goal.returns-in-SetUp
unfolding ascii refusal_words refusal_word
returns-in-SetUp c = rw c.in-SetUp.is

pub returns-in-NotAwaited : goal.returns-in-NotAwaited
unfolding ascii refusal_words refusal_word
returns-in-NotAwaited c = rw c.in-NotAwaited.is

pub returns-in-WordCount : goal.returns-in-WordCount
unfolding ascii refusal_words refusal_word
returns-in-WordCount c = rw c.in-WordCount.is

pub returns-in-Span : goal.returns-in-Span
unfolding ascii refusal_words refusal_word
returns-in-Span c = rw c.in-Span.is

pub returns-in-OffTable : goal.returns-in-OffTable
unfolding ascii refusal_words refusal_word
returns-in-OffTable c = rw c.in-OffTable.is

pub returns-in-BadTable : goal.returns-in-BadTable
unfolding ascii refusal_words refusal_word
returns-in-BadTable c = rw c.in-BadTable.is

pub returns-in-SupplyOff : goal.returns-in-SupplyOff
unfolding ascii refusal_words refusal_word
returns-in-SupplyOff c = rw c.in-SupplyOff.is

pub returns-in-FlashAddress : goal.returns-in-FlashAddress
unfolding ascii refusal_words refusal_word
returns-in-FlashAddress c = rw c.in-FlashAddress.is

pub returns-in-NotErased : goal.returns-in-NotErased
unfolding ascii refusal_words refusal_word
returns-in-NotErased c = rw c.in-NotErased.is

pub returns-in-Width : goal.returns-in-Width
unfolding ascii refusal_words refusal_word
returns-in-Width c = rw c.in-Width.is

pub returns-in-ShortBuffer : goal.returns-in-ShortBuffer
unfolding ascii refusal_words refusal_word
returns-in-ShortBuffer c = rw c.in-ShortBuffer.is

pub returns-in-LastCapture : goal.returns-in-LastCapture
unfolding ascii refusal_words refusal_word
returns-in-LastCapture c = rw c.in-LastCapture.is

pub returns-in-ShortListing : goal.returns-in-ShortListing
unfolding ascii refusal_words refusal_word
returns-in-ShortListing c = rw c.in-ShortListing.is
