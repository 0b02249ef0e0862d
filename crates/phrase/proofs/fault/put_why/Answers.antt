-- `phrase::fault::put_why` meets its contract.
-- Assumes nothing.
use Rattle.std.proofs.Common.{◌≡◌, [], ◌∷◌, refl, rules}
use types.Run.{OneOf, miss}
use denote.Enum.Declared.{tag_of}
use Rattle.line.specs.contracts.Content.{the_type}
use Rattle.line.specs.declared.Content.{Content}
use Rattle.numeral.specs.Ascii.{ascii}
use Rattle.wording.specs.Wording.{why}
use borrow.Enum.Refused.{opened}
use Rattle.phrase.proofs.fault.put_why.Goals as goal

others : (k : Content) → OneOf (0 ∷ 4 ∷ 5 ∷ 6 ∷ 7 ∷ 8 ∷ 9 ∷ 10 ∷ 11 ∷ 12 ∷ 13 ∷ 14 ∷ 15 ∷ 16 ∷ 18 ∷ 19 ∷ 21 ∷ 23 ∷ 24 ∷ []) (tag_of the_type k) → why k ≡ ": wrong count\n"
unfolding why
others Content.Nothing h = refl
others Content.TooLong h = absurd (miss (0 ∷ 4 ∷ 5 ∷ 6 ∷ 7 ∷ 8 ∷ 9 ∷ 10 ∷ 11 ∷ 12 ∷ 13 ∷ 14 ∷ 15 ∷ 16 ∷ 18 ∷ 19 ∷ 21 ∷ 23 ∷ 24 ∷ []) 1 tt h)
others Content.UnknownWord h = absurd (miss (0 ∷ 4 ∷ 5 ∷ 6 ∷ 7 ∷ 8 ∷ 9 ∷ 10 ∷ 11 ∷ 12 ∷ 13 ∷ 14 ∷ 15 ∷ 16 ∷ 18 ∷ 19 ∷ 21 ∷ 23 ∷ 24 ∷ []) 2 tt h)
others Content.BadNumber h = absurd (miss (0 ∷ 4 ∷ 5 ∷ 6 ∷ 7 ∷ 8 ∷ 9 ∷ 10 ∷ 11 ∷ 12 ∷ 13 ∷ 14 ∷ 15 ∷ 16 ∷ 18 ∷ 19 ∷ 21 ∷ 23 ∷ 24 ∷ []) 3 tt h)
others Content.WrongCount h = refl
others Content.Item h = refl
others (Content.Bus n) h = refl
others (Content.BusOut o n) h = refl
others (Content.Tick n) h = refl
others (Content.Flight u d) h = refl
others (Content.Temperature n) h = refl
others Content.Int h = refl
others Content.Awaited h = refl
others Content.Regs h = refl
others (Content.Expect a n) h = refl
others Content.Show h = refl
others (Content.Set a n) h = refl
others (Content.At n) h = absurd (miss (0 ∷ 4 ∷ 5 ∷ 6 ∷ 7 ∷ 8 ∷ 9 ∷ 10 ∷ 11 ∷ 12 ∷ 13 ∷ 14 ∷ 15 ∷ 16 ∷ 18 ∷ 19 ∷ 21 ∷ 23 ∷ 24 ∷ []) 17 tt h)
others (Content.Stretch n) h = refl
others Content.Frames h = refl
others (Content.Probe n) h = absurd (miss (0 ∷ 4 ∷ 5 ∷ 6 ∷ 7 ∷ 8 ∷ 9 ∷ 10 ∷ 11 ∷ 12 ∷ 13 ∷ 14 ∷ 15 ∷ 16 ∷ 18 ∷ 19 ∷ 21 ∷ 23 ∷ 24 ∷ []) 20 tt h)
others Content.Degrees h = refl
others (Content.Record n) h = absurd (miss (0 ∷ 4 ∷ 5 ∷ 6 ∷ 7 ∷ 8 ∷ 9 ∷ 10 ∷ 11 ∷ 12 ∷ 13 ∷ 14 ∷ 15 ∷ 16 ∷ 18 ∷ 19 ∷ 21 ∷ 23 ∷ 24 ∷ []) 22 tt h)
others (Content.Listing o n) h = refl
others (Content.Quietest n) h = refl

pub returns-in-TooLong : goal.returns-in-TooLong
unfolding ascii why
returns-in-TooLong c = rw c.in-TooLong.is c.put_text.ensures

pub returns-in-UnknownWord : goal.returns-in-UnknownWord
unfolding ascii why
returns-in-UnknownWord c = rw c.in-UnknownWord.is c.put_text-in-UnknownWord.ensures

pub returns-in-BadNumber : goal.returns-in-BadNumber
unfolding ascii why
returns-in-BadNumber c = rw c.in-BadNumber.is c.put_text-in-BadNumber.ensures

pub returns-in-At : goal.returns-in-At
unfolding ascii why
returns-in-At c = rw c.in-At.is c.put_text-in-At.ensures

pub returns-in-Probe : goal.returns-in-Probe
unfolding ascii why
returns-in-Probe c = rw c.in-Probe.is c.put_text-in-Probe.ensures

pub returns-in-Record : goal.returns-in-Record
unfolding ascii why
returns-in-Record c = rw c.in-Record.is c.put_text-in-Record.ensures

pub returns-in_default : goal.returns-in_default
unfolding ascii
returns-in_default c = rw (others _ (opened c.in_default.in_default-own.keys7)) c.put_text-in_default.ensures
