-- `item_questions::answer_question` meets its contract.
-- Assumes nothing.
use Rattle.std.proofs.Common.{◌≡◌, ℕ, List, [], ◌∷◌, refl}
use types.Run.{OneOf, miss}
use denote.Enum.Declared.{tag_of}
use Rattle.line.specs.contracts.Content.{the_type}
use Rattle.line.specs.declared.Content.{Content}
use Rattle.device.specs.declared.Model.{Model}
use Rattle.item_state.specs.Log.{Log, said}
use Rattle.item_questions.specs.Answers.{expect_line, question_line}
use borrow.Enum.Refused.{opened}
use Rattle.item_questions.proofs.answer_question.Goals as goal

others : (content : Content) (numbers : List ℕ) (m : Model) (l : Log) → OneOf (0 ∷ 1 ∷ 2 ∷ 3 ∷ 4 ∷ 5 ∷ 6 ∷ 7 ∷ 8 ∷ 9 ∷ 10 ∷ 16 ∷ 17 ∷ 18 ∷ 20 ∷ 21 ∷ 22 ∷ 23 ∷ 24 ∷ []) (tag_of the_type content) → l ≡ question_line content numbers m l
unfolding question_line
others Content.Nothing numbers m l h = refl
others Content.TooLong numbers m l h = refl
others Content.UnknownWord numbers m l h = refl
others Content.BadNumber numbers m l h = refl
others Content.WrongCount numbers m l h = refl
others Content.Item numbers m l h = refl
others (Content.Bus n) numbers m l h = refl
others (Content.BusOut size n) numbers m l h = refl
others (Content.Tick n) numbers m l h = refl
others (Content.Flight up down) numbers m l h = refl
others (Content.Temperature n) numbers m l h = refl
others Content.Int numbers m l h = absurd (miss (0 ∷ 1 ∷ 2 ∷ 3 ∷ 4 ∷ 5 ∷ 6 ∷ 7 ∷ 8 ∷ 9 ∷ 10 ∷ 16 ∷ 17 ∷ 18 ∷ 20 ∷ 21 ∷ 22 ∷ 23 ∷ 24 ∷ []) 11 tt h)
others Content.Awaited numbers m l h = absurd (miss (0 ∷ 1 ∷ 2 ∷ 3 ∷ 4 ∷ 5 ∷ 6 ∷ 7 ∷ 8 ∷ 9 ∷ 10 ∷ 16 ∷ 17 ∷ 18 ∷ 20 ∷ 21 ∷ 22 ∷ 23 ∷ 24 ∷ []) 12 tt h)
others Content.Regs numbers m l h = absurd (miss (0 ∷ 1 ∷ 2 ∷ 3 ∷ 4 ∷ 5 ∷ 6 ∷ 7 ∷ 8 ∷ 9 ∷ 10 ∷ 16 ∷ 17 ∷ 18 ∷ 20 ∷ 21 ∷ 22 ∷ 23 ∷ 24 ∷ []) 13 tt h)
others (Content.Expect a n) numbers m l h = absurd (miss (0 ∷ 1 ∷ 2 ∷ 3 ∷ 4 ∷ 5 ∷ 6 ∷ 7 ∷ 8 ∷ 9 ∷ 10 ∷ 16 ∷ 17 ∷ 18 ∷ 20 ∷ 21 ∷ 22 ∷ 23 ∷ 24 ∷ []) 14 tt h)
others Content.Show numbers m l h = absurd (miss (0 ∷ 1 ∷ 2 ∷ 3 ∷ 4 ∷ 5 ∷ 6 ∷ 7 ∷ 8 ∷ 9 ∷ 10 ∷ 16 ∷ 17 ∷ 18 ∷ 20 ∷ 21 ∷ 22 ∷ 23 ∷ 24 ∷ []) 15 tt h)
others (Content.Set a n) numbers m l h = refl
others (Content.At t) numbers m l h = refl
others (Content.Stretch n) numbers m l h = refl
others Content.Frames numbers m l h = absurd (miss (0 ∷ 1 ∷ 2 ∷ 3 ∷ 4 ∷ 5 ∷ 6 ∷ 7 ∷ 8 ∷ 9 ∷ 10 ∷ 16 ∷ 17 ∷ 18 ∷ 20 ∷ 21 ∷ 22 ∷ 23 ∷ 24 ∷ []) 19 tt h)
others (Content.Probe n) numbers m l h = refl
others Content.Degrees numbers m l h = refl
others (Content.Record n) numbers m l h = refl
others (Content.Listing old first) numbers m l h = refl
others (Content.Quietest n) numbers m l h = refl

pub returns-in-Expect : goal.returns-in-Expect
unfolding question_line expect_line
returns-in-Expect c = rw (c.in-Expect.is, ← c.first_words.ensures, ← c.expect.ensures.counted, ← c.expect.ensures.said)

pub returns-in-Frames : goal.returns-in-Frames
unfolding question_line
returns-in-Frames c = rw c.in-Frames.is c.frames.ensures

pub returns-in-Int : goal.returns-in-Int
unfolding question_line said
returns-in-Int c = rw (c.in-Int.is, ← c.put_interrupt.ensures.next, ← c.put_interrupt.ensures.bytes)

pub returns-in-Awaited : goal.returns-in-Awaited
unfolding question_line said
returns-in-Awaited c = rw (c.in-Awaited.is, ← c.put_awaited.ensures.next, ← c.put_awaited.ensures.bytes)

pub returns-in-Regs : goal.returns-in-Regs
unfolding question_line said
returns-in-Regs c = rw (c.in-Regs.is, ← c.put_registers.ensures.next, ← c.put_registers.ensures.bytes)

pub returns-in-Show : goal.returns-in-Show
unfolding question_line said
returns-in-Show c = rw (c.in-Show.is, ← c.put_page.ensures.next, ← c.put_page.ensures.bytes)

pub returns-in_default : goal.returns-in_default
returns-in_default c = others _ _ _ _ (opened c.in_default.in_default-own.keys7)
