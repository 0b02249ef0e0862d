-- A line that asks leaves on the page what it tells. Assumes nothing.
use Prim.Native.Nat.{ℕ, ◌<◌}
use mathlib.Core.Path.{◌≡◌, refl}
use mathlib.Core.Bool.{Bool, true, false, cond}
use mathlib.Core.List.{List, [], ◌∷◌, ◌++◌}
use lib.ListN.{length, get_or, set, length-set}
use Rattle.device.specs.declared.Model.{Model}
use Rattle.device.specs.Model.{is_sound}
use Rattle.setup_frames.specs.Frames.{frames}
use Rattle.line.specs.declared.Content.{Content}
use Rattle.numeral.specs.Ascii.{ascii}
use Rattle.wording.specs.Wording.{Texts, line_feed, refused, counted, frame_lines}
use Rattle.item_state.specs.Log.{Log, added, said, called}
use Rattle.item_questions.specs.Answers.{frames_told, frames_line, expect_line, question_line}
use Rattle.answer_text.specs.Texts.{on_page, answered, asked, told_of_expect, told_of_frames, question_told}
use Rattle.answer_text.proofs.Page.{silent-page, called-page}
use Rattle.answer_text.proofs.Aside.{Aside, first-left, silent-aside, asked-aside, answered-aside}

pub said-page : (texts : Texts) (l : Log) → said texts l ≡ on_page (asked texts l.counts) l
unfolding said on_page
said-page texts l = refl

-- ---- `expect`

module _ (m : Model) (a : ℕ) (ws : List ℕ) where
  expect-counts : (counts answers : List ℕ)
      → expect_line m a ws record { counts = counts; answers = answers } ≡ on_page (told_of_expect m a ws counts) record { counts = counts; answers = answers }
  unfolding expect_line told_of_expect on_page added
  expect-counts [] answers = refl
  expect-counts (c ∷ cs) answers = refl

  expect-page : (l : Log) → expect_line m a ws l ≡ on_page (told_of_expect m a ws l.counts) l
  expect-page l = expect-counts l.counts l.answers

  expect-aside : (counts : List ℕ) (place : ℕ) → Aside counts place (told_of_expect m a ws counts) (told_of_expect m a ws (set counts 0 place))
  unfolding told_of_expect added
  expect-aside [] place = record { same = refl; long = refl }
  expect-aside (c ∷ cs) place = record { same = refl; long = rw (length-set, length-set) }

-- ---- `frames`

module _ (m : Model) where
  abbrev frame_texts : Texts
  frame_texts = ascii "frames " ∷ (counted (length (frames m.setup)) line_feed ++ frame_lines (frames m.setup))

  frames-page : (l : Log) → frames_line m l ≡ on_page (told_of_frames m l.counts) l
  unfolding frames_line frames_told told_of_frames
  frames-page l = go (is_sound m)
    where
      go : (b : Bool) → cond b (called 0 frame_texts l) (called 1 (refused (ascii "frames") 0) l)
          ≡ on_page (cond b (answered 0 frame_texts l.counts) (answered 1 (refused (ascii "frames") 0) l.counts)) l
      go true = called-page 0 frame_texts l.counts l refl
      go false = called-page 1 (refused (ascii "frames") 0) l.counts l refl

  frames-aside : (counts : List ℕ) (place : ℕ) → Aside counts place (told_of_frames m counts) (told_of_frames m (set counts 0 place))
  unfolding told_of_frames
  frames-aside counts place = go (is_sound m)
    where
      go : (b : Bool) → Aside counts place (cond b (answered 0 frame_texts counts) (answered 1 (refused (ascii "frames") 0) counts))
          (cond b (answered 0 frame_texts (set counts 0 place)) (answered 1 (refused (ascii "frames") 0) (set counts 0 place)))
      go true = answered-aside 0 frame_texts counts place
      go false = answered-aside 1 (refused (ascii "frames") 0) counts place

-- ---- every line

-- What a line that asks leaves of counts and answers is what it tells, on the page.
pub question-page : (content : Content) (numbers : List ℕ) (m : Model) (l : Log)
    → question_line content numbers m l ≡ on_page (question_told content numbers m l.counts) l
unfolding question_line question_told
question-page Content.Nothing numbers m l = silent-page l
question-page Content.TooLong numbers m l = silent-page l
question-page Content.UnknownWord numbers m l = silent-page l
question-page Content.BadNumber numbers m l = silent-page l
question-page Content.WrongCount numbers m l = silent-page l
question-page Content.Item numbers m l = silent-page l
question-page (Content.Bus n) numbers m l = silent-page l
question-page (Content.BusOut size n) numbers m l = silent-page l
question-page (Content.Tick n) numbers m l = silent-page l
question-page (Content.Flight up down) numbers m l = silent-page l
question-page (Content.Temperature n) numbers m l = silent-page l
question-page Content.Int numbers m l = said-page _ l
question-page Content.Awaited numbers m l = said-page _ l
question-page Content.Regs numbers m l = said-page _ l
question-page (Content.Expect a n) numbers m l = expect-page m a _ l
question-page Content.Show numbers m l = said-page _ l
question-page (Content.Set a n) numbers m l = silent-page l
question-page (Content.At t) numbers m l = silent-page l
question-page (Content.Stretch n) numbers m l = silent-page l
question-page Content.Frames numbers m l = frames-page m l
question-page (Content.Probe n) numbers m l = silent-page l
question-page Content.Degrees numbers m l = silent-page l
question-page (Content.Record n) numbers m l = silent-page l
question-page (Content.Listing old first) numbers m l = silent-page l
question-page (Content.Quietest n) numbers m l = silent-page l

-- What it tells does not go by where the answers end.
pub question-aside : (content : Content) (numbers : List ℕ) (m : Model) (counts : List ℕ) (place : ℕ)
    → Aside counts place (question_told content numbers m counts) (question_told content numbers m (set counts 0 place))
unfolding question_told
question-aside Content.Nothing numbers m counts place = silent-aside counts place
question-aside Content.TooLong numbers m counts place = silent-aside counts place
question-aside Content.UnknownWord numbers m counts place = silent-aside counts place
question-aside Content.BadNumber numbers m counts place = silent-aside counts place
question-aside Content.WrongCount numbers m counts place = silent-aside counts place
question-aside Content.Item numbers m counts place = silent-aside counts place
question-aside (Content.Bus n) numbers m counts place = silent-aside counts place
question-aside (Content.BusOut size n) numbers m counts place = silent-aside counts place
question-aside (Content.Tick n) numbers m counts place = silent-aside counts place
question-aside (Content.Flight up down) numbers m counts place = silent-aside counts place
question-aside (Content.Temperature n) numbers m counts place = silent-aside counts place
question-aside Content.Int numbers m counts place = asked-aside _ counts place
question-aside Content.Awaited numbers m counts place = asked-aside _ counts place
question-aside Content.Regs numbers m counts place = asked-aside _ counts place
question-aside (Content.Expect a n) numbers m counts place = expect-aside m a _ counts place
question-aside Content.Show numbers m counts place = asked-aside _ counts place
question-aside (Content.Set a n) numbers m counts place = silent-aside counts place
question-aside (Content.At t) numbers m counts place = silent-aside counts place
question-aside (Content.Stretch n) numbers m counts place = silent-aside counts place
question-aside Content.Frames numbers m counts place = frames-aside m counts place
question-aside (Content.Probe n) numbers m counts place = silent-aside counts place
question-aside Content.Degrees numbers m counts place = silent-aside counts place
question-aside (Content.Record n) numbers m counts place = silent-aside counts place
question-aside (Content.Listing old first) numbers m counts place = silent-aside counts place
question-aside (Content.Quietest n) numbers m counts place = silent-aside counts place

-- It leaves the first count as it was.
pub question-first : (content : Content) (numbers : List ℕ) (m : Model) (counts : List ℕ) → 0 < length counts
    → get_or (question_told content numbers m counts).counts 0 0 ≡ get_or counts 0 0
question-first content numbers m = first-left (λ counts. question_told content numbers m counts) (question-aside content numbers m)
