-- The words that the registers need hold behind every line, of whatever bytes, as they did before it. Assumes nothing.
use Prim.Native.Nat.{ℕ}
use mathlib.Core.List.{List}
use Rattle.device.specs.declared.Model.{Model}
use Rattle.register_words.specs.Words.{Words}
use Rattle.register_words.proofs.Kept.{fresh-words, keeps-words}
use Rattle.line.specs.declared.Content.{Content}
use Rattle.line.specs.Line.{line_reading}
use Rattle.item_calls.specs.Lines.{WithFlash, ticked, call_line}
use Rattle.answer_text.specs.Line.{line_left}
use Rattle.session.specs.Line.{Replay, line_begun, line_done, content_answered, line_answered}
use Rattle.line_room.proofs.Kept.{ticked-keeps, line-keeps}

pub ticked-words : (turns n before : ℕ) (m : Model) → Words m → Words (ticked turns n before m).model
ticked-words = ticked-keeps Words fresh-words keeps-words

pub call-words : (content : Content) (numbers : List ℕ) (s : WithFlash) → Words s.model → Words (call_line content numbers s).model
call-words = line-keeps Words fresh-words keeps-words

pub line-words : (text numbers : List ℕ) (r : Replay) → Words r.state.model → Words (line_answered text numbers r).state.model
unfolding line_answered content_answered line_done line_left
line-words text numbers r w =
    call-words (line_begun (line_reading numbers text).content text r.names r.state.log).content (line_reading numbers text).numbers _ w
