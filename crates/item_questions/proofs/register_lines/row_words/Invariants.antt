-- `item_questions::register_lines::row_words` meets its contract: a word more in each turn.
use Rattle.std.proofs.Common.{◌≡◌, ◌-◌, ◌++◌, length, take}
use Rattle.item_questions.specs.Answers.{row_words}
use Rattle.item_questions.proofs.register_lines.row_words.Given as goal

abbrev pub invariant-loop-i : goal.invariant-loop-i
invariant-loop-i l =
    (length l.words ≡ 8) × (take l.i l.words ++ row_words l.m l.address (8 - l.i) ≡ row_words l.m l.a 8)
