-- Runs in plain words and numbers. Assumes nothing.
use mathlib.Core.Bool.{Bool, true, false}
use mathlib.Core.List.{[], ◌∷◌}
use mathlib.Core.Path.{◌≡◌, refl}
use Rattle.numeral.specs.Ascii.{ascii}
use Rattle.numeral.specs.Digit.{digits, glyph}
use Rattle.numeral.specs.Place.{overwrite, next_place, written, put_each, joined}
use Rattle.numeral.specs.Print.{width_from, decimal_width, decimal}
use Rattle.wording.specs.Wording.{counted as counted_text, calls, faults}
use Rattle.line_buffer.specs.Lines.{has_line, with_first, lines_in, rest_in, last_line, text_lines, each_line}
use Rattle.collection.specs.declared.Outcome.{Outcome}
use Rattle.collection.specs.Group.{name_texts, joined as joined_to}
use Rattle.collection.specs.Kind.{kinds, agreeing}
use Rattle.collection.specs.Tally.{agreed, after, collected}
use Rattle.collection.specs.Summary.{heading_texts, head_texts, more_texts, group_texts, groups_texts, first_counts, last_counts, summary_texts}
use Rattle.session.specs.Ends.{counts_begun, last_texts, outcome_of}
use Rattle.replay_text.specs.Replay.{first_page, last_text}
use Rattle.file_replay.specs.Files.{headed}
use Rattle.run_text.specs.Run.{FileRead, lines_read, page_of, answers_of, text_of, came_to, texts_of, files_told, summary_of, run_text}

-- A file without a line; one that breaks off in its first line; one that can't be opened.
abbrev empty : FileRead
empty = record { name = ascii "a"; opened = true; bytes = []; whole = true }

abbrev broken : FileRead
broken = record { name = ascii "b"; opened = true; bytes = ascii "x"; whole = false }

abbrev missing : FileRead
missing = record { name = ascii "c"; opened = false; bytes = []; whole = false }

-- The lines of a file that breaks off are those with a line feed.
lines-read : (lines_read record { name = []; opened = true; bytes = ascii "x\ny"; whole = true } ≡ ascii "x" ∷ ascii "y" ∷ [])
    × (lines_read record { name = []; opened = true; bytes = ascii "x\ny"; whole = false } ≡ ascii "x" ∷ [])
unfolding lines_read text_lines lines_in with_first rest_in has_line last_line ascii
lines-read = (refl, refl)

-- Each file that is opened has a heading, and one that is read to its end a last line;
texts : texts_of false (empty ∷ broken ∷ missing ∷ [])
    ≡ ascii "== a ==\nend 0 calls, 0 refused, 0 unannounced, 0 bad lines, 0 expectations, 0 differ\n== b ==\n"
unfolding texts_of text_of answers_of page_of lines_read text_lines lines_in with_first rest_in has_line last_line each_line first_page counts_begun next_place last_text last_texts calls faults counted_text decimal decimal_width width_from digits glyph headed heading_texts joined ascii
texts = refl

-- in a check neither, and a file by itself has no heading.
texts-checked : (texts_of true (empty ∷ broken ∷ missing ∷ []) ≡ [])
    × (text_of false false empty ≡ ascii "end 0 calls, 0 refused, 0 unannounced, 0 bad lines, 0 expectations, 0 differ\n")
    × (text_of false false missing ≡ [])
unfolding texts_of text_of answers_of page_of lines_read text_lines lines_in with_first rest_in has_line last_line each_line first_page counts_begun next_place last_text last_texts calls faults counted_text decimal decimal_width width_from digits glyph headed heading_texts joined ascii
texts-checked = (refl, refl, refl)

abbrev came : Bool → Outcome
came whole = record { whole = whole; unannounced = 0; bad = 0; expected = 0; differ = 0 }

came-to : (came_to false empty ≡ came true) × (came_to false broken ≡ came false) × (came_to false missing ≡ came false)
unfolding came_to page_of lines_read text_lines lines_in with_first rest_in has_line last_line each_line first_page counts_begun next_place outcome_of ascii
came-to = (refl, refl, refl)

-- The summary stands behind all of them.
no-file : run_text false [] ≡ ascii "== 0 files ==\nend 0 files, 0 agree, 0 differ, 0 unannounced, 0 bad lines, 0 cannot be read, 0 no expectation\n"
unfolding run_text texts_of summary_of files_told collected summary_texts head_texts groups_texts group_texts first_counts last_counts decimal decimal_width width_from digits glyph joined ascii
no-file = refl

one-missing : run_text false (missing ∷ [])
    ≡ ascii "== 1 files ==\ncannot be read: 1\n  c\nend 1 files, 0 agree, 0 differ, 0 unannounced, 0 bad lines, 1 cannot be read, 0 no expectation\n"
unfolding run_text texts_of text_of summary_of files_told came_to collected after kinds agreeing agreed joined_to name_texts put_each written next_place overwrite summary_texts head_texts groups_texts group_texts more_texts first_counts last_counts decimal decimal_width width_from digits glyph joined ascii
one-missing = refl
