-- What any line tells. Assumes nothing.
use Rattle.std.specs.Prelude.{ℕ, List, [], ℤ}
use Rattle.device.specs.declared.Model.{Model}
use Rattle.line.specs.declared.Content.{Content}
use Rattle.item_calls.specs.Lines.{WithFlash, call_line}
use Rattle.item_questions.specs.Answers.{question_line}
use Rattle.item_analysis.specs.Lines.{ItemKept, analysis_line}
use Rattle.item_state.specs.Log.{Log}
use Rattle.answer_text.specs.Texts.{Told, behind, call_told, question_told, analysis_told}

-- The record and the probe table beside a log.
abbrev pub beside : List ℤ → List ℕ → Log → ItemKept
beside differences probes l = record { differences = differences; probes = probes; log = l }

-- What a line leaves: one that moves the model, then one that asks, or one on the record and the probe table, on the model after it.
-- Each line is of one of these sorts, and the others leave all as it was.
unfoldable pub line_left : Content → List ℕ → WithFlash → List ℤ → List ℕ → ItemKept
line_left content numbers s differences probes =
    let c = call_line content numbers s in
    analysis_line content numbers c.model (beside differences probes (question_line content numbers c.model c.log))

-- What it tells, one sort behind the other. It does not depend on the answers before it.
abbrev pub told_of_kept : Content → List ℕ → Model → List ℤ → List ℕ → List ℕ → Told
told_of_kept content numbers m differences probes counts =
    analysis_told content numbers m (beside differences probes record { counts = counts; answers = [] })

unfoldable pub line_told : Content → List ℕ → WithFlash → List ℤ → List ℕ → Told
line_told content numbers s differences probes =
    let m = (call_line content numbers s).model in
    behind (behind (call_told content numbers s) (question_told content numbers m)) (told_of_kept content numbers m differences probes)
