-- `arguments::words::is_word` meets its contract.
-- Assumes nothing.
use Rattle.std.proofs.lemmas.Bool.Decides.{Decides-eqb}
use Rattle.std.proofs.lemmas.Slice.Eq.{slice_eq-Decides}
use Rattle.arguments.proofs.Laws.{same_test}
use Rattle.arguments.proofs.words.is_word.Goals as goal

pub returns : goal.returns
returns c =
    let same = slice_eq-Decides Decides-eqb _ _ _ c.eq.ensures in
    same_test _ _ _ same.0 same.1
