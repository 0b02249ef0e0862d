-- `phrase::question::put_word` meets its contract.
-- Assumes nothing.
use Rattle.std.proofs.Common.{rules}
use Rattle.numeral.specs.Ascii.{ascii}
use Rattle.wording.specs.Wording.{blank_word}
use Rattle.wording.proofs.Each.{put_one, put_first}
use Rattle.phrase.proofs.question.put_word.Goals as goal

pub returns : goal.returns
unfolding ascii blank_word
returns c = put_first c.put_text-blank.ensures (put_one c.put_hex.ensures)
