-- `text_code::words::count_words` meets its contract. Assumes nothing.
use mathlib.Core.Logic.{inl}
use native.Mathlib.Omega.{arith}
use Rattle.text_code.proofs.WordLaws.{words-half}
use Rattle.text_code.proofs.words.count_words.Goals as goal

pub count-requires-clause-fits : goal.count-requires-clause-fits
count-requires-clause-fits c = inl (omega (arith, words-half c.each_word.result.rest.now))
