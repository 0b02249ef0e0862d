-- `show::run::put_place` meets its contract.
-- Assumes nothing.
use Rattle.page.specs.Run.{place_texts}
use Rattle.wording.specs.Wording.{counted}
use Rattle.form.specs.Form.{register_texts, plural_texts, pair_of, pair_texts, piece_texts, takes, form_texts}
use Rattle.numeral.specs.Ascii.{ascii}
use borrow.Author.Rules.{rules}
use Rattle.show.proofs.run.put_place.Goals as goal

pub returns : goal.returns
unfolding ascii register_texts plural_texts pair_of pair_texts piece_texts takes form_texts counted place_texts
returns c = c.put_form.ensures.put
