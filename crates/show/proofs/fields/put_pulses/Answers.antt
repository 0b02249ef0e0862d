-- `show::fields::put_pulses` meets its contract.
-- Assumes nothing.
use Rattle.wording.proofs.Each.{put_one}
use Rattle.show.proofs.Rows.{put_as, pulses-off, pulses-on}
use Rattle.page.specs.Row.{plural}
use Rattle.form.specs.Form.{register_texts, plural_texts, pair_of, pair_texts, piece_texts, takes, form_texts}
use Rattle.numeral.specs.Ascii.{ascii}
use borrow.Author.Rules.{rules}
use Rattle.show.proofs.fields.put_pulses.Goals as goal

pub returns-then-pl-eq0 : goal.returns-then-pl-eq0
unfolding ascii register_texts plural_texts pair_of pair_texts piece_texts takes form_texts
returns-then-pl-eq0 c = put_as (put_one c.put_text.ensures) (pulses-off c.args.pl c.if-pl-eq0.true)

pub returns : goal.returns
unfolding ascii register_texts plural_texts pair_of pair_texts piece_texts takes form_texts plural
returns c = put_as c.put_form.ensures.put (pulses-on c.args.pl c.launched.result c.if-pl-eq0.false c.launched.ensures)
