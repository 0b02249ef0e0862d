-- `show::state::put_status` meets its contract.
-- Assumes nothing.
use Rattle.show.proofs.Rows.{put_as, two-rows, one-row, status-two, status-one}
use Rattle.page.specs.Results.{status_label, high_names, low_names}
use Rattle.page.specs.Row.{register_row}
use Rattle.wording.proofs.Each.{put_one, put_then}
use Rattle.wording.specs.Wording.{reported_where}
use lib.Dec.{eqb}
use mathlib.Core.List.{[]}
use mathlib.Core.Path.{sym, ◌∙◌}
use Rattle.form.specs.Form.{register_texts, plural_texts, pair_of, pair_texts, piece_texts, takes, form_texts}
use Rattle.numeral.specs.Ascii.{ascii}
use borrow.Author.Rules.{rules}
use Rattle.show.proofs.state.put_status.Goals as goal

pub returns-then-takes_two : goal.returns-then-takes_two
unfolding ascii register_texts plural_texts pair_of pair_texts piece_texts takes form_texts register_row
returns-then-takes_two c = let w = c.args.w in
    put_as (put_then c.put_form-a.ensures.put (put_then c.put_high_names-b.ensures (put_then c.put_form-c.ensures.put (put_then c.put_low_names-d.ensures (put_one c.put_text.ensures))))) (two-rows (register_row status_label w []) (high_names w) (low_names w) (ascii "                                          ") ∙ status-two w (sym c.takes_two.ensures ∙ c.if-takes_two.true))

pub returns : goal.returns
unfolding ascii register_texts plural_texts pair_of pair_texts piece_texts takes form_texts register_row
returns c = let w = c.args.w in
    put_as (put_then c.put_form-a.ensures.put (put_then c.put_high_names-b.ensures (put_then c.put_low_names-c.ensures c.put_form.ensures.put))) (one-row (register_row status_label w []) (high_names w) (low_names w) (reported_where (eqb w 0) (ascii " none")) ∙ status-one w (sym c.takes_two.ensures ∙ c.if-takes_two.false))
