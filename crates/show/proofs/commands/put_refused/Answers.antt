-- `show::commands::put_refused` meets its contract.
-- Assumes nothing.
use borrow.Author.Rules.{rules}
use mathlib.Core.Bool.{false}
use mathlib.Core.Path.{◌≡◌}
use lib.Dec.{eqb}
use Rattle.wording.proofs.Each.{put-none, put_first, put_then}
use Rattle.numeral.specs.Ascii.{ascii}
use Rattle.page.specs.Commands.{refused_texts}
use Rattle.refusal.specs.declared.Refusal.{Refusal}
use Rattle.refusal.specs.Number.{number}
use Rattle.show.proofs.commands.put_refused.Goals as goal

pub returns-then-eq : goal.returns-then-eq
unfolding ascii refused_texts
returns-then-eq c =
    let e : c.args.refusal ≡ Refusal.SetUp = search rules in
    rw e (put_then (rw e at c.put_refusal-a.ensures) (put_first c.put_text-b.ensures c.put_fields.ensures))

pub returns : goal.returns
unfolding refused_texts
returns c =
    let t : eqb (number c.args.refusal) 9 ≡ false = search rules in
    rw t (put_then c.put_refusal-a.ensures (put-none _ _))
