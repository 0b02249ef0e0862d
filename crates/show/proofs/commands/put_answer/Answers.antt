-- `show::commands::put_answer` meets its contract.
-- Assumes nothing.
use borrow.Author.Rules.{rules}
use Prim.Native.Nat.{ℕ}
use denote.Enum.Declared.{tag_of}
use mathlib.Core.List.{List, [], ◌∷◌}
use types.Run.{OneOf, miss}
use Rattle.device.specs.contracts.Answer.{the_type}
use Rattle.device.specs.Reply.{number_in}
use Rattle.device.specs.declared.Answer.TheVariants.{Refused, Accepted, Ticked, Stretched, Good, Failed}
use Rattle.device.specs.declared.Answer.{Answer}
use Rattle.device.specs.declared.Model.{Model}
use Rattle.numeral.specs.Place.{Put}
use Rattle.wording.proofs.Each.{put_one}
use Rattle.wording.specs.Text.{PutEach}
use Rattle.numeral.specs.Ascii.{ascii}
use Rattle.page.specs.Commands.{answer_texts}
use borrow.Enum.Refused.{opened}
use Rattle.show.proofs.commands.put_answer.Goals as goal

others : (m : Model) (op : ℕ) (a : Answer) (l : List ℕ) (at r : ℕ) (l' : List ℕ) → OneOf (1 ∷ 2 ∷ 3 ∷ 4 ∷ 5 ∷ []) (tag_of the_type a) → Put l at (ascii " ok") r l' → PutEach l at (answer_texts m op (number_in a)) r l'
unfolding number_in answer_texts
others m op (Refused why) l at r l' h put = absurd (miss (1 ∷ 2 ∷ 3 ∷ 4 ∷ 5 ∷ []) 0 tt h)
others m op (Accepted f t) l at r l' h put = put_one put
others m op (Ticked f t) l at r l' h put = put_one put
others m op (Stretched f t) l at r l' h put = put_one put
others m op Good l at r l' h put = put_one put
others m op Failed l at r l' h put = put_one put

pub returns-in-Refused : goal.returns-in-Refused
unfolding number_in answer_texts
returns-in-Refused c = rw (c.in-Refused.is) c.put_refused.ensures

pub returns-in_default : goal.returns-in_default
unfolding ascii
returns-in_default c = others _ _ _ _ _ _ _ ((opened c.in_default.in_default-own.keys2)) c.put_text.ensures
