-- `list_run::settle` meets its contract.
use Rattle.list_run.proofs.settle.Goals as goal

pub returns : goal.returns
returns c = (simp c.place_after-place.ensures, c.tell.ensures)
