-- `checker::close::judge` meets its contract.
-- Assumes nothing.
use Rattle.checker.proofs.CloseLaws.{wanted-put}
use mathlib.Core.Path.{refl}
use Rattle.item_checks.specs.Close.{line_words}
use Rattle.checker.proofs.close.judge.Goals as goal

pub returns : goal.returns
unfolding line_words
returns c =
    let put = rw c.first_bytes.ensures at c.put_words-n.ensures in
    rw (← wanted-put c.args.text.now _ refl put, ← c.first_bytes-2.ensures) c.compare.ensures
